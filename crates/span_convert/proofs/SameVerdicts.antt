-- Inputs of Jaeger that hold the same batches have the same verdicts.
use Rattle.std.proofs.Common.{◌≡◌, ◌↔◌, ◌++◌, ◌∷◌, ◌⊎◌, inl, inr, ℕ, List, [], length, take, refl, ap, sym, ◌∙◌, subst, arith}
use Rattle.std.proofs.lemmas.List.{append-nil}
use Rattle.std.specs.List.{AllZip}
use Rattle.span_io.specs.Causes.{cause_number}
use Rattle.span_io.specs.Limits.{AreLimits}
use Rattle.span_io.specs.Offences.{Least}
use Rattle.span_io.specs.declared.cause.Cause.{Cause}
use Rattle.span_io.specs.declared.form.Form.{Form}
use Rattle.span_io.specs.declared.form.Form.TheVariants as forms
use Rattle.span_io.specs.declared.limits.Limits.{Limits}
use Rattle.span_io.specs.declared.refusal.Refusal.{Refusal}
use Rattle.thrift_core.specs.Messages.{fields_of}
use Rattle.trace_model.specs.OtlpParts.{NotedGroup}
use Rattle.jaeger_model.specs.StatedLaws.{OneTree}
use Rattle.span_convert.specs.BatchFiles.{ProtocolWords, binary, compact, batches, HoldsBatches}
use Rattle.span_convert.specs.FramedForms.{FramedForm, RestCause, UnitsBegin, AreAllUnits, UnitOffends, RestStops, UnitsRefused}
use Rattle.span_convert.specs.private.InputLaws.{BatchLaws, InputLaws, TreeLaws}
use Rattle.span_convert.specs.SameBatches.{SaysTheSame, AreAllBatches, HoldSameBatches, SameBatches}
use Rattle.span_convert.specs.Units.{batch_form, framed_input, input_form}
use Rattle.span_convert.specs.Targets.{Target}
use Rattle.span_convert.specs.Verdicts.{Verdict, good, refused, faulted, IsVerdictOn}
use Rattle.span_convert.proofs.BatchLaws.{batch_laws}
use Rattle.span_convert.proofs.FrameLemmas.{FirstItems, first_items}
use Rattle.span_convert.proofs.RestLaws.{RestLaws, NothingLeft, ended_rests}
use Rattle.span_convert.proofs.SourceLaws.{SourceLaws, Ends, GoOn}

-- ---- pairs

module _ {A : Type 0} (R : A → A → Type 0) where
  -- the twins of the first members
  record FirstTwins (first twins : List A) : Type 0 where
    before : List A
    behind : List A
    parts : twins ≡ before ++ behind
    same : AllZip R first before

  first_twins : (first more twins : List A) → AllZip R (first ++ more) twins → FirstTwins first twins
  first_twins [] more twins h = record { before = []; behind = twins; parts = refl; same = tt }
  first_twins (x ∷ first) more [] h = absurd h
  first_twins (x ∷ first) more (y ∷ twins) h =
      let w : FirstTwins first twins = first_twins first more twins h.1 in
      record { before = y ∷ w.before; behind = w.behind; parts = ap (λ l. y ∷ l) w.parts; same = (h.0, w.same) }

  -- the twin of the last member, and those before
  record LastTwin (first : List A) (x : A) (twins : List A) : Type 0 where
    before : List A
    twin : A
    parts : twins ≡ before ++ twin ∷ []
    same : AllZip R first before
    last : R x twin

  last_twin : (first : List A) (x : A) (twins : List A) → AllZip R (first ++ x ∷ []) twins → LastTwin first x twins
  last_twin [] x [] h = absurd h
  last_twin [] x (y ∷ []) h = record { before = []; twin = y; parts = refl; same = tt; last = h.0 }
  last_twin [] x (y ∷ z ∷ twins) h = absurd h.1
  last_twin (u ∷ first) x [] h = absurd h
  last_twin (u ∷ first) x (y ∷ twins) h =
      let w : LastTwin first x twins = last_twin first x twins h.1 in
      record { before = y ∷ w.before; twin = w.twin; parts = ap (λ l. y ∷ l) w.parts; same = (h.0, w.same); last = w.last }

  module _ (S : A → A → Type 0) where
    weaker_pairs : ((x y : A) → R x y → S x y) → (xs ys : List A) → AllZip R xs ys → AllZip S xs ys
    weaker_pairs f [] [] h = tt
    weaker_pairs f [] (y ∷ ys) h = absurd h
    weaker_pairs f (x ∷ xs) [] h = absurd h
    weaker_pairs f (x ∷ xs) (y ∷ ys) h = (f x y h.0, weaker_pairs f xs ys h.1)

    turned_pairs : ((x y : A) → R x y → S y x) → (xs ys : List A) → AllZip R xs ys → AllZip S ys xs
    turned_pairs f [] [] h = tt
    turned_pairs f [] (y ∷ ys) h = absurd h
    turned_pairs f (x ∷ xs) [] h = absurd h
    turned_pairs f (x ∷ xs) (y ∷ ys) h = (f x y h.0, turned_pairs f xs ys h.1)

-- ---- one unit

-- Of each group of which the one is a text the other is one, and each cause that counts in the one counts in the other.
record SaysAlso (from other : FramedForm) (unit twin : List ℕ) : Type 0 where
  groups : (group : NotedGroup) → from.IsUnit unit group → other.IsUnit twin group
  causes : (cause : Cause) → Least (from.Offends unit) (cause_number cause) → Least (other.Offends twin) (cause_number cause)

module _ (protocol another : ProtocolWords) (T : OneTree protocol.spells another.spells) (L : BatchLaws another) (unit twin : List ℕ) (h : SaysTheSame protocol.spells another.spells unit twin) where
  said_also : SaysAlso (batch_form protocol) (batch_form another) unit twin
  said_also = record {
    groups = λ group is. record {
      batch = is.batch;
      text = (L.anywhere.means h.items h.others h.plain twin h.padded h.again h.second is.batch).0 ((T.same_batch (fields_of h.items) unit h.plain h.first h.again is.batch).0 is.text);
      means = is.means;
      remarks = is.remarks;
    };
    causes = λ cause least. (L.anywhere.offends h.items h.others h.plain twin h.padded h.again h.second cause).0 ((T.same_cause (fields_of h.items) unit h.plain h.first h.again cause).0 least);
  }

  said_before : SaysAlso (batch_form another) (batch_form protocol) twin unit
  said_before = record {
    groups = λ group is. record {
      batch = is.batch;
      text = (T.same_batch (fields_of h.items) unit h.plain h.first h.again is.batch).1 ((L.anywhere.means h.items h.others h.plain twin h.padded h.again h.second is.batch).1 is.text);
      means = is.means;
      remarks = is.remarks;
    };
    causes = λ cause least. (T.same_cause (fields_of h.items) unit h.plain h.first h.again cause).1 ((L.anywhere.offends h.items h.others h.plain twin h.padded h.again h.second cause).1 least);
  }

-- ---- an input whose batches say also what those of another say

record HoldsAlso (protocol another : ProtocolWords) (limits : Limits) (bytes others : List ℕ) : Type 0 where
  units : List (List ℕ)
  twins : List (List ℕ)
  all : AreAllBatches protocol limits bytes units
  all_twins : AreAllBatches another limits others twins
  same : AllZip (SaysAlso (batch_form protocol) (batch_form another)) units twins

module _ (protocol another : ProtocolWords) (L : BatchLaws protocol) (limits : Limits) (valid : AreLimits limits) (bytes others : List ℕ) (H : HoldsAlso protocol another limits bytes others) where
  abbrev from : FramedForm
  from = batch_form protocol

  abbrev other : FramedForm
  other = batch_form another

  S : SourceLaws from
  S = batch_laws protocol L

  R : RestLaws from NothingLeft (RestCause from)
  R = ended_rests from L.step

  nothing_begins : Ends from limits []
  nothing_begins = R.fine_ends limits 0 [] valid (refl, omega arith)

  -- the units that an input begins with are the first of all
  first_of_all : (units : List (List ℕ)) (rest : List ℕ) → HoldsBatches protocol limits bytes units rest → (more : List (List ℕ)) × (H.units ≡ units ++ more)
  first_of_all units rest held = of (S.walks limits bytes units H.units rest [] held H.all.held)
    where
      of : GoOn from limits units H.units rest [] ⊎ GoOn from limits H.units units [] rest → (more : List (List ℕ)) × (H.units ≡ units ++ more)
      of (inl w) = (w.behind, w.parts)
      of (inr w) = ([], sym (w.ended nothing_begins).0 ∙ sym (append-nil units))

  -- where nothing begins at the rest, they are all, and nothing is left
  all_of_them : (units : List (List ℕ)) (rest : List ℕ) → HoldsBatches protocol limits bytes units rest → Ends from limits rest → (H.units ≡ units) × (rest ≡ [])
  all_of_them units rest held ends = of (S.walks limits bytes units H.units rest [] held H.all.held)
    where
      of : GoOn from limits units H.units rest [] ⊎ GoOn from limits H.units units [] rest → (H.units ≡ units) × (rest ≡ [])
      of (inl w) = w.ended ends
      of (inr w) = let e : (units ≡ H.units) × ([] ≡ rest) = w.ended nothing_begins in (sym e.0, sym e.1)

  -- the first units of the other input, whose groups are the same
  twins_held : (before behind : List (List ℕ)) → H.twins ≡ before ++ behind → FirstItems (batches another) limits.unit before (take limits.binary others)
  twins_held before behind parts =
      first_items (batches another) limits.unit before behind [] (take limits.binary others) (subst (λ (l : List (List ℕ)). HoldsBatches another limits others l []) parts H.all_twins.held)

  groups_also : (units twins : List (List ℕ)) (groups : List NotedGroup) → AllZip (SaysAlso from other) units twins → AllZip from.IsUnit units groups → AllZip other.IsUnit twins groups
  groups_also [] [] [] s h = tt
  groups_also [] [] (g ∷ groups) s h = absurd h
  groups_also [] (t ∷ twins) groups s h = absurd s
  groups_also (u ∷ units) [] groups s h = absurd s
  groups_also (u ∷ units) (t ∷ twins) [] s h = absurd h
  groups_also (u ∷ units) (t ∷ twins) (g ∷ groups) s h = (s.0.groups g h.0, groups_also units twins groups s.1 h.1)

  twins_of : (first : List (List ℕ)) (rest : List ℕ) → HoldsBatches protocol limits bytes first rest → FirstTwins (SaysAlso from other) first H.twins
  twins_of first rest held =
      let all = first_of_all first rest held in
      first_twins (SaysAlso from other) first all.0 H.twins (subst (λ (l : List (List ℕ)). AllZip (SaysAlso from other) l H.twins) all.1 H.same)

  -- ---- what is said of it

  begins : (groups : List NotedGroup) → UnitsBegin from limits bytes groups → UnitsBegin other limits others groups
  begins groups h =
      let w : FirstTwins (SaysAlso from other) h.units_then.units H.twins = twins_of h.units_then.units h.rest h.units_then.held in
      let f : FirstItems (batches another) limits.unit w.before (take limits.binary others) = twins_held w.before w.behind w.parts in
      record { rest = f.rest; units_then = record { units = w.before; held = f.items_then; are_groups = groups_also h.units_then.units w.before groups w.same h.units_then.are_groups } }

  whole : (groups : List NotedGroup) → AreAllUnits from limits bytes groups → AreAllUnits other limits others groups
  whole groups h =
      let e : (H.units ≡ h.units_then.units) × ([] ≡ []) = all_of_them h.units_then.units [] h.units_then.held nothing_begins in
      record {
        units_then = record { units = H.twins; held = H.all_twins.held; are_groups = groups_also H.units H.twins groups H.same (subst (λ (l : List (List ℕ)). AllZip from.IsUnit l groups) (sym e.0) h.units_then.are_groups) };
        within = H.all_twins.within;
      }

  offends : (groups : List NotedGroup) (cause : Cause) → UnitOffends from limits bytes groups cause → UnitOffends other limits others groups cause
  offends groups cause h =
      let w : FirstTwins (SaysAlso from other) (h.before ++ h.unit ∷ []) H.twins = twins_of (h.before ++ h.unit ∷ []) h.rest h.held in
      let l : LastTwin (SaysAlso from other) h.before h.unit w.before = last_twin (SaysAlso from other) h.before h.unit w.before w.same in
      let f : FirstItems (batches another) limits.unit w.before (take limits.binary others) = twins_held w.before w.behind w.parts in
      record {
        before = l.before;
        unit = l.twin;
        rest = f.rest;
        held = subst (λ (x : List (List ℕ)). HoldsBatches another limits others x f.rest) l.parts f.items_then;
        are_groups = groups_also h.before l.before groups l.same h.are_groups;
        least = l.last.causes cause h.least;
      }

  -- nothing is left behind its batches
  never_stops : (groups : List NotedGroup) (cause : Cause) → RestStops from limits bytes groups cause → ⊥
  never_stops groups cause s =
      let e : (H.units ≡ s.units_then.units) × (s.rest ≡ []) = all_of_them s.units_then.units s.rest s.units_then.held (R.rest_ends limits (length bytes) s.rest cause s.why) in
      R.not_both limits (length bytes) s.rest cause valid (e.1, H.all.within) s.why

  refuses : (groups : List NotedGroup) (refusal : Refusal) → UnitsRefused from limits bytes groups refusal → UnitsRefused other limits others groups refusal
  refuses groups refusal h = record { why = inl (of h.why); number = h.number }
    where
      of : UnitOffends from limits bytes groups refusal.cause ⊎ RestStops from limits bytes groups refusal.cause → UnitOffends other limits others groups refusal.cause
      of (inl o) = offends groups refusal.cause o
      of (inr s) = absurd (never_stops groups refusal.cause s)

  verdict_also : (to : Target) (verdict : Verdict) → IsVerdictOn (framed_input from) to limits bytes verdict → IsVerdictOn (framed_input other) to limits others verdict
  verdict_also to (good text tally) h = record { noted = h.noted; whole = whole h.noted h.whole; held = h.held; is_text = h.is_text; counts = h.counts }
  verdict_also to (refused refusal text) h = record { noted = h.noted; refuses = refuses h.noted refusal h.refuses; held = h.held; is_text = h.is_text }
  verdict_also to (faulted found text) h = record {
    noted = h.noted;
    next = h.next;
    begins = begins (h.noted ++ h.next ∷ []) h.begins;
    held = h.held;
    fault = h.fault;
    number = h.number;
    is_text = h.is_text;
  }

-- ---- two inputs that hold the same batches

module _ (protocol another : ProtocolWords) (T : OneTree protocol.spells another.spells) (L : BatchLaws protocol) (M : BatchLaws another) (limits : Limits) (valid : AreLimits limits) (bytes others : List ℕ) (h : HoldSameBatches protocol another limits bytes others) where
  holds_also : HoldsAlso protocol another limits bytes others
  holds_also = record {
    units = h.units;
    twins = h.twins;
    all = h.all;
    all_twins = h.all_twins;
    same = weaker_pairs (SaysTheSame protocol.spells another.spells) (SaysAlso (batch_form protocol) (batch_form another)) (said_also protocol another T M) h.units h.twins h.same;
  }

  held_before : HoldsAlso another protocol limits others bytes
  held_before = record {
    units = h.twins;
    twins = h.units;
    all = h.all_twins;
    all_twins = h.all;
    same = turned_pairs (SaysTheSame protocol.spells another.spells) (SaysAlso (batch_form another) (batch_form protocol)) (said_before protocol another T M) h.units h.twins h.same;
  }

  both_verdicts : (to : Target) (verdict : Verdict) → IsVerdictOn (framed_input (batch_form protocol)) to limits bytes verdict ↔ IsVerdictOn (framed_input (batch_form another)) to limits others verdict
  both_verdicts to verdict = (verdict_also protocol another L limits valid bytes others holds_also to verdict, verdict_also another protocol M limits valid others bytes held_before to verdict)

pub same_verdicts : InputLaws → TreeLaws → (from other : Form) (to : Target) (limits : Limits) (bytes others : List ℕ) → AreLimits limits → SameBatches limits from bytes other others
    → (verdict : Verdict) → IsVerdictOn (input_form from) to limits bytes verdict ↔ IsVerdictOn (input_form other) to limits others verdict
same_verdicts L T forms.JaegerBinary forms.JaegerBinary to limits bytes others valid h verdict = both_verdicts binary binary T.in_binary L.binary L.binary limits valid bytes others h to verdict
same_verdicts L T forms.JaegerBinary forms.JaegerCompact to limits bytes others valid h verdict = both_verdicts binary compact T.to_compact L.binary L.compact limits valid bytes others h to verdict
same_verdicts L T forms.JaegerCompact forms.JaegerBinary to limits bytes others valid h verdict = both_verdicts compact binary T.to_binary L.compact L.binary limits valid bytes others h to verdict
same_verdicts L T forms.JaegerCompact forms.JaegerCompact to limits bytes others valid h verdict = both_verdicts compact compact T.in_compact L.compact L.compact limits valid bytes others h to verdict
same_verdicts L T _ _ to limits bytes others valid h verdict = absurd h
