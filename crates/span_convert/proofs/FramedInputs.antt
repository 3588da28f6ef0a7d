-- Inputs of frames: each has one list of groups, or is refused in one way, whatever is fine of the rest behind its units.
use Rattle.std.proofs.Common.{◌≡◌, ◌+◌, ◌≤◌, ◌++◌, ◌∷◌, ◌⊎◌, inl, inr, ℕ, List, [], length, refl, ap, sym, ◌∙◌, subst, arith}
use Rattle.std.specs.List.{AllByRecursion, AllZip}
use Rattle.std.proofs.lemmas.List.{append_assoc, append-nil, length-append}
use Rattle.std.proofs.lemmas.List.Elements.{All-nil, All-cons}
use Rattle.std.proofs.lemmas.Slice.Zip.{AllZip-long}
use Rattle.span_io.specs.Causes.{cause_number}
use Rattle.span_io.specs.Limits.{AreLimits}
use Rattle.span_io.proofs.OffenceLaws.{one_cause}
use Rattle.span_io.specs.Offences.{Least}
use Rattle.span_io.specs.declared.cause.Cause.{Cause}
use Rattle.span_io.specs.declared.form.Form.TheVariants as forms
use Rattle.span_io.specs.declared.limits.Limits.{Limits}
use Rattle.span_io.specs.declared.refusal.Refusal.{Refusal}
use Rattle.trace_model.specs.Proper.{IsProperGroup}
use Rattle.trace_model.specs.Soundness.{IsSoundGroup, IsSoundTrace}
use Rattle.trace_model.specs.OtlpParts.{NotedGroup}
use Rattle.otlp_proto.specs.StatedLaws.{SomeGroup}
use Rattle.map_jaeger.specs.StatedLaws.{ReadIsSound, ReadIsProper}
use Rattle.span_convert.specs.BatchFiles.{ProtocolWords}
use Rattle.span_convert.specs.FramedForms.{FramedForm, RestCause, UnitsThen, UnitsBegin, AreAllUnits, UnitOffends, RestStopsBy, UnitsRefusedBy}
use Rattle.span_convert.specs.private.InputLaws.{RequestLaws, BatchLaws}
use Rattle.span_convert.specs.Units.{InputForm, request_form, batch_form, framed_input, input_form, groups_in}
use Rattle.span_convert.specs.Verdicts.{IsProperTrace}
use Rattle.span_convert.proofs.BatchLaws.{batch_laws}
use Rattle.span_convert.proofs.CauseNumbers.{same_cause}
use Rattle.span_convert.proofs.InputForms.{ComesFirst, InputFormLaws, IsDecidedInput, SomeInput}
use Rattle.span_convert.proofs.RequestLaws.{head_is, tail_is, request_laws}
use Rattle.span_convert.proofs.RestLaws.{RestLaws, AreUnitsThen, NothingLeft, ended_rests}
use Rattle.span_convert.proofs.SourceLaws.{AreBytes, AllBytes, Ends, HeldBy, GoOn, AllUnits, SourceLaws, IsDecidedUnit, UnitLaws}
use Rattle.span_convert.proofs.UnitGroups.{GroupIsProper, request_unit_laws, batch_unit_laws}

-- ---- lists

nothing : {A : Type 0} (l : List A) → length l ≤ 0 → l ≡ []
nothing [] h = refl
nothing (x ∷ l) h = absurd (omega arith)

-- groups that come first among each other are the same
pub both_first : (a b : List NotedGroup) → ComesFirst a b → ComesFirst b a → a ≡ b
both_first a b h g = g.parts ∙ ap (λ l. b ++ l) (nothing g.more (omega (arith, ap length g.parts, ap length h.parts, length-append b g.more, length-append a h.more))) ∙ append-nil b

-- what stands behind as many members of one list is the same
next_is : {A : Type 0} (before others : List A) (x y : A) (behind : List A) → length before ≡ length others → others ++ y ∷ [] ≡ (before ++ x ∷ []) ++ behind → x ≡ y
next_is [] [] x y behind n e = sym (head_is y x [] behind e)
next_is [] (o ∷ others) x y behind n e = absurd (omega (arith, n))
next_is (b ∷ before) [] x y behind n e = absurd (omega (arith, n))
next_is (b ∷ before) (o ∷ others) x y behind n e = next_is before others x y behind (omega (arith, n)) (tail_is o b (others ++ y ∷ []) ((before ++ x ∷ []) ++ behind) e)

same_refusal : (r q : Refusal) → r.unit ≡ q.unit → r.cause ≡ q.cause → r ≡ q
same_refusal r q e f = ap (λ u. record { unit = u; cause = r.cause }) e ∙ ap (λ c. record { unit = q.unit; cause = c }) f

-- what begins with units, and is whole or refused for a cause of this kind
abbrev pub read_input : FramedForm → (Limits → ℕ → List ℕ → Cause → Type 0) → (Limits → List ℕ → List NotedGroup → Type 0) → InputForm
read_input from Why Whole = record { Begins = UnitsBegin from; IsWhole = Whole; Refuses = UnitsRefusedBy from Why }

module _ (from : FramedForm) (S : SourceLaws from) where
  -- ---- groups of units

  -- of units, and of them and others behind them
  first_groups : (units behind : List (List ℕ)) (a b : List NotedGroup) → AllZip from.IsUnit units a → AllZip from.IsUnit (units ++ behind) b → ComesFirst a b
  first_groups [] behind [] b h g = record { more = b; parts = refl }
  first_groups [] behind (x ∷ a) b h g = absurd h
  first_groups (unit ∷ units) behind [] b h g = absurd h
  first_groups (unit ∷ units) behind (x ∷ a) [] h g = absurd g
  first_groups (unit ∷ units) behind (x ∷ a) (y ∷ b) h g =
      let w : ComesFirst a b = first_groups units behind a b h.1 g.1 in
      let e : x ≡ y = S.one_group unit x y h.0 g.0 in
      let f : b ≡ a ++ w.more = w.parts in
      record { more = w.more; parts = cc }

  -- the unit is a text of no group
  abbrev Halts : List ℕ → Type 0
  Halts unit = (g : NotedGroup) → from.IsUnit unit g → ⊥

  bad_halts : (unit : List ℕ) (n : ℕ) → Least (from.Offends unit) n → Halts unit
  bad_halts unit n least g is = S.fine unit g is least.place n least.offence

  no_groups : (before : List (List ℕ)) (unit : List ℕ) (behind : List (List ℕ)) (groups : List NotedGroup) → Halts unit → AllZip from.IsUnit ((before ++ unit ∷ []) ++ behind) groups → ⊥
  no_groups [] unit behind [] halts h = h
  no_groups [] unit behind (g ∷ groups) halts h = halts g h.0
  no_groups (x ∷ before) unit behind [] halts h = h
  no_groups (x ∷ before) unit behind (g ∷ groups) halts h = no_groups before unit behind groups halts h.1

  -- of units that come first among others and one that halts
  first_before : (before : List (List ℕ)) (unit : List ℕ) (units behind : List (List ℕ)) (a b : List NotedGroup) → Halts unit → before ++ unit ∷ [] ≡ units ++ behind → AllZip from.IsUnit before a → AllZip from.IsUnit units b → ComesFirst b a
  first_before before unit [] behind a [] halts e h g = record { more = a; parts = refl }
  first_before before unit [] behind a (y ∷ b) halts e h g = absurd g
  first_before before unit (u ∷ units) behind a [] halts e h g = absurd g
  first_before [] unit (u ∷ units) behind a (y ∷ b) halts e h g = absurd (halts y (subst (λ (l : List ℕ). from.IsUnit l y) (sym (head_is unit u [] (units ++ behind) e)) g.0))
  first_before (v ∷ before) unit (u ∷ units) behind [] (y ∷ b) halts e h g = absurd h
  first_before (v ∷ before) unit (u ∷ units) behind (x ∷ a) (y ∷ b) halts e h g =
      let w : ComesFirst b a = first_before before unit units behind a b halts (tail_is v u (before ++ unit ∷ []) (units ++ behind) e) h.1 g.1 in
      let same : x ≡ y = S.one_group u x y (subst (λ (l : List ℕ). from.IsUnit l x) (head_is v u (before ++ unit ∷ []) (units ++ behind) e) h.0) g.0 in
      let f : a ≡ b ++ w.more = w.parts in
      record { more = w.more; parts = cc }

  -- the units of the first groups
  record UnitsOf (units : List (List ℕ)) (groups : List NotedGroup) : Type 0 where
    first : List (List ℕ)
    behind : List (List ℕ)
    parts : units ≡ first ++ behind
    are_groups : AllZip from.IsUnit first groups

  units_of : (units : List (List ℕ)) (a b : List NotedGroup) → AllZip from.IsUnit units (a ++ b) → UnitsOf units a
  units_of units [] b h = record { first = []; behind = units; parts = refl; are_groups = tt }
  units_of [] (x ∷ a) b h = absurd h
  units_of (unit ∷ units) (x ∷ a) b h =
      let w : UnitsOf units a = units_of units a b h.1 in
      record { first = unit ∷ w.first; behind = w.behind; parts = ap (λ l. unit ∷ l) w.parts; are_groups = (h.0, w.are_groups) }

  module _ (limits : Limits) (text : List ℕ) where
    -- the first of the units that are held are held
    held_first : (first more : List (List ℕ)) (rest : List ℕ) → from.HoldsUnits limits text (first ++ more) rest → HeldBy from limits text first
    held_first first [] rest h = record { rest = rest; held = subst (λ (l : List (List ℕ)). from.HoldsUnits limits text l rest) (append-nil first) h }
    held_first first (x ∷ more) rest h =
        let w : HeldBy from limits text (first ++ x ∷ []) = held_first (first ++ x ∷ []) more rest (subst (λ (l : List (List ℕ)). from.HoldsUnits limits text l rest) (sym (append_assoc first (x ∷ []) more)) h) in
        S.before limits text first x w.rest w.held

    -- ---- what an input begins with

    compare : (a b : List NotedGroup) → UnitsBegin from limits text a → UnitsBegin from limits text b → ComesFirst a b ⊎ ComesFirst b a
    compare a b h g = of (S.walks limits text h.units_then.units g.units_then.units h.rest g.rest h.units_then.held g.units_then.held)
      where
        of : GoOn from limits h.units_then.units g.units_then.units h.rest g.rest ⊎ GoOn from limits g.units_then.units h.units_then.units g.rest h.rest → ComesFirst a b ⊎ ComesFirst b a
        of (inl w) = inl (first_groups h.units_then.units w.behind a b h.units_then.are_groups (subst (λ (l : List (List ℕ)). AllZip from.IsUnit l b) w.parts g.units_then.are_groups))
        of (inr w) = inr (first_groups g.units_then.units w.behind b a g.units_then.are_groups (subst (λ (l : List (List ℕ)). AllZip from.IsUnit l a) w.parts h.units_then.are_groups))

    begins_with : (units : List (List ℕ)) (groups : List NotedGroup) → HeldBy from limits text units → AllZip from.IsUnit units groups → UnitsBegin from limits text groups
    begins_with units groups w are = record { rest = w.rest; units_then = record { units = units; held = w.held; are_groups = are } }

    shorter : (a b : List NotedGroup) → UnitsBegin from limits text (a ++ b) → UnitsBegin from limits text a
    shorter a b h =
        let w : UnitsOf h.units_then.units a = units_of h.units_then.units a b h.units_then.are_groups in
        begins_with w.first a (held_first w.first w.behind h.rest (subst (λ (l : List (List ℕ)). from.HoldsUnits limits text l h.rest) w.parts h.units_then.held)) w.are_groups

    -- ---- where nothing begins at the rest

    last_groups : (a b : List NotedGroup) (rest other : List ℕ) → Ends from limits rest → UnitsThen from limits text a rest → UnitsThen from limits text b other → ComesFirst b a
    last_groups a b rest other ends h g = of (S.walks limits text h.units g.units rest other h.held g.held)
      where
        of : GoOn from limits h.units g.units rest other ⊎ GoOn from limits g.units h.units other rest → ComesFirst b a
        of (inl w) = first_groups g.units [] b a g.are_groups (subst (λ (l : List (List ℕ)). AllZip from.IsUnit l a) (sym (w.ended ends).0 ∙ sym (append-nil g.units)) h.are_groups)
        of (inr w) = first_groups g.units w.behind b a g.are_groups (subst (λ (l : List (List ℕ)). AllZip from.IsUnit l a) w.parts h.are_groups)

    same_rest : (a b : List NotedGroup) (rest other : List ℕ) → Ends from limits rest → Ends from limits other → UnitsThen from limits text a rest → UnitsThen from limits text b other → rest ≡ other
    same_rest a b rest other ends end h g = elim (S.walks limits text h.units g.units rest other h.held g.held) as (λ w. rest ≡ other) [
      | inl w ↦ (w.ended ends).1
      | inr w ↦ sym (w.ended end).1
    ]

    -- no unit offends there
    not_beyond : (a b : List NotedGroup) (rest : List ℕ) (cause : Cause) → Ends from limits rest → UnitsThen from limits text a rest → UnitOffends from limits text b cause → ⊥
    not_beyond a b rest cause ends h o = of (S.walks limits text h.units (o.before ++ o.unit ∷ []) rest o.rest h.held o.held)
      where
        never : (behind : List (List ℕ)) → h.units ≡ (o.before ++ o.unit ∷ []) ++ behind → ⊥
        never behind e = no_groups o.before o.unit behind a (bad_halts o.unit (cause_number cause) o.least) (subst (λ (l : List (List ℕ)). AllZip from.IsUnit l a) e h.are_groups)

        of : GoOn from limits h.units (o.before ++ o.unit ∷ []) rest o.rest ⊎ GoOn from limits (o.before ++ o.unit ∷ []) h.units o.rest rest → ⊥
        of (inl w) = never [] (sym (w.ended ends).0 ∙ sym (append-nil (o.before ++ o.unit ∷ [])))
        of (inr w) = never w.behind w.parts

    same_unit : (a b : List NotedGroup) (r q : Cause) → a ≡ b → (h : UnitOffends from limits text a r) (g : UnitOffends from limits text b q) → h.unit ≡ g.unit
    same_unit a b r q e h g = of (S.walks limits text (h.before ++ h.unit ∷ []) (g.before ++ g.unit ∷ []) h.rest g.rest h.held g.held)
      where
        as_many : length h.before ≡ length g.before
        as_many = sym (AllZip-long from.IsUnit h.before a h.are_groups) ∙ ap length e ∙ AllZip-long from.IsUnit g.before b g.are_groups

        of : GoOn from limits (h.before ++ h.unit ∷ []) (g.before ++ g.unit ∷ []) h.rest g.rest ⊎ GoOn from limits (g.before ++ g.unit ∷ []) (h.before ++ h.unit ∷ []) g.rest h.rest → h.unit ≡ g.unit
        of (inl w) = next_is h.before g.before h.unit g.unit w.behind as_many w.parts
        of (inr w) = sym (next_is g.before h.before g.unit h.unit w.behind (sym as_many) w.parts)

    -- ---- refusals, and why the rest isn't read

    module _ (Fine : Limits → ℕ → List ℕ → Type 0) (Why : Limits → ℕ → List ℕ → Cause → Type 0) (R : RestLaws from Fine Why) where
      abbrev Refuses : List NotedGroup → Refusal → Type 0
      Refuses noted refusal = UnitsRefusedBy from Why limits text noted refusal

      abbrev Stops : List NotedGroup → Cause → Type 0
      Stops noted cause = RestStopsBy from Why limits text noted cause

      refused_begins : (a : List NotedGroup) (r : Refusal) → Refuses a r → UnitsBegin from limits text a
      refused_begins a r h = of h.why
        where
          of : UnitOffends from limits text a r.cause ⊎ Stops a r.cause → UnitsBegin from limits text a
          of (inl o) = begins_with o.before a (S.before limits text o.before o.unit o.rest o.held) o.are_groups
          of (inr s) = record { rest = s.rest; units_then = s.units_then }

      refused_ends : (a b : List NotedGroup) (r : Refusal) → Refuses a r → UnitsBegin from limits text b → ComesFirst b a
      refused_ends a b r h g = of h.why
        where
          by_unit : (o : UnitOffends from limits text a r.cause) → GoOn from limits (o.before ++ o.unit ∷ []) g.units_then.units o.rest g.rest ⊎ GoOn from limits g.units_then.units (o.before ++ o.unit ∷ []) g.rest o.rest → ComesFirst b a
          by_unit o (inl w) = absurd (no_groups o.before o.unit w.behind b (bad_halts o.unit (cause_number r.cause) o.least) (subst (λ (l : List (List ℕ)). AllZip from.IsUnit l b) w.parts g.units_then.are_groups))
          by_unit o (inr w) = first_before o.before o.unit g.units_then.units w.behind a b (bad_halts o.unit (cause_number r.cause) o.least) w.parts o.are_groups g.units_then.are_groups

          of : UnitOffends from limits text a r.cause ⊎ Stops a r.cause → ComesFirst b a
          of (inl o) = by_unit o (S.walks limits text (o.before ++ o.unit ∷ []) g.units_then.units o.rest g.rest o.held g.units_then.held)
          of (inr s) = last_groups a b s.rest g.rest (R.rest_ends limits (length text) s.rest r.cause s.why) s.units_then g.units_then

      same_groups : (a b : List NotedGroup) (r q : Refusal) → Refuses a r → Refuses b q → a ≡ b
      same_groups a b r q h g = both_first a b (refused_ends b a q g (refused_begins a r h)) (refused_ends a b r h (refused_begins b q g))

      same_why : (a b : List NotedGroup) (r q : Cause) → a ≡ b → UnitOffends from limits text a r ⊎ Stops a r → UnitOffends from limits text b q ⊎ Stops b q → r ≡ q
      same_why a b r q e (inl h) (inl g) = same_cause r q (one_cause (from.Offends g.unit) (cause_number r) (cause_number q) (subst (λ (u : List ℕ). Least (from.Offends u) (cause_number r)) (same_unit a b r q e h g) h.least) g.least)
      same_why a b r q e (inl h) (inr g) = absurd (not_beyond b a g.rest r (R.rest_ends limits (length text) g.rest q g.why) g.units_then h)
      same_why a b r q e (inr h) (inl g) = absurd (not_beyond a b h.rest q (R.rest_ends limits (length text) h.rest r h.why) h.units_then g)
      same_why a b r q e (inr h) (inr g) =
          let same : h.rest ≡ g.rest = same_rest a b h.rest g.rest (R.rest_ends limits (length text) h.rest r h.why) (R.rest_ends limits (length text) g.rest q g.why) h.units_then g.units_then in
          R.one_cause limits (length text) g.rest r q (subst (λ (l : List ℕ). Why limits (length text) l r) same h.why) g.why

      refused_once : (a b : List NotedGroup) (r q : Refusal) → Refuses a r → Refuses b q → (a ≡ b) × (r ≡ q)
      refused_once a b r q h g =
          let e : a ≡ b = same_groups a b r q h g in
          (e, same_refusal r q (h.number ∙ ap (λ (l : List NotedGroup). length l + 1) e ∙ sym g.number) (same_why a b r.cause q.cause e h.why g.why))

      read_or_refused : AreLimits limits → (a b : List NotedGroup) (r : Refusal) → AreUnitsThen from Fine limits text a → Refuses b r → ⊥
      read_or_refused valid a b r h g = of g.why
        where
          ends : Ends from limits h.rest
          ends = R.fine_ends limits (length text) h.rest valid h.fine

          of : UnitOffends from limits text b r.cause ⊎ Stops b r.cause → ⊥
          of (inl o) = not_beyond a b h.rest r.cause ends h.units_then o
          of (inr s) =
              let same : s.rest ≡ h.rest = same_rest b a s.rest h.rest (R.rest_ends limits (length text) s.rest r.cause s.why) ends s.units_then h.units_then in
              R.not_both limits (length text) h.rest r.cause valid h.fine (subst (λ (l : List ℕ). Why limits (length text) l r.cause) same s.why)

  -- ---- all inputs

  module _ (Fine : Limits → ℕ → List ℕ → Type 0) (Why : Limits → ℕ → List ℕ → Cause → Type 0) (R : RestLaws from Fine Why)
      (Whole : Limits → List ℕ → List NotedGroup → Type 0) where
    pub read_laws : ((limits : Limits) (text : List ℕ) (a : List NotedGroup) → Whole limits text a → AreUnitsThen from Fine limits text a) → InputFormLaws (read_input from Why Whole)
    read_laws read = record {
      compare = compare;
      shorter = shorter;
      whole_begins = λ limits text a h. (let w : AreUnitsThen from Fine limits text a = read limits text a h in record { rest = w.rest; units_then = w.units_then });
      whole_ends = λ limits text a b valid h g.
          (let w : AreUnitsThen from Fine limits text a = read limits text a h in
          last_groups limits text a b w.rest g.rest (R.fine_ends limits (length text) w.rest valid w.fine) w.units_then g.units_then);
      refused_begins = λ limits text a r h. inr (refused_begins limits text Fine Why R a r h);
      refused_ends = λ limits text a b r valid h g. refused_ends limits text Fine Why R a b r h g;
      whole_or_refused = λ limits text a b r valid h g. read_or_refused limits text Fine Why R valid a b r (read limits text a h) g;
      refused_once = λ limits text a b r q valid h g. refused_once limits text Fine Why R a b r q h g;
    }

  -- ---- each input has groups, or is refused behind some

  module _ (U : UnitLaws from) where
    sound_groups : (units : List (List ℕ)) (groups : List NotedGroup) → AllZip from.IsUnit units groups → IsSoundTrace (groups_in groups)
    sound_groups [] [] h = All-nil IsSoundGroup
    sound_groups [] (g ∷ groups) h = absurd h
    sound_groups (unit ∷ units) [] h = absurd h
    sound_groups (unit ∷ units) (g ∷ groups) h = All-cons IsSoundGroup g.means (groups_in groups) (U.sound unit g h.0) (sound_groups units groups h.1)

    proper_groups : (units : List (List ℕ)) (groups : List NotedGroup) → AllBytes units → AllZip from.IsUnit units groups → IsProperTrace (groups_in groups)
    proper_groups [] [] all h = All-nil IsProperGroup
    proper_groups [] (g ∷ groups) all h = absurd h
    proper_groups (unit ∷ units) [] all h = absurd h
    proper_groups (unit ∷ units) (g ∷ groups) all h = All-cons IsProperGroup g.means (groups_in groups) (U.proper unit g all.0 h.0) (proper_groups units groups all.1 h.1)

    -- the first of the units in which an offence counts, and the groups before it
    record FirstOffence (units : List (List ℕ)) : Type 0 where
      before : List (List ℕ)
      unit : List ℕ
      more : List (List ℕ)
      parts : units ≡ (before ++ unit ∷ []) ++ more
      groups : List NotedGroup
      are_groups : AllZip from.IsUnit before groups
      cause : Cause
      least : Least (from.Offends unit) (cause_number cause)

    -- the groups that they are all texts of
    record AllGroups (units : List (List ℕ)) : Type 0 where
      groups : List NotedGroup
      are_groups : AllZip from.IsUnit units groups

    by_unit : (unit : List ℕ) (units : List (List ℕ)) → IsDecidedUnit from unit → FirstOffence units ⊎ AllGroups units → FirstOffence (unit ∷ units) ⊎ AllGroups (unit ∷ units)
    by_unit unit units (inl (g, is)) (inl w) = inl (record { before = unit ∷ w.before; unit = w.unit; more = w.more; parts = ap (λ l. unit ∷ l) w.parts; groups = g ∷ w.groups; are_groups = (is, w.are_groups); cause = w.cause; least = w.least })
    by_unit unit units (inl (g, is)) (inr w) = inr (record { groups = g ∷ w.groups; are_groups = (is, w.are_groups) })
    by_unit unit units (inr (cause, least)) w = inl (record { before = []; unit = unit; more = units; parts = refl; groups = []; are_groups = tt; cause = cause; least = least })

    decided_units : (units : List (List ℕ)) → AllBytes units → AllByRecursion from.Tells units → FirstOffence units ⊎ AllGroups units
    decided_units [] all framed = inr (record { groups = []; are_groups = tt })
    decided_units (unit ∷ units) all framed = by_unit unit units (U.decides unit all.0 framed.0) (decided_units units all.1 framed.1)

    module _ (Fine : Limits → ℕ → List ℕ → Type 0) (Why : Limits → ℕ → List ℕ → Cause → Type 0) (R : RestLaws from Fine Why)
        (Whole : Limits → List ℕ → List NotedGroup → Type 0) (whole : (limits : Limits) (text : List ℕ) (groups : List NotedGroup) → AreUnitsThen from Fine limits text groups → Whole limits text groups) where
      module _ (limits : Limits) (text : List ℕ) where
        abbrev Decided : Type 0
        Decided = IsDecidedInput (read_input from Why Whole) limits text

        at_offence : (w : AllUnits from limits text) → FirstOffence w.units → Decided
        at_offence w h =
            let u : HeldBy from limits text (h.before ++ h.unit ∷ []) = held_first limits text (h.before ++ h.unit ∷ []) h.more w.rest (subst (λ (l : List (List ℕ)). from.HoldsUnits limits text l w.rest) h.parts w.held) in
            inr (
              h.groups,
              record { unit = length h.groups + 1; cause = h.cause },
              record {
                why = inl (record { before = h.before; unit = h.unit; rest = u.rest; held = u.held; are_groups = h.are_groups; least = h.least });
                number = refl;
              },
            )

        at_rest : (w : AllUnits from limits text) → AllGroups w.units → Fine limits (length text) w.rest ⊎ ((cause : Cause) × Why limits (length text) w.rest cause) → Decided
        at_rest w f (inl fine) = inl (
          f.groups,
          whole limits text f.groups (record { rest = w.rest; units_then = record { units = w.units; held = w.held; are_groups = f.are_groups }; fine = fine }),
        )
        at_rest w f (inr (cause, why)) = inr (
          f.groups,
          record { unit = length f.groups + 1; cause = cause },
          record {
            why = inr (record { rest = w.rest; units_then = record { units = w.units; held = w.held; are_groups = f.are_groups }; why = why });
            number = refl;
          },
        )

        decided : AreBytes text → Decided
        decided all = of (decided_units w.units (U.are_bytes limits text w.units w.rest all w.held) w.framed)
          where
            w : AllUnits from limits text
            w = U.all_units limits text

            of : FirstOffence w.units ⊎ AllGroups w.units → Decided
            of (inl h) = at_offence w h
            of (inr f) = at_rest w f (R.some limits (length text) w.rest w.rest_is)

      pub read_some : SomeInput (read_input from Why Whole)
      read_some = record {
        decided = decided;
        sound = λ limits text groups h. sound_groups h.units_then.units groups h.units_then.are_groups;
        proper = λ limits text groups all h. proper_groups h.units_then.units groups (U.are_bytes limits text h.units_then.units h.rest all h.units_then.held) h.units_then.are_groups;
      }

-- ---- inputs that have ended

module _ (from : FramedForm) (S : SourceLaws from) where
  pub framed_laws : InputFormLaws (framed_input from)
  framed_laws = read_laws from S NothingLeft (RestCause from) (ended_rests from S.step) (AreAllUnits from)
      (λ limits text groups h. record { rest = []; units_then = h.units_then; fine = (refl, h.within) })

  ended : (limits : Limits) (text : List ℕ) (groups : List NotedGroup) → AreUnitsThen from NothingLeft limits text groups → AreAllUnits from limits text groups
  ended limits text groups h = record { units_then = subst (λ (l : List ℕ). UnitsThen from limits text groups l) h.fine.0 h.units_then; within = h.fine.1 }

  pub framed_some : UnitLaws from → SomeInput (framed_input from)
  framed_some U = read_some from S U NothingLeft (RestCause from) (ended_rests from S.step) (AreAllUnits from) ended

-- ---- requests, and batches in a protocol

pub request_input : RequestLaws → InputFormLaws (input_form forms.OtlpProto)
request_input L = framed_laws request_form (request_laws L)

pub request_some : RequestLaws → SomeGroup → GroupIsProper → SomeInput (input_form forms.OtlpProto)
request_some L some proper = framed_some request_form (request_laws L) (request_unit_laws L some proper)

pub batch_input : (protocol : ProtocolWords) → BatchLaws protocol → InputFormLaws (framed_input (batch_form protocol))
batch_input protocol L = framed_laws (batch_form protocol) (batch_laws protocol L)

pub batch_some : (protocol : ProtocolWords) → BatchLaws protocol → ReadIsSound → ReadIsProper → SomeInput (framed_input (batch_form protocol))
batch_some protocol L sound proper = framed_some (batch_form protocol) (batch_laws protocol L) (batch_unit_laws protocol L sound proper)
