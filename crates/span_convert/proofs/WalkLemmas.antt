-- How a walk over the units of an input goes on, and how it ends.
use Rattle.std.proofs.Common.{◌≡◌, ℕ, ◌+◌, min, ◌<◌, ◌≤◌, inl, inr, Bool, true, false, List, [], ◌∷◌, ◌++◌, length, All, take, get_or, Option, Some, None, Result, Ok, Err, IfOk, IfErr, OnErr, refl, sym, ap, subst, ◌∙◌, append_assoc, arith, length-append}
use Rattle.std.proofs.lemmas.List.{append-nil, map-append, length-map, take_more, nil_from_length}
use Rattle.std.proofs.lemmas.List.Concat.{flat_map-append, flat_map-cons}
use Rattle.std.proofs.lemmas.List.Elements.{All-nil, All-cons, All-append}
use Rattle.std.proofs.KnownBytes.{Appends-nil}
use Rattle.std.proofs.Math.Logic.{∥∥₁_elim}
use Rattle.std.specs.Coded.{le_prop}
use mathlib.Core.HLevel.{⊥_prop}
use Rattle.std.specs.Prelude.{◌==◌, if◌then◌else◌}
use Rattle.std.specs.List.{flat_map}
use Rattle.span_io.proofs.TableLaws.{flat_more}
use Rattle.span_io.specs.Frames.{Framing, BeginsFrame, ItemsThen}
use Rattle.span_io.specs.Framings.{OneStep}
use Rattle.span_io.specs.Outside.{Outlet, Sure, so_many, any_number, less, Gains, OutputHolds, FailsWithin, Rises, last_count}
use Rattle.span_io.specs.Pieces.{PieceLaws}
use Rattle.span_io.specs.Steps.{StepIs}
use Rattle.span_io.specs.declared.cause.Cause.{Cause}
use Rattle.span_io.specs.declared.limits.Limits.{Limits}
use Rattle.span_io.specs.declared.step.Step.{Step}
use Rattle.span_io.specs.declared.step.Step.TheVariants as steps
use Rattle.proto_wire.specs.Records as wire
use Rattle.proto_wire.specs.Records.{Record}
use Rattle.proto_wire.specs.Wire.{SpellsHeld, SpellsRecord, records, RefusedBy}
use Rattle.trace_model.specs.Proper.{IsProperGroup}
use Rattle.trace_model.specs.Soundness.{IsSoundGroup}
use Rattle.trace_model.specs.OtlpParts.{NotedGroup}
use Rattle.trace_model.specs.declared.fault.Fault.{Fault}
use Rattle.trace_model.specs.declared.group.Group.{Group}
use Rattle.trace_model.specs.declared.group.Scope.{Scope}
use Rattle.otlp_proto.specs.Rows.{bytes_in}
use Rattle.span_convert.specs.BatchFiles.{ProtocolWords, batches, RefusedBatch, IsOwnUnit, HoldsBatches}
use Rattle.span_convert.specs.Outlooks.{FailsFrom, GainsFrom, GainsFrontFrom, WritesFrontFrom}
use Rattle.span_convert.specs.private.PenTargets.{StartsAs, pen_target}
use Rattle.span_convert.specs.Pens.{pen_stands, written_by}
use Rattle.span_convert.specs.Reports.{written_target}
use Rattle.span_convert.specs.Requests.{HoldsUnit, AreRequestUnits, HoldsRequestUnits}
use Rattle.span_convert.specs.private.TargetSteps.{Cuts}
use Rattle.span_convert.specs.Targets.{Target, CanHoldUnits, AreHeldBy, open_target}
use Rattle.span_convert.specs.private.TargetSteps.{TargetLaws}
use Rattle.span_convert.specs.Units.{InputForm, groups_in, request_form, batch_form, span_count}
use Rattle.span_convert.specs.Verdicts.{tally_of, units_tally, IsTextSoFar, first, all}
use Rattle.span_convert.specs.private.WalkSteps.{HeldByFrames, ClosesText, Converted, WritesUnit, AddsUnit, AddsNothing, WritesFrontOf, FailsFrontOf, FailsFrontFrom, StopsUnit, EndsText, StopsText, StopsWalk, EndsWalk, WritesOut}
use Rattle.span_convert.specs.Walks.{StandsFor}
use Rattle.span_convert.specs.declared.pen.Pen.{Pen}
use Rattle.span_convert.specs.declared.progress.Progress.{Progress}
use Rattle.span_convert.specs.declared.progress.WalkStop.{WalkStop}
use Rattle.span_convert.specs.declared.progress.WalkStop.TheVariants as walk_stops
use Rattle.span_convert.specs.declared.tally.Tally.{Tally}
use Rattle.span_convert.specs.declared.written.Written.{Written}
use Rattle.span_convert.proofs.FrameLemmas.{framed_longer, items_push, none_framed}

-- ---- lists that grow by one

units_push : (frames units : List (List ℕ)) (frame : List ℕ) (r : Record) → AreRequestUnits frames units → SpellsRecord frame r → AreRequestUnits (frames ++ frame ∷ []) (units ++ bytes_in 1 r)
unfolding AreRequestUnits
units_push [] units frame r so_far spelled = (r, spelled, [], ap (λ l. l ++ bytes_in 1 r) so_far ∙ sym (append-nil (bytes_in 1 r)), refl)
units_push (item ∷ more) units frame r so_far spelled =
    (so_far.0, so_far.1, so_far.2 ++ bytes_in 1 r, ap (λ l. l ++ bytes_in 1 r) so_far.3 ∙ append_assoc (bytes_in 1 so_far.0) so_far.2 (bytes_in 1 r), units_push more so_far.2 frame r so_far.4 spelled)

-- ---- units and their groups

-- the groups of units, with one more
pub groups_push : (units : List NotedGroup) (next : NotedGroup) → groups_in (units ++ next ∷ []) ≡ groups_in units ++ next.means ∷ []
groups_push units next = map-append (λ (unit : NotedGroup). unit.means) units (next ∷ [])

-- there are as many
pub as_many : (units : List NotedGroup) → length (groups_in units) ≡ length units
as_many units = length-map units (λ (unit : NotedGroup). unit.means)

-- ---- spans

pub one_group : (group : Group) → span_count (group ∷ []) ≡ length (flat_map (λ (s : Scope). s.spans) group.scopes)
one_group group = ap (λ l. length (flat_map (λ (s : Scope). s.spans) l)) (flat_map-cons (λ (g : Group). g.scopes) group [] ∙ append-nil group.scopes)

spans_push : (groups : List Group) (group : Group) → span_count (groups ++ group ∷ []) ≡ span_count groups + span_count (group ∷ [])
spans_push groups group =
    ap (λ l. length (flat_map (λ (s : Scope). s.spans) l)) (flat_more (λ (g : Group). g.scopes) groups group)
    ∙ ap length (flat_map-append (λ (s : Scope). s.spans) (flat_map (λ (g : Group). g.scopes) groups) group.scopes)
    ∙ length-append (flat_map (λ (s : Scope). s.spans) (flat_map (λ (g : Group). g.scopes) groups)) (flat_map (λ (s : Scope). s.spans) group.scopes)
    ∙ ap (λ k. span_count groups + k) (sym (one_group group))

pub scopes_push : (count next : ℕ) (scopes : List Scope) (i : ℕ) (scope : Scope) → i < length scopes → scope ≡ get_or scopes i scope → count ≡ min (length (flat_map (λ (s : Scope). s.spans) (take i scopes))) last_count
    → next ≡ min (count + length scope.spans) last_count → next ≡ min (length (flat_map (λ (s : Scope). s.spans) (take (i + 1) scopes))) last_count
scopes_push count next scopes i scope lt is so_far e =
    let more : length (flat_map (λ (s : Scope). s.spans) (take (i + 1) scopes)) ≡ length (flat_map (λ (s : Scope). s.spans) (take i scopes)) + length scope.spans =
    ap (λ l. length (flat_map (λ (s : Scope). s.spans) l)) (take_more scopes i scope lt ∙ ap (λ (y : Scope). take i scopes ++ y ∷ []) (sym is))
    ∙ ap length (flat_more (λ (s : Scope). s.spans) (take i scopes) scope)
    ∙ length-append (flat_map (λ (s : Scope). s.spans) (take i scopes)) scope.spans in
    omega arith

-- ---- the units of an input are those that its frames hold

request_next : (limits : Limits) (whole rest behind : List ℕ) (units more : List (List ℕ)) → Cuts records HoldsUnit limits.unit rest more behind → HoldsRequestUnits limits whole units rest → HoldsRequestUnits limits whole (units ++ more) behind
request_next limits whole rest behind units more cut held = record {
  frames = held.frames ++ cut.frame ∷ [];
  framed = items_push records limits.unit held.frames cut.frame behind rest (take limits.binary whole) cut.whole cut.within cut.parts held.framed;
  are_units = subst (λ (l : List (List ℕ)). AreRequestUnits (held.frames ++ cut.frame ∷ []) (units ++ l)) (sym cut.holds.holds) (units_push held.frames units cut.frame cut.holds.this held.are_units cut.holds.spelled);
}

batch_next : (protocol : ProtocolWords) (limits : Limits) (whole rest behind : List ℕ) (units more : List (List ℕ)) → Cuts (batches protocol) IsOwnUnit limits.unit rest more behind → HoldsBatches protocol limits whole units rest → HoldsBatches protocol limits whole (units ++ more) behind
batch_next protocol limits whole rest behind units more cut held =
    subst (λ (l : List (List ℕ)). HoldsBatches protocol limits whole (units ++ l) behind) (sym cut.holds) (items_push (batches protocol) limits.unit units cut.frame behind rest (take limits.binary whole) cut.whole cut.within cut.parts held)

-- how long the first of some units is
abbrev first_size : List (List ℕ) → ℕ
first_size [] = 0
first_size (unit ∷ units) = length unit

-- a unit is shorter than the record that holds it
held_shorter : (number : ℕ) (held : wire.Held) (payload unit : List ℕ) → SpellsHeld payload held → unit ∷ [] ≡ bytes_in 1 (record { number = number; held = held }) → length unit ≤ length payload
held_shorter number (wire.bytes held) payload unit (size, spelled, parts) is = chosen (number == 1) is
  where
    chosen : (b : Bool) → unit ∷ [] ≡ (if b then held ∷ [] else []) → length unit ≤ length payload
    chosen true e = let same : length unit ≡ length held = ap first_size e in omega (arith, same, ap length parts, length-append size held)
    chosen false e = let never : 1 ≡ 0 = ap length e in omega (arith, never)
held_shorter number (wire.varint n) payload unit spelled is = let never : 1 ≡ 0 = ap length is in omega (arith, never)
held_shorter number (wire.fixed64 n) payload unit spelled is = let never : 1 ≡ 0 = ap length is in omega (arith, never)
held_shorter number (wire.fixed32 n) payload unit spelled is = let never : 1 ≡ 0 = ap length is in omega (arith, never)

request_within : (limit : ℕ) (rest behind unit : List ℕ) → Cuts records HoldsUnit limit rest (unit ∷ []) behind → length unit ≤ limit
request_within limit rest behind unit cut =
    let spelled = cut.holds.spelled in
    let shorter : length unit ≤ length spelled.payload = held_shorter cut.holds.this.number cut.holds.this.held spelled.payload unit spelled.payload_spelled cut.holds.holds in
    omega (arith, shorter, ap length spelled.parts, length-append spelled.key spelled.payload, cut.within)

batch_within : (protocol : ProtocolWords) (limit : ℕ) (rest behind unit : List ℕ) → Cuts (batches protocol) IsOwnUnit limit rest (unit ∷ []) behind → length unit ≤ limit
batch_within protocol limit rest behind unit cut = let same : length unit ≡ length cut.frame = ap first_size cut.holds in omega (arith, same, cut.within)

-- ---- a frame that is merely known to be whole is told by its first step

module _ (F : Framing) (EndsIn : Cause → List ℕ → Type 0) (S : OneStep F EndsIn) (P : PieceLaws F EndsIn) (frame : List ℕ) (there : ∥ F.Whole frame ∥₁) where
  begun : F.Whole frame → BeginsFrame F (length frame) (length frame) frame
  begun whole = record { text = frame; rest = []; whole = whole; parts = sym (append-nil frame); size = refl; within = omega arith }

  same_size : (n : ℕ) → StepIs F EndsIn (length frame) frame (steps.Unit n) → F.Whole frame → length frame ≤ n
  same_size n h whole =
      let same : steps.Unit n ≡ steps.Unit (length frame) = S.one_step (length frame) frame (steps.Unit n) (steps.Unit (length frame)) h ((P.begins (length frame) (length frame) frame).1 (begun whole)) in
      let size : n ≡ length frame = cc in
      omega (arith, size)

  as_long : (n : ℕ) → StepIs F EndsIn (length frame) frame (steps.Unit n) → length frame ≤ n
  as_long n h = ∥∥₁_elim there le_prop (same_size n h)

  all_of_it : (n : ℕ) → length frame ≤ n → (b : BeginsFrame F (length frame) n frame) → F.Whole frame
  all_of_it n long b =
      let none : b.rest ≡ [] = nil_from_length b.rest (omega (arith, long, ap length b.parts, length-append b.text b.rest, b.size)) in
      subst F.Whole (sym (b.parts ∙ ap (λ l. b.text ++ l) none ∙ append-nil b.text)) b.whole

  by_step : (step : Step) → StepIs F EndsIn (length frame) frame step → F.Whole frame
  by_step steps.Need h = absurd (∥∥₁_elim there ⊥_prop (λ whole. S.open_frame (length frame) (length frame) frame h (begun whole)))
  by_step (steps.Unit n) h = all_of_it n (as_long n h) ((P.begins (length frame) n frame).0 h)
  by_step (steps.Refused cause) h = absurd (∥∥₁_elim there ⊥_prop (λ whole. S.no_frame (length frame) (length frame) frame cause h (begun whole)))

  found_whole : F.Whole frame
  found_whole = let first = S.some_step (length frame) frame in by_step first.0 first.1

pub request_frames : OneStep records RefusedBy → PieceLaws records RefusedBy → HeldByFrames request_form
unfolding ItemsThen AreRequestUnits
request_frames S P = record {
  none = λ limits. record { frames = []; framed = none_framed records limits.unit limits.binary; are_units = refl };
  empty = λ limits valid. S.empty limits.unit valid.unit.0;
  next = request_next;
  longer = λ limits bytes more rest units held.
      record { frames = held.frames; framed = framed_longer records RefusedBy P limits.unit limits.binary held.frames rest bytes more held.framed; are_units = held.are_units };
  within = request_within;
  found = λ frame there. found_whole records RefusedBy S P frame there;
}

pub batch_frames : (protocol : ProtocolWords) → OneStep (batches protocol) (RefusedBatch protocol) → PieceLaws (batches protocol) (RefusedBatch protocol) → HeldByFrames (batch_form protocol)
unfolding ItemsThen
batch_frames protocol S P = record {
  none = λ limits. none_framed (batches protocol) limits.unit limits.binary;
  empty = λ limits valid. S.empty limits.unit valid.unit.0;
  next = batch_next protocol;
  longer = λ limits bytes more rest units held. framed_longer (batches protocol) (RefusedBatch protocol) P limits.unit limits.binary units rest bytes more held;
  within = batch_within protocol;
  found = λ frame there. found_whole (batches protocol) (RefusedBatch protocol) S P frame there;
}

-- ---- what was converted so far

pub gains_none : (a : Outlet) → Gains a a []
gains_none a = record { held = Appends-nil a.held; taken = rises_none a.taken; sure = less_none a.sure; faults = omega arith }
  where
    rises_none : (n : Option ℕ) → Rises n n 0
    rises_none None = tt
    rises_none (Some n) = omega arith

    less_none : (s : Sure) → s ≡ less s 0
    less_none (so_many most) = ap so_many (omega arith)
    less_none any_number = refl

-- the sink gained nothing behind what was said
pub gains_nothing : (said : List ℕ) (now : Outlet) → GainsFrom said now now said
gains_nothing said now = record { added = []; parts = sym (append-nil said); gains = gains_none now }

pub front_of_nothing : (said : List ℕ) (now : Outlet) → GainsFrontFrom said now now said
front_of_nothing said now = record { added = []; parts = sym (append-nil said); gains = record { front = []; is_front = ([], refl); gains = gains_none now } }

-- a call that wants memory alone stops so
pub only_memory : {T : Type 0} (result : Result T WalkStop) (P : WalkStop → Type 0) → OnErr result (result ≡ Err walk_stops.OutOfMemory) → P walk_stops.OutOfMemory → IfErr result P
only_memory (Ok x) P e p = tt
only_memory (Err stop) P e p = (let same : stop ≡ walk_stops.OutOfMemory = cc in subst P (sym same) p)

-- a call that passes a stop on
pub if_err : {T : Type 0} (P : WalkStop → Type 0) (result : Result T WalkStop) (stop : WalkStop) → result ≡ Err stop → P stop → IfErr result P
if_err P result stop e p = subst (λ r. IfErr r P) (sym e) p

pub holds_none : (a : Outlet) → OutputHolds a a
holds_none a = record { quiet = refl; sure = λ any. any; goes = λ going. going }

abbrev counts : ℕ → ℕ → Tally
counts units spans = record { units = units; spans = spans }

tally_from : (tally : Tally) (units spans : ℕ) → tally.units ≡ units → tally.spans ≡ min spans last_count → tally ≡ tally_of units spans
tally_from tally units spans e f =
    ap (λ (n : ℕ). counts n tally.spans) e ∙ ap (λ (n : ℕ). counts units n) f

spans_more : (old next groups more : ℕ) → old ≡ min groups last_count → next ≡ min (old + more) last_count → next ≡ min (groups + more) last_count
spans_more old next groups more e f = omega arith

all_one : {X : Type 0} (P : X → Type 0) (x : X) → P x → All P (x ∷ [])
all_one P x h = All-cons P x [] h (All-nil P)

-- a unit that the target can hold
pub held_one : (to : Target) (unit : NotedGroup) → IsSoundGroup unit.means → IsProperGroup unit.means → to.CanHold unit → to.IsSized unit → AreHeldBy to (unit ∷ [])
held_one to unit sound proper no_fault sized = record {
  can_hold = record { sound = all_one IsSoundGroup unit.means sound; proper = all_one IsProperGroup unit.means proper; no_fault = all_one to.CanHold unit no_fault };
  sized = all_one to.IsSized unit sized;
}

-- no unit
pub holds_no_unit : (to : Target) → CanHoldUnits to []
holds_no_unit to = record { sound = All-nil IsSoundGroup; proper = All-nil IsProperGroup; no_fault = All-nil to.CanHold }

-- what holds of the groups of units, and of one more
all_push : (P : Group → Type 0) (units : List NotedGroup) (unit : NotedGroup) → All P (groups_in units) → All P (unit.means ∷ []) → All P (groups_in (units ++ unit ∷ []))
all_push P units unit h one = subst (All P) (sym (groups_push units unit)) (All-append P (groups_in units) (unit.means ∷ []) h one)

held_push : (to : Target) (units : List NotedGroup) (unit : NotedGroup) → AreHeldBy to units → AreHeldBy to (unit ∷ []) → AreHeldBy to (units ++ unit ∷ [])
held_push to units unit held one = record {
  can_hold = record {
    sound = all_push IsSoundGroup units unit held.can_hold.sound one.can_hold.sound;
    proper = all_push IsProperGroup units unit held.can_hold.proper one.can_hold.proper;
    no_fault = All-append to.CanHold units (unit ∷ []) held.can_hold.no_fault one.can_hold.no_fault;
  };
  sized = All-append to.IsSized units (unit ∷ []) held.sized one.sized;
}

-- one more is counted
counts_push : (units : List NotedGroup) (unit : NotedGroup) (old next : Tally) → old ≡ units_tally units → next.units ≡ old.units + 1 → next.spans ≡ min (old.spans + span_count (unit.means ∷ [])) last_count
    → next ≡ units_tally (units ++ unit ∷ [])
counts_push units unit old next is more spans =
    let all : span_count (groups_in (units ++ unit ∷ [])) ≡ span_count (groups_in units) + span_count (unit.means ∷ []) = ap span_count (groups_push units unit) ∙ spans_push (groups_in units) unit.means in
    tally_from next (length (units ++ unit ∷ [])) (span_count (groups_in (units ++ unit ∷ [])))
    (more ∙ ap (λ (t : Tally). t.units + 1) is ∙ sym (length-append units (unit ∷ [])))
    (spans_more old.spans next.spans (span_count (groups_in units)) (span_count (unit.means ∷ [])) (ap (λ (t : Tally). t.spans) is) spans ∙ ap (λ n. min n last_count) (sym all))

-- no unit was converted, and what was said is their text
pub converted_none : (what : Written) (said : List ℕ) (now : Outlet) (progress : Progress) (noted : List NotedGroup) → StandsFor what noted progress → progress.unwritten ≡ [] → said ≡ (written_target what).partial_text noted → Converted what noted said now now progress
converted_none what said now progress noted done empty is_said = record {
  done = done;
  written = [];
  gains = gains_none now;
  is_text = ap (λ l. said ++ l) empty ∙ append-nil said ∙ is_said;
}

-- A pen that starts stands for no unit.
pub stands_none : (what : Written) (progress : Progress) → StartsAs what progress.pen → progress.tally ≡ counts 0 0 → StandsFor what [] progress
stands_none what progress starts none = record {
  held = record { can_hold = holds_no_unit (written_target what); sized = All-nil (written_target what).IsSized };
  pen = starts.writes;
  counts = none;
  stands = starts.stands;
}

module _ (what : Written) (units : List NotedGroup) (said : List ℕ) (before now : Outlet) (progress : Progress) (w : Converted what units said before now progress) where
  abbrev aim : Target
  aim = written_target what

  adds_so : (unit : NotedGroup) (next : Progress) → AddsUnit unit progress next → WritesUnit aim pen_stands unit progress.tally progress.pen next.pen progress.unwritten next.unwritten
  adds_so unit next adds =
      subst (λ (x : Written). WritesUnit (written_target x) pen_stands unit progress.tally progress.pen next.pen progress.unwritten next.unwritten) w.done.pen adds.writes

  -- with another unit
  pub converted_more : (unit : NotedGroup) (next : Progress) → AddsUnit unit progress next → Converted what (units ++ unit ∷ []) said before now next
  converted_more unit next adds =
      let one = adds_so unit next adds in
      let more = one.adds units w.done.held w.done.counts w.done.stands in
      record {
        done = record {
          held = held_push aim units unit w.done.held one.held;
          pen = adds.same ∙ w.done.pen;
          counts = counts_push units unit progress.tally next.tally w.done.counts adds.units adds.spans;
          stands = more.1;
        };
        written = w.written;
        gains = w.gains;
        is_text = ap (λ l. said ++ (w.written ++ l)) one.appended
            ∙ ap (λ l. said ++ l) (sym (append_assoc w.written progress.unwritten one.added))
            ∙ sym (append_assoc said (w.written ++ progress.unwritten) one.added)
            ∙ ap (λ l. l ++ one.added) w.is_text
            ∙ sym more.0;
      }

  -- nothing more is written
  pub front_now : WritesFrontOf aim units said before now
  front_now = record {
    held = w.done.held.can_hold;
    gains = record { added = w.written ++ progress.unwritten; parts = sym w.is_text; gains = record { front = w.written; is_front = (progress.unwritten, refl); gains = w.gains } };
  }

  -- the number of the next unit
  pub next_number : progress.tally.units + 1 ≡ length units + 1
  next_number = ap (λ (t : Tally). t.units + 1) w.done.counts

  module _ (both : (a b c : Outlet) (first second : List ℕ) → Gains a b first → Gains b c second → Gains a c (first ++ second)) (later : Outlet) where
    -- the text so far is written
    pub gains_so_far : Gains now later progress.unwritten → GainsFrom said before later (aim.partial_text units)
    gains_so_far gains = record { added = w.written ++ progress.unwritten; parts = sym w.is_text; gains = both before now later w.written progress.unwritten w.gains gains }

    pub converted_written : (next : Progress) → next.tally ≡ progress.tally → next.pen ≡ progress.pen → next.unwritten ≡ [] → Gains now later progress.unwritten → Converted what units said before later next
    converted_written next same pen empty gains = record {
      done = record {
        held = w.done.held;
        pen = ap written_by pen ∙ w.done.pen;
        counts = same ∙ w.done.counts;
        stands = subst (λ (x : Pen). pen_stands x units) (sym pen) w.done.stands;
      };
      written = w.written ++ progress.unwritten;
      gains = both before now later w.written progress.unwritten w.gains gains;
      is_text = ap (λ l. said ++ ((w.written ++ progress.unwritten) ++ l)) empty ∙ ap (λ l. said ++ l) (append-nil (w.written ++ progress.unwritten)) ∙ w.is_text;
    }

    module _ (fails : (a b c : Outlet) (first second : List ℕ) → Gains a b first → FailsWithin b c second → FailsWithin a c (first ++ second)) where
      -- the sink failed
      pub failed_so_far : FailsWithin now later progress.unwritten → FailsFrontOf aim units said before later
      failed_so_far failed = record {
        held = w.done.held.can_hold;
        fails = record { added = w.written ++ progress.unwritten; parts = sym w.is_text; fails = fails before now later w.written progress.unwritten w.gains failed };
      }

      -- what is said of the stop at a unit that has a fault
      abbrev HasFault : NotedGroup → WalkStop → Type 0
      HasFault unit (walk_stops.Refused refusal) = ⊥
      HasFault unit (walk_stops.Faulted found) = aim.FaultOf unit found.fault × (found.unit ≡ length units + 1)
      HasFault unit walk_stops.Write = ⊥
      HasFault unit walk_stops.OutOfMemory = ⊥

      stops_fault : (unit : NotedGroup) (stop why : WalkStop) → HasFault unit why → WritesOut stop why progress.unwritten now later → StopsUnit aim units unit stop said before later
      stops_fault unit (walk_stops.Refused refusal) why has out = subst (HasFault unit) (sym out.0) has
      stops_fault unit (walk_stops.Faulted found) why has out =
          let here : HasFault unit (walk_stops.Faulted found) = subst (HasFault unit) (sym out.0) has in
          record { held = w.done.held.can_hold; fault = here.0; number = here.1; gains = gains_so_far out.1 }
      stops_fault unit walk_stops.Write why has out = inl (failed_so_far out)
      stops_fault unit walk_stops.OutOfMemory why has out = absurd out

      -- the pen found the fault, and added nothing
      pub stops_adding : (unit : NotedGroup) (fault : Fault) (after : Progress) (stop : WalkStop) → AddsNothing unit fault progress after
          → WritesOut stop (walk_stops.Faulted (record { unit = after.tally.units + 1; fault = fault })) after.unwritten now later → StopsUnit aim units unit stop said before later
      stops_adding unit fault after stop nothing out =
          stops_fault unit stop (walk_stops.Faulted (record { unit = after.tally.units + 1; fault = fault }))
          (subst (λ (x : Written). (written_target x).FaultOf unit fault) w.done.pen nothing.has, ap (λ (t : Tally). t.units + 1) nothing.tally ∙ next_number)
          (subst (λ (l : List ℕ). WritesOut stop (walk_stops.Faulted (record { unit = after.tally.units + 1; fault = fault })) l now later) nothing.text out)

-- ---- a target as the walk sees it, and as its input is told

-- What it holds, finds faulty and writes of the first units is the same.
pub record SeenAs (to view : Target) : Type 0 where
  pub held : (units : List NotedGroup) → CanHoldUnits to units → CanHoldUnits view units
  pub fault : (unit : NotedGroup) (fault : Fault) → to.FaultOf unit fault → view.FaultOf unit fault
  pub partial : (units : List NotedGroup) → to.partial_text units ≡ view.partial_text units

pub as_it_is : (to : Target) → SeenAs to to
as_it_is to = record { held = λ units held. held; fault = λ unit fault has. has; partial = λ units. refl }

pub as_open : (to : Target) → SeenAs to (open_target to)
as_open to = record {
  held = λ units held. record { sound = held.sound; proper = held.proper; no_fault = held.no_fault };
  fault = λ unit fault has. has;
  partial = λ units. refl;
}

-- ---- what a walk comes to, whatever the form of its input is

module _ (from : InputForm) (to view : Target) (seen : SeenAs to view) (limits : Limits) (whole : List ℕ) (noted : List NotedGroup) (said : List ℕ) (before : Outlet) where
  so_far : CanHoldUnits to noted → from.Begins limits whole noted → IsTextSoFar from view limits whole (to.partial_text noted)
  so_far held begins = first (record { noted = noted; begins = begins; held = seen.held noted held; is_text = seen.partial noted })

  -- a front of the text so far was written
  pub writes_front : (now : Outlet) → from.Begins limits whole noted → WritesFrontOf to noted said before now → WritesFrontFrom from view limits whole said before now
  writes_front now begins w = record { text = to.partial_text noted; so_far = so_far w.held begins; gains = w.gains }

  -- or the sink failed within it
  pub fails_front : (now : Outlet) → from.Begins limits whole noted → FailsFrontOf to noted said before now → FailsFrontFrom from view limits whole said before now
  fails_front now begins w = record { text = to.partial_text noted; so_far = so_far w.held begins; fails = w.fails }

  -- the next unit stops it
  pub stops_at_unit : (next : NotedGroup) (now : Outlet) → from.Begins limits whole noted → from.Begins limits whole (noted ++ next ∷ []) → (stop : WalkStop) → StopsUnit to noted next stop said before now → StopsWalk from view limits whole stop said before now
  stops_at_unit next now begins more (walk_stops.Refused refusal) stopped = absurd stopped
  stops_at_unit next now begins more (walk_stops.Faulted found) stopped = record {
    text = to.partial_text noted;
    is_faulted = record {
      noted = noted;
      next = next;
      begins = more;
      held = seen.held noted stopped.held;
      fault = seen.fault next found.fault stopped.fault;
      number = stopped.number;
      is_text = seen.partial noted;
    };
    so_far = so_far stopped.held begins;
    gains = stopped.gains;
  }
  stops_at_unit next now begins more walk_stops.Write (inl w) = fails_front now begins w
  stops_at_unit next now begins more walk_stops.Write (inr w) = record {
    text = to.partial_text (noted ++ next ∷ []);
    so_far = first (record { noted = noted ++ next ∷ []; begins = more; held = seen.held (noted ++ next ∷ []) w.held; is_text = seen.partial (noted ++ next ∷ []) });
    fails = w.fails;
  }
  stops_at_unit next now begins more walk_stops.OutOfMemory (inl w) = writes_front now begins w
  stops_at_unit next now begins more walk_stops.OutOfMemory (inr w) = record {
    text = to.partial_text (noted ++ next ∷ []);
    so_far = first (record { noted = noted ++ next ∷ []; begins = more; held = seen.held (noted ++ next ∷ []) w.held; is_text = seen.partial (noted ++ next ∷ []) });
    gains = w.gains;
  }

-- the input is refused behind the units so far, and their text is written
module _ (from : InputForm) (what : Written) (view : Target) (seen : SeenAs (written_target what) view) (limits : Limits) (whole : List ℕ) (noted : List NotedGroup) (said : List ℕ) (before now later : Outlet) (progress : Progress)
    (w : Converted what noted said before now progress) (both : (a b c : Outlet) (first second : List ℕ) → Gains a b first → Gains b c second → Gains a c (first ++ second))
    (fails : (a b c : Outlet) (first second : List ℕ) → Gains a b first → FailsWithin b c second → FailsWithin a c (first ++ second)) where
  -- what is said of the stop where the input is refused
  abbrev Refuses : WalkStop → Type 0
  Refuses (walk_stops.Refused refusal) = from.Refuses limits whole noted refusal
  Refuses (walk_stops.Faulted found) = ⊥
  Refuses walk_stops.Write = ⊥
  Refuses walk_stops.OutOfMemory = ⊥

  refused_out : from.Begins limits whole noted → (stop why : WalkStop) → Refuses why → WritesOut stop why progress.unwritten now later → StopsWalk from view limits whole stop said before later
  refused_out begins (walk_stops.Refused refusal) why is out = record {
    text = (written_target what).partial_text noted;
    is_refused = record { noted = noted; refuses = subst Refuses (sym out.0) is; held = seen.held noted w.done.held.can_hold; is_text = seen.partial noted };
    so_far = so_far from (written_target what) view seen limits whole noted said before w.done.held.can_hold begins;
    gains = gains_so_far what noted said before now progress w both later out.1;
  }
  refused_out begins (walk_stops.Faulted found) why is out = absurd (subst Refuses (sym out.0) is)
  refused_out begins walk_stops.Write why is out =
      fails_front from (written_target what) view seen limits whole noted said before later begins (failed_so_far what noted said before now progress w both later fails out)
  refused_out begins walk_stops.OutOfMemory why is out = absurd out

  -- by this cause, in the next unit
  pub refuses_next : (stop : WalkStop) (cause : Cause) → from.Begins limits whole noted → from.Refuses limits whole noted (record { unit = length noted + 1; cause = cause })
      → WritesOut stop (walk_stops.Refused (record { unit = progress.tally.units + 1; cause = cause })) progress.unwritten now later → StopsWalk from view limits whole stop said before later
  refuses_next stop cause begins refuses out =
      refused_out begins stop (walk_stops.Refused (record { unit = progress.tally.units + 1; cause = cause }))
      (subst (λ n. from.Refuses limits whole noted (record { unit = n; cause = cause })) (sym (next_number what noted said before now progress w)) refuses) out

-- the input is all of the units
module _ (from : InputForm) (what : Written) (limits : Limits) (whole : List ℕ) (noted : List NotedGroup) (said : List ℕ) (before : Outlet) where
  all_so_far : from.IsWhole limits whole noted → CanHoldUnits (written_target what) noted → IsTextSoFar from (written_target what) limits whole ((written_target what).whole_text noted)
  all_so_far is_whole held = all (units_tally noted) (record { noted = noted; whole = is_whole; held = held; is_text = refl; counts = refl })

  pub ends_whole : (now later : Outlet) (progress : Progress) (result : Result Tally WalkStop) → from.IsWhole limits whole noted → Converted what noted said before now progress
      → IfOk result (λ tally. (what : Written) (units : List NotedGroup) (said : List ℕ) (before : Outlet) → Converted what units said before now progress → EndsText (written_target what) units tally said before later)
      → IfErr result (λ stop. (what : Written) (units : List NotedGroup) (said : List ℕ) (before : Outlet) → Converted what units said before now progress → StopsText (written_target what) units stop said before later)
      → EndsWalk from (written_target what) limits whole result said before later
  ends_whole now later progress (Ok tally) is_whole w ok stopped =
      let ends = ok what noted said before w in
      record {
        text = (written_target what).whole_text noted;
        is_good = record { noted = noted; whole = is_whole; held = w.done.held.can_hold; is_text = refl; counts = ends.counts };
        sized = w.done.held.sized;
        gains = ends.gains;
      }
  ends_whole now later progress (Err (walk_stops.Refused refusal)) is_whole w ok stopped = absurd (stopped what noted said before w)
  ends_whole now later progress (Err (walk_stops.Faulted found)) is_whole w ok stopped = absurd (stopped what noted said before w)
  ends_whole now later progress (Err walk_stops.Write) is_whole w ok stopped =
      record { text = (written_target what).whole_text noted; so_far = all_so_far is_whole w.done.held.can_hold; fails = stopped what noted said before w }
  ends_whole now later progress (Err walk_stops.OutOfMemory) is_whole w ok stopped =
      record { text = (written_target what).whole_text noted; so_far = all_so_far is_whole w.done.held.can_hold; gains = stopped what noted said before w }

-- the whole text of the units so far, where what closes it was appended
module _ (what : Written) (units : List NotedGroup) (said : List ℕ) (before now : Outlet) (progress : Progress) (w : Converted what units said before now progress) (laws : TargetLaws (pen_target progress.pen)) (closed : List ℕ)
    (closes : ClosesText (pen_target progress.pen) pen_stands progress.pen progress.tally progress.unwritten closed) where
  closed_so : closed ≡ progress.unwritten ++ (written_target what).closing_text units
  closed_so = subst (λ (x : Written). closed ≡ progress.unwritten ++ (written_target x).closing_text units) w.done.pen (closes units w.done.counts w.done.stands)

  whole_of : (written_target what).whole_text units ≡ (written_target what).partial_text units ++ (written_target what).closing_text units
  whole_of = subst (λ (x : Written). (written_target x).whole_text units ≡ (written_target x).partial_text units ++ (written_target x).closing_text units) w.done.pen (laws.closed units)

  pub whole_parts : (written_target what).whole_text units ≡ said ++ (w.written ++ closed)
  whole_parts =
      let closing : List ℕ = (written_target what).closing_text units in
      whole_of
      ∙ ap (λ l. l ++ closing) (sym w.is_text)
      ∙ append_assoc said (w.written ++ progress.unwritten) closing
      ∙ ap (λ l. said ++ l) (append_assoc w.written progress.unwritten closing)
      ∙ ap (λ l. said ++ (w.written ++ l)) (sym closed_so)

  pub ends_text : (both : (a b c : Outlet) (first second : List ℕ) → Gains a b first → Gains b c second → Gains a c (first ++ second)) (later : Outlet) (tally : Tally) → tally ≡ progress.tally → Gains now later closed
      → EndsText (written_target what) units tally said before later
  ends_text both later tally same gains = record {
    counts = same ∙ w.done.counts;
    gains = record { added = w.written ++ closed; parts = whole_parts; gains = both before now later w.written closed w.gains gains };
  }

  pub fails_text : (fails : (a b c : Outlet) (first second : List ℕ) → Gains a b first → FailsWithin b c second → FailsWithin a c (first ++ second)) (later : Outlet) → FailsWithin now later closed
      → FailsFrom said before later ((written_target what).whole_text units)
  fails_text fails later failed = record { added = w.written ++ closed; parts = whole_parts; fails = fails before now later w.written closed w.gains failed }

-- a front of it, where memory was wanted
pub front_of_whole : (what : Written) (units : List NotedGroup) (said : List ℕ) (before now : Outlet) (progress : Progress) → Converted what units said before now progress → TargetLaws (pen_target progress.pen)
    → GainsFrontFrom said before now ((written_target what).whole_text units)
front_of_whole what units said before now progress w laws =
    let closing : List ℕ = (written_target what).closing_text units in
    let whole : (written_target what).whole_text units ≡ (written_target what).partial_text units ++ closing =
    subst (λ (x : Written). (written_target x).whole_text units ≡ (written_target x).partial_text units ++ (written_target x).closing_text units) w.done.pen (laws.closed units) in
    record {
      added = (w.written ++ progress.unwritten) ++ closing;
      parts = whole ∙ ap (λ l. l ++ closing) (sym w.is_text) ∙ append_assoc said (w.written ++ progress.unwritten) closing;
      gains = record { front = w.written; is_front = (progress.unwritten ++ closing, append_assoc w.written progress.unwritten closing); gains = w.gains };
    }
