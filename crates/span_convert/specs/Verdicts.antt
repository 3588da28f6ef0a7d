-- What is to be said of an input in one form whose units are written to a target. Of its units the first that has a cause
-- counts, or that has a fault of the target, or the rest behind them all. In one unit a cause goes before a fault. What was
-- written is then the text of the units before. In an input that is read whole a cause goes before every fault.
use Rattle.std.specs.Prelude.{◌≡◌, ℕ, ◌+◌, min, List, [], ◌∷◌, ◌++◌, length, All, Result, Ok, Err}
use Rattle.span_io.specs.Outside.{Outlet, GainsFront, last_count}
use Rattle.span_io.specs.declared.form.Form.{Form}
use Rattle.span_io.specs.declared.limits.Limits.{Limits}
use Rattle.span_io.specs.declared.refusal.Refusal.{Refusal}
use Rattle.trace_model.specs.OtlpParts.{NotedGroup}
use Rattle.trace_model.specs.Proper.{IsProperGroup}
use Rattle.trace_model.specs.Soundness.{IsSoundTrace}
use Rattle.trace_model.specs.declared.group.Group.{Group}
use Rattle.span_convert.specs.Targets.{Target, form_target, CanHoldUnits}
use Rattle.span_convert.specs.Units.{InputForm, groups_in, input_form, CanHold, span_count}
use Rattle.span_convert.specs.declared.bad.Bad.{Bad}
use Rattle.span_convert.specs.declared.bad.Bad.TheVariants as bads
use Rattle.span_convert.specs.declared.stop.Stop.{Stop}
use Rattle.span_convert.specs.declared.stop.Stop.TheVariants as stops
use Rattle.span_convert.specs.declared.tally.Tally.{Tally}
use Rattle.span_convert.specs.declared.target_fault.TargetFault.{TargetFault}

-- ---- traces that a form can hold

-- each number, text and identifier in the groups lies in its range
abbrev pub IsProperTrace : List Group → Type 0
IsProperTrace groups = All IsProperGroup groups

-- no group of the trace has a fault
abbrev pub IsFaultless : Form → List Group → Type 0
IsFaultless to groups = All (CanHold to) groups

-- a sound trace in whose groups nothing is out of range and nothing a fault
pub record CanHoldTrace (to : Form) (groups : List Group) : Type 0 where
  pub sound : IsSoundTrace groups
  pub proper : IsProperTrace groups
  pub no_fault : IsFaultless to groups

-- ---- verdicts

-- what is said of an input, with the text that is to be written of it
pub data Verdict : Type 0 where
  -- the whole text, and how many units and spans it has
  good : List ℕ → Tally → Verdict
  -- a refusal, and the text of the units before
  refused : Refusal → List ℕ → Verdict
  -- a fault of the target, and the text of the units before
  faulted : TargetFault → List ℕ → Verdict

-- A count stands still at the end of its type.
abbrev pub tally_of : ℕ → ℕ → Tally
tally_of units spans = record { units = units; spans = min spans last_count }

-- so many units and spans are counted
abbrev pub units_tally : List NotedGroup → Tally
units_tally units = tally_of (length units) (span_count (groups_in units))

-- these are all of the input, and this is their whole text
pub record IsGood (from : InputForm) (to : Target) (limits : Limits) (bytes text : List ℕ) (tally : Tally) : Type 0 where
  pub noted : List NotedGroup
  pub whole : from.IsWhole limits bytes noted
  pub held : CanHoldUnits to noted
  pub is_text : text ≡ to.whole_text noted
  pub counts : tally ≡ units_tally noted

-- behind these it is refused, and this is their text so far
pub record IsRefusal (from : InputForm) (to : Target) (limits : Limits) (bytes text : List ℕ) (refusal : Refusal) : Type 0 where
  pub noted : List NotedGroup
  pub refuses : from.Refuses limits bytes noted refusal
  pub held : CanHoldUnits to noted
  pub is_text : text ≡ to.partial_text noted

-- behind these comes a unit that has this fault, and this is their text so far
pub record IsFaulted (from : InputForm) (to : Target) (limits : Limits) (bytes text : List ℕ) (found : TargetFault) : Type 0 where
  pub noted : List NotedGroup
  pub next : NotedGroup
  pub begins : from.Begins limits bytes (noted ++ next ∷ [])
  pub held : CanHoldUnits to noted
  pub fault : to.FaultOf next found.fault
  pub number : found.unit ≡ length noted + 1
  pub is_text : text ≡ to.partial_text noted

-- the verdict on these bytes, which are an input in the one form whose units are written to the target
abbrev pub IsVerdictOn : InputForm → Target → Limits → List ℕ → Verdict → Type 0
IsVerdictOn from to limits bytes (good text tally) = IsGood from to limits bytes text tally
IsVerdictOn from to limits bytes (refused refusal text) = IsRefusal from to limits bytes text refusal
IsVerdictOn from to limits bytes (faulted found text) = IsFaulted from to limits bytes text found

-- the verdict on these bytes, where they are converted from the one form to the other
abbrev pub IsVerdict : Form → Form → Limits → List ℕ → Verdict → Type 0
IsVerdict from to limits bytes verdict = IsVerdictOn (input_form from) (form_target to) limits bytes verdict

-- what is written: the whole text, or that of the units before
abbrev pub verdict_text : Verdict → List ℕ
verdict_text (good text tally) = text
verdict_text (refused refusal text) = text
verdict_text (faulted found text) = text

-- ---- what calls answer and write

-- there is a verdict, where one was carried out
abbrev pub IsJudgedOn : {T : Type 0} → InputForm → Target → Limits → List ℕ → Result T Stop → Type 0
IsJudgedOn from to limits bytes (Ok x) = (verdict : Verdict) × IsVerdictOn from to limits bytes verdict
IsJudgedOn from to limits bytes (Err stops.Refused) = (verdict : Verdict) × IsVerdictOn from to limits bytes verdict
IsJudgedOn from to limits bytes (Err stops.Faulted) = (verdict : Verdict) × IsVerdictOn from to limits bytes verdict
IsJudgedOn from to limits bytes (Err stops.Write) = Unit {0}
IsJudgedOn from to limits bytes (Err stops.OutOfMemory) = Unit {0}

-- the text so far of the first units of the input
pub record IsPartial (from : InputForm) (to : Target) (limits : Limits) (bytes text : List ℕ) : Type 0 where
  pub noted : List NotedGroup
  pub begins : from.Begins limits bytes noted
  pub held : CanHoldUnits to noted
  pub is_text : text ≡ to.partial_text noted

-- nothing, or that, or the text of all of it
pub data IsTextSoFar (from : InputForm) (to : Target) (limits : Limits) (bytes text : List ℕ) : Type 0 where
  none : text ≡ [] → IsTextSoFar from to limits bytes text
  first : IsPartial from to limits bytes text → IsTextSoFar from to limits bytes text
  all : (tally : Tally) → IsGood from to limits bytes text tally → IsTextSoFar from to limits bytes text

-- a front of such a text was written
pub record WritesFrontOn (from : InputForm) (to : Target) (limits : Limits) (bytes : List ℕ) (before now : Outlet) : Type 0 where
  pub text : List ℕ
  pub so_far : IsTextSoFar from to limits bytes text
  pub gains : GainsFront before now text

-- a call that answers the text answers that of the verdict, or why there is none
abbrev pub Answers : Verdict → Result (List ℕ) Bad → Type 0
Answers verdict (Ok out) = (tally : Tally) × (verdict ≡ good out tally)
Answers verdict (Err (bads.Refused refusal)) = verdict ≡ refused refusal (verdict_text verdict)
Answers verdict (Err (bads.Faulted found)) = verdict ≡ faulted found (verdict_text verdict)
Answers verdict (Err bads.OutOfMemory) = Unit {0}
