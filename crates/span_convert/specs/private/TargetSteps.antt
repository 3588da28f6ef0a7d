-- What a target keeps, and how a rest is cut.
use Rattle.std.specs.Prelude.{◌≡◌, ◌⊎◌, ℕ, List, [], ◌++◌, ◌≤◌, length, ◌<◌, ◌^◌}
use Rattle.span_io.specs.Outside.{IsFront}
use Rattle.trace_model.specs.OtlpParts.{NotedGroup}
use Rattle.trace_model.specs.Soundness.{IsSoundGroup}
use Rattle.trace_model.specs.declared.fault.Fault.{Fault}
use Rattle.span_convert.specs.Units.{FaultOf, CanHold, partial_text, closing_text}
use Rattle.span_io.specs.Frames.{Framing}
use Rattle.span_convert.specs.declared.intake.Intake.{Intake}
use Rattle.span_convert.specs.declared.intake.Intake.TheVariants as intakes
use Rattle.span_convert.specs.Targets.{CanHoldUnits, Target}

-- ---- what every target keeps

-- how a target's faults go with what it can hold, and how its texts of units go together
pub record TargetLaws (to : Target) : Type 0 where
  -- a unit whose group is sound can be held, or has one fault that counts
  pub fault_or_none : (unit : NotedGroup) → IsSoundGroup unit.means → to.CanHold unit ⊎ ((fault : Fault) × to.FaultOf unit fault)
  pub fault_once : (unit : NotedGroup) (a b : Fault) → to.FaultOf unit a → to.FaultOf unit b → a ≡ b
  pub no_fault : (unit : NotedGroup) (fault : Fault) → to.FaultOf unit fault → to.CanHold unit → ⊥
  -- the text so far of no unit is empty, and that of the first units is a front of that of all
  pub none : to.partial_text [] ≡ []
  pub front : (a b : List NotedGroup) → CanHoldUnits to (a ++ b) → IsFront (to.partial_text a) (to.partial_text (a ++ b))
  -- the whole text is the text so far, and then the bytes that close it
  pub closed : (units : List NotedGroup) → to.whole_text units ≡ to.partial_text units ++ to.closing_text units

-- A frame of at most `limit` bytes stands at the front of the rest, and holds these units.
pub record Cuts (F : Framing) (Holds : List ℕ → List (List ℕ) → Type 0) (limit : ℕ)
    (rest : List ℕ) (units : List (List ℕ)) (behind : List ℕ) : Type 0 where
  pub frame : List ℕ
  pub whole : F.Whole frame
  pub within : length frame ≤ limit
  pub holds : Holds frame units
  pub parts : rest ≡ frame ++ behind

-- the bytes that are held can be read, where they are a document
abbrev pub CanBeRead : Intake → List ℕ → Type 0
CanBeRead (intakes.Request scanner) held = Unit {0}
CanBeRead intakes.GroupFile held = length held < 2 ^ 32
CanBeRead (intakes.BinaryBatches scanner) held = Unit {0}
CanBeRead (intakes.CompactBatches scanner) held = Unit {0}
CanBeRead intakes.SpanFile held = length held < 2 ^ 32
