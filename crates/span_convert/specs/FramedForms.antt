-- A form whose inputs are frames, one after the other. A unit stands in a frame, and is the text of a group. What is read of it is the group
-- with the remarks on it.
use Rattle.std.specs.Prelude.{◌≡◌, ℕ, ◌+◌, ◌<◌, ◌≤◌, ◌⊎◌, List, [], ◌∷◌, ◌++◌, length}
use Rattle.std.specs.List.{AllZip}
use Rattle.span_io.specs.Causes.{cause_number}
use Rattle.span_io.specs.Frames.{Framing, NeedsMore}
use Rattle.span_io.specs.Offences.{Least}
use Rattle.span_io.specs.declared.cause.Cause.{Cause}
use Rattle.span_io.specs.declared.limits.Limits.{Limits}
use Rattle.span_io.specs.declared.refusal.Refusal.{Refusal}
use Rattle.trace_model.specs.OtlpParts.{NotedGroup}
use Rattle.span_convert.specs.Rests.{StopsRest}

-- what a form says of an input in frames, and of the units in them
pub record FramedForm : Type 1 where
  -- its frames, and what refuses one, by the cause that this names
  pub frames : Framing
  pub Refused : Cause → List ℕ → Type 0
  -- the frame holds these units: one or none
  pub FrameHolds : List ℕ → List (List ℕ) → Type 0
  -- the input begins with these units, and then comes the rest
  pub HoldsUnits : Limits → List ℕ → List (List ℕ) → List ℕ → Type 0
  -- what the frame of a unit tells of it
  pub Tells : List ℕ → Type 0
  -- the unit is a text of the group, and these are the remarks on it
  pub IsUnit : List ℕ → NotedGroup → Type 0
  -- what offends in a unit: at this place a cause of this number
  pub Offends : List ℕ → ℕ → ℕ → Type 0

-- ---- why a rest behind the units isn't read

-- why, if the input has so many bytes
abbrev pub RestCause : FramedForm → Limits → ℕ → List ℕ → Cause → Type 0
RestCause from limits size rest cause =
    StopsRest from.frames from.Refused limits.unit (limits.binary < size) (size ≤ limits.binary) rest cause

-- Why, whatever follows: a front of it is refused, or there are more bytes than the limit. That it ends too early is no such cause.
abbrev pub LastingCause : FramedForm → Limits → ℕ → List ℕ → Cause → Type 0
LastingCause from limits size rest cause = StopsRest from.frames from.Refused limits.unit (limits.binary < size) ⊥ rest cause

-- ---- what an input begins with

-- It begins with units that are texts of these groups, and then comes the rest.
pub record UnitsThen (from : FramedForm) (limits : Limits) (bytes : List ℕ) (noted : List NotedGroup) (rest : List ℕ)
    : Type 0 where
  pub units : List (List ℕ)
  pub held : from.HoldsUnits limits bytes units rest
  pub are_groups : AllZip from.IsUnit units noted

-- It begins with units that are texts of these groups, whatever comes behind them.
pub record UnitsBegin (from : FramedForm) (limits : Limits) (bytes : List ℕ) (noted : List NotedGroup) : Type 0 where
  pub rest : List ℕ
  pub units_then : UnitsThen from limits bytes noted rest

-- All of it is units that are texts of these groups, and other frames.
pub record AreAllUnits (from : FramedForm) (limits : Limits) (bytes : List ℕ) (noted : List NotedGroup) : Type 0 where
  pub units_then : UnitsThen from limits bytes noted []
  pub within : length bytes ≤ limits.binary

-- ---- why it isn't read to its end

-- Behind the units of these groups comes one that offends.
pub record UnitOffends (from : FramedForm) (limits : Limits) (bytes : List ℕ) (noted : List NotedGroup) (cause : Cause)
    : Type 0 where
  pub before : List (List ℕ)
  pub unit : List ℕ
  pub rest : List ℕ
  pub held : from.HoldsUnits limits bytes (before ++ unit ∷ []) rest
  pub are_groups : AllZip from.IsUnit before noted
  pub least : Least (from.Offends unit) (cause_number cause)

-- Behind them comes a rest that isn't read, for such a cause.
pub record RestStopsBy (from : FramedForm) (Why : Limits → ℕ → List ℕ → Cause → Type 0) (limits : Limits) (bytes : List ℕ)
    (noted : List NotedGroup) (cause : Cause) : Type 0 where
  pub rest : List ℕ
  pub units_then : UnitsThen from limits bytes noted rest
  pub why : Why limits (length bytes) rest cause

-- The refusal has the number behind theirs.
pub record UnitsRefusedBy (from : FramedForm) (Why : Limits → ℕ → List ℕ → Cause → Type 0) (limits : Limits) (bytes : List ℕ)
    (noted : List NotedGroup) (refusal : Refusal) : Type 0 where
  pub why : UnitOffends from limits bytes noted refusal.cause ⊎ RestStopsBy from Why limits bytes noted refusal.cause
  pub number : refusal.unit ≡ length noted + 1

-- Behind the units of these groups comes a rest that isn't read, for this cause, where the input ends with these bytes.
abbrev pub RestStops : FramedForm → Limits → List ℕ → List NotedGroup → Cause → Type 0
RestStops from = RestStopsBy from (RestCause from)

-- It is refused so behind the units of these groups, where it ends with these bytes.
abbrev pub UnitsRefused : FramedForm → Limits → List ℕ → List NotedGroup → Refusal → Type 0
UnitsRefused from = UnitsRefusedBy from (RestCause from)

-- ---- what is known of its first bytes, behind which others may come

-- They are units that are texts of these groups, other frames, and a rest of which a frame may yet come.
pub record UnitsGoOn (from : FramedForm) (limits : Limits) (bytes : List ℕ) (noted : List NotedGroup) : Type 0 where
  pub rest : List ℕ
  pub units_then : UnitsThen from limits bytes noted rest
  pub needs : NeedsMore from.frames limits.unit rest
  pub within : length bytes ≤ limits.binary

-- They are refused behind the units of these groups, and no more bytes take that away.
abbrev pub UnitsHalted : FramedForm → Limits → List ℕ → List NotedGroup → Refusal → Type 0
UnitsHalted from = UnitsRefusedBy from (LastingCause from)
