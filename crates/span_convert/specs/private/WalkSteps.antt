-- The steps of a walk over frames: what each writes, keeps and fails by.
use Rattle.std.specs.Prelude.{◌≡◌, ℕ, ◌+◌, ◌-◌, min, ◌<◌, ◌≤◌, ◌⊎◌, take, Bool, true, false, List, [], ◌∷◌, ◌++◌, length, Option, Some, None, Result, Ok, Err}
use Rattle.std.specs.Borrow.{Bor}
use Rattle.span_io.specs.Frames.{NeedsMore}
use Rattle.span_io.specs.Limits.{AreLimits}
use Rattle.span_io.specs.Outside.{Outlet, Gains, FailsWithin, last_count}
use Rattle.span_io.specs.Scans.{Scanning, PushIs, FrameIs, StandsBehind, EndsWithin}
use Rattle.span_io.specs.Steps.{IfUnit}
use Rattle.span_io.specs.declared.halt.Halt.{Halt}
use Rattle.span_io.specs.declared.halt.Halt.TheVariants as halts
use Rattle.span_io.specs.declared.limits.Limits.{Limits}
use Rattle.span_io.specs.declared.refusal.Refusal.{Refusal}
use Rattle.span_io.specs.declared.step.Step.{Step}
use Rattle.trace_model.specs.OtlpParts.{NotedGroup}
use Rattle.trace_model.specs.declared.fault.Fault.{Fault}
use Rattle.span_convert.specs.FramedForms.{FramedForm, UnitsThen}
use Rattle.span_convert.specs.Outlooks.{GainsFrom, GainsFrontFrom, FailsFrom, WritesFrontFrom}
use Rattle.span_convert.specs.Pens.{pen_stands, written_by}
use Rattle.span_convert.specs.private.PenTargets.{pen_target}
use Rattle.span_convert.specs.Reports.{written_target}
use Rattle.span_convert.specs.private.TargetSteps.{Cuts}
use Rattle.span_convert.specs.Targets.{Target, CanHoldUnits, AreHeldBy}
use Rattle.span_convert.specs.Units.{InputForm, span_count}
use Rattle.span_convert.specs.Verdicts.{units_tally, IsRefusal, IsFaulted, IsTextSoFar}
use Rattle.span_convert.specs.declared.progress.Progress.{Progress}
use Rattle.span_convert.specs.declared.progress.WalkStop.{WalkStop}
use Rattle.span_convert.specs.declared.progress.WalkStop.TheVariants as walk_stops
use Rattle.span_convert.specs.declared.tally.Tally.{Tally}
use Rattle.span_convert.specs.declared.target_fault.TargetFault.{TargetFault}
use Rattle.span_convert.specs.declared.written.Written.{Written}
use Rattle.span_convert.specs.Walks.{StandsFor, WritesWhole}

-- ---- what is looked at

-- the input has more bytes than its limit, or hasn't
abbrev pub Exceeds : Bool → ℕ → List ℕ → Type 0
Exceeds true limit whole = limit < length whole
Exceeds false limit whole = length whole ≤ limit

-- Behind these bytes of the input come more, of which those are looked at, and there are others, or aren't.
pub record IsLookedAt (limit : ℕ) (bytes more looked : List ℕ) (too_long : Bool) : Type 0 where
  pub front : take (limit - length bytes) more ≡ looked
  pub exceeds : Exceeds too_long limit (bytes ++ more)

-- ---- one frame

-- the bytes that are lent, if there are any
abbrev pub lent_bytes : Option (Bor (List ℕ)) → List (List ℕ)
lent_bytes None = []
lent_bytes (Some held) = held.now ∷ []

-- a frame of at most `limit` bytes stands at the front of the rest, and holds these units: one or none
abbrev pub CutsFrame : FramedForm → ℕ → List ℕ → List (List ℕ) → List ℕ → Type 0
CutsFrame from limit rest units behind = Cuts from.frames from.FrameHolds limit rest units behind

-- An input begins with no unit, and no frame is there yet. Behind a frame its units are held as well. More bytes leave the units as they
-- are, and stand behind the rest, as far as they are looked at. A unit is no longer than its frame, and one that was found is there.
pub record HeldByFrames (from : FramedForm) : Type 0 where
  pub none : (limits : Limits) → from.HoldsUnits limits [] [] []
  pub empty : (limits : Limits) → AreLimits limits → NeedsMore from.frames limits.unit []
  pub next : (limits : Limits) (whole rest behind : List ℕ) (units more : List (List ℕ))
      → CutsFrame from limits.unit rest more behind → from.HoldsUnits limits whole units rest
      → from.HoldsUnits limits whole (units ++ more) behind
  pub longer : (limits : Limits) (bytes more rest : List ℕ) (units : List (List ℕ)) → from.HoldsUnits limits bytes units rest
      → from.HoldsUnits limits (bytes ++ more) units (rest ++ take (limits.binary - length bytes) more)
  pub within : (limit : ℕ) (rest behind unit : List ℕ) → CutsFrame from limit rest (unit ∷ []) behind → length unit ≤ limit
  pub found : (frame : List ℕ) → ∥ from.frames.Whole frame ∥₁ → from.frames.Whole frame

-- what a scanner of the form's frames answers of a piece, and where it stands then
pub record Scans (from : FramedForm) (old new : Scanning) (piece : List ℕ) (answer : Step) : Type 0 where
  pub exact : PushIs from.frames from.Refused old piece answer
  pub frame : FrameIs from.frames old piece answer
  pub stands : StandsBehind old new piece answer
  pub within : IfUnit answer (EndsWithin old piece)
  pub limit : new.limit ≡ old.limit

-- ---- what a writer of units adds

-- The target can hold the unit. What was appended is what it adds to the text of units of which so many were counted, and for
-- which the writer stood; now it stands for these and the unit.
pub record WritesUnit (to : Target) {W : Type 0} (Stands : W → List NotedGroup → Type 0) (unit : NotedGroup) (tally : Tally)
    (before now : W) (old new : List ℕ) : Type 0 where
  pub held : AreHeldBy to (unit ∷ [])
  pub added : List ℕ
  pub appended : new ≡ old ++ added
  pub adds : (units : List NotedGroup) → AreHeldBy to units → tally ≡ units_tally units → Stands before units
      → (to.partial_text (units ++ unit ∷ []) ≡ to.partial_text units ++ added) × Stands now (units ++ unit ∷ [])

-- what closes the text of units of which so many were counted and for which the writer stands was appended
abbrev pub ClosesText : {W : Type 0} → Target → (W → List NotedGroup → Type 0) → W → Tally → List ℕ → List ℕ → Type 0
ClosesText to Stands writer all old new =
    (units : List NotedGroup) → all ≡ units_tally units → Stands writer units → new ≡ old ++ to.closing_text units

-- what is said of the cause or fault of a refusal, where there is one
abbrev pub IfWhy : {T E : Type 0} → Result T (Halt E) → (E → Type 0) → Type 0
IfWhy (Ok x) P = Unit {0}
IfWhy (Err (halts.Why why)) P = P why
IfWhy (Err halts.OutOfMemory) P = Unit {0}

-- What earlier calls wrote, then what the sink gained, and then what isn't written yet, is the text of the units so far.
pub record Converted (what : Written) (units : List NotedGroup) (said : List ℕ) (before now : Outlet) (progress : Progress)
    : Type 0 where
  pub done : StandsFor what units progress
  pub written : List ℕ
  pub gains : Gains before now written
  pub is_text : said ++ (written ++ progress.unwritten) ≡ (written_target what).partial_text units

-- the progress as it is once this text, which is left to be written, stands behind what isn't written yet
abbrev pub with_text : Progress → List ℕ → Progress
with_text progress left = record { unwritten = progress.unwritten ++ left; tally = progress.tally; pen = progress.pen }

-- a walk over units came to this rest
pub record WalkedUnits (from : FramedForm) (what : Written) (limits : Limits) (whole rest said : List ℕ) (before now : Outlet)
    (progress : Progress) : Type 0 where
  pub noted : List NotedGroup
  pub units_then : UnitsThen from limits whole noted rest
  pub converted : Converted what noted said before now progress

-- The same where the rest is the bytes that are held, which the scanner saw, and then what is left of a piece.
pub record WalksOn (from : FramedForm) (what : Written) (limits : Limits) (whole said : List ℕ) (before now : Outlet) (s : Scanning)
    (held left : List ℕ) (progress : Progress) : Type 0 where
  pub seen : s.seen held
  pub limit : s.limit ≡ limits.unit
  pub walked : WalkedUnits from what limits whole (held ++ left) said before now progress

-- a walk that took all of a piece, and needs more bytes
pub record WaitsForMore (from : FramedForm) (what : Written) (limits : Limits) (whole said : List ℕ) (before now : Outlet) (s : Scanning)
    (held : List ℕ) (progress : Progress) : Type 0 where
  pub seen : s.seen held
  pub limit : s.limit ≡ limits.unit
  pub needs : NeedsMore from.frames limits.unit held
  pub walked : WalkedUnits from what limits whole held said before now progress

-- a unit was added, and its spans were counted
pub record AddsUnit (unit : NotedGroup) (before now : Progress) : Type 0 where
  pub writes : WritesUnit (pen_target before.pen) pen_stands unit before.tally before.pen now.pen before.unwritten now.unwritten
  pub same : written_by now.pen ≡ written_by before.pen
  pub units : now.tally.units ≡ before.tally.units + 1
  pub spans : now.tally.spans ≡ min (before.tally.spans + span_count (unit.means ∷ [])) last_count

-- the unit has the fault, and neither text nor counts changed
pub record AddsNothing (unit : NotedGroup) (fault : Fault) (before now : Progress) : Type 0 where
  pub has : (pen_target before.pen).FaultOf unit fault
  pub text : now.unwritten ≡ before.unwritten
  pub tally : now.tally ≡ before.tally

-- ---- how the conversion of a unit stops

-- a front of the text so far of the units was written, behind what earlier calls wrote
pub record WritesFrontOf (to : Target) (units : List NotedGroup) (said : List ℕ) (before now : Outlet) : Type 0 where
  pub held : CanHoldUnits to units
  pub gains : GainsFrontFrom said before now (to.partial_text units)

-- the sink failed within it
pub record FailsFrontOf (to : Target) (units : List NotedGroup) (said : List ℕ) (before now : Outlet) : Type 0 where
  pub held : CanHoldUnits to units
  pub fails : FailsFrom said before now (to.partial_text units)

-- the unit has a fault, and the text of the units before it was written
pub record StopsAtFault (to : Target) (units : List NotedGroup) (unit : NotedGroup) (found : TargetFault) (said : List ℕ)
    (before now : Outlet) : Type 0 where
  pub held : CanHoldUnits to units
  pub fault : to.FaultOf unit found.fault
  pub number : found.unit ≡ length units + 1
  pub gains : GainsFrom said before now (to.partial_text units)

-- the unit's own text may be written by then
abbrev pub StopsWriting : Target → List NotedGroup → NotedGroup → List ℕ → Outlet → Outlet → Type 0
StopsWriting to units unit said before now =
    WritesFrontOf to units said before now ⊎ WritesFrontOf to (units ++ unit ∷ []) said before now

-- the sink failed within the text of the units before, or within that text with the unit's own behind it
abbrev pub FailsWriting : Target → List NotedGroup → NotedGroup → List ℕ → Outlet → Outlet → Type 0
FailsWriting to units unit said before now =
    FailsFrontOf to units said before now ⊎ FailsFrontOf to (units ++ unit ∷ []) said before now

-- how it stops: at a fault, at a failed write, or where memory was wanted, but by no refusal, as the unit was read
abbrev pub StopsUnit : Target → List NotedGroup → NotedGroup → WalkStop → List ℕ → Outlet → Outlet → Type 0
StopsUnit to units unit (walk_stops.Refused refusal) said before now = ⊥
StopsUnit to units unit (walk_stops.Faulted found) said before now = StopsAtFault to units unit found said before now
StopsUnit to units unit walk_stops.Write said before now = FailsWriting to units unit said before now
StopsUnit to units unit walk_stops.OutOfMemory said before now = StopsWriting to units unit said before now

-- ---- how the text of all units ends

-- the units were counted, and the whole text of them was written
pub record EndsText (to : Target) (units : List NotedGroup) (tally : Tally) (said : List ℕ) (before now : Outlet) : Type 0 where
  pub counts : tally ≡ units_tally units
  pub gains : GainsFrom said before now (to.whole_text units)

-- or the sink failed within the whole text, or memory was wanted and a front of it was written
abbrev pub StopsText : Target → List NotedGroup → WalkStop → List ℕ → Outlet → Outlet → Type 0
StopsText to units (walk_stops.Refused refusal) said before now = ⊥
StopsText to units (walk_stops.Faulted found) said before now = ⊥
StopsText to units walk_stops.Write said before now = FailsFrom said before now (to.whole_text units)
StopsText to units walk_stops.OutOfMemory said before now = GainsFrontFrom said before now (to.whole_text units)

-- ---- how a walk ends

-- the text of the units before was written, and then it is refused
pub record WritesRefused (from : InputForm) (to : Target) (limits : Limits) (whole : List ℕ) (refusal : Refusal) (said : List ℕ)
    (before now : Outlet) : Type 0 where
  pub text : List ℕ
  pub is_refused : IsRefusal from to limits whole text refusal
  pub so_far : IsTextSoFar from to limits whole text
  pub gains : GainsFrom said before now text

-- the same before a fault of the target
pub record WritesFaulted (from : InputForm) (to : Target) (limits : Limits) (whole : List ℕ) (found : TargetFault) (said : List ℕ)
    (before now : Outlet) : Type 0 where
  pub text : List ℕ
  pub is_faulted : IsFaulted from to limits whole text found
  pub so_far : IsTextSoFar from to limits whole text
  pub gains : GainsFrom said before now text

-- the sink failed within such a text
pub record FailsFrontFrom (from : InputForm) (to : Target) (limits : Limits) (whole said : List ℕ) (before now : Outlet)
    : Type 0 where
  pub text : List ℕ
  pub so_far : IsTextSoFar from to limits whole text
  pub fails : FailsFrom said before now text

-- what was written where a walk stops: at a refusal, at a fault, at a failed write, or where memory was wanted
abbrev pub StopsWalk : InputForm → Target → Limits → List ℕ → WalkStop → List ℕ → Outlet → Outlet → Type 0
StopsWalk from to limits whole (walk_stops.Refused refusal) said before now =
    WritesRefused from to limits whole refusal said before now
StopsWalk from to limits whole (walk_stops.Faulted found) said before now =
    WritesFaulted from to limits whole found said before now
StopsWalk from to limits whole walk_stops.Write said before now = FailsFrontFrom from to limits whole said before now
StopsWalk from to limits whole walk_stops.OutOfMemory said before now = WritesFrontFrom from to limits whole said before now

-- what was written where a walk ends: the whole text, whose units and spans are counted, or what the stop says
abbrev pub EndsWalk : InputForm → Target → Limits → List ℕ → Result Tally WalkStop → List ℕ → Outlet → Outlet → Type 0
EndsWalk from to limits whole (Ok tally) said before now = WritesWhole from to limits whole tally said before now
EndsWalk from to limits whole (Err stop) said before now = StopsWalk from to limits whole stop said before now

-- what is written where a cause or a fault stops the walk
abbrev pub WritesOut : WalkStop → WalkStop → List ℕ → Outlet → Outlet → Type 0
WritesOut (walk_stops.Refused refusal) why text before now = (walk_stops.Refused refusal ≡ why) × Gains before now text
WritesOut (walk_stops.Faulted found) why text before now = (walk_stops.Faulted found ≡ why) × Gains before now text
WritesOut walk_stops.Write why text before now = FailsWithin before now text
WritesOut walk_stops.OutOfMemory why text before now = ⊥
