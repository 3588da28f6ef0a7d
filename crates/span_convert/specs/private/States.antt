-- Where a converter stands, and how it stops.
use Rattle.span_convert.specs.declared.bad.Bad.{Bad}
use Rattle.span_convert.specs.declared.bad.Bad.TheVariants as bads
use Rattle.span_convert.specs.declared.walker.State.{State}
use Rattle.span_convert.specs.declared.walker.State.TheVariants as states
use Rattle.span_convert.specs.declared.progress.WalkStop.{WalkStop}
use Rattle.span_convert.specs.declared.progress.WalkStop.TheVariants as walk_stops
use Rattle.span_convert.specs.declared.stop.Stop.{Stop}
use Rattle.span_convert.specs.declared.stop.Stop.TheVariants as stops

-- the stop and the state behind a walk that goes no further
abbrev pub stop_at : WalkStop → Stop
stop_at (walk_stops.Refused refusal) = stops.Refused
stop_at (walk_stops.Faulted found) = stops.Faulted
stop_at walk_stops.Write = stops.Write
stop_at walk_stops.OutOfMemory = stops.OutOfMemory

-- the state that keeps the refusal or the fault, or tells that a write failed or memory was wanted
abbrev pub state_at : WalkStop → State
state_at (walk_stops.Refused refusal) = states.Refused refusal
state_at (walk_stops.Faulted found) = states.Faulted found
state_at walk_stops.Write = states.Write
state_at walk_stops.OutOfMemory = states.OutOfMemory

-- the refusal or fault that is kept, or want of memory
abbrev pub bad_in : State → Bad
bad_in (states.Refused refusal) = bads.Refused refusal
bad_in (states.Faulted found) = bads.Faulted found
bad_in states.Open = bads.OutOfMemory
bad_in states.Ended = bads.OutOfMemory
bad_in states.Write = bads.OutOfMemory
bad_in states.OutOfMemory = bads.OutOfMemory
