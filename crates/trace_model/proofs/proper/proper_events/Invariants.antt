use Rattle.std.proofs.Common.{All, take}
use Rattle.trace_model.specs.Proper.{IsProperEvent}
use Rattle.trace_model.proofs.proper.proper_events.Given as goal

abbrev pub invariant-events : goal.invariant-events
invariant-events l = All IsProperEvent (take l.event-index l.events)
