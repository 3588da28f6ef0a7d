use Rattle.std.proofs.Common.{◌≡◌, false, take}
use Rattle.std.specs.List.{list_any}
use Rattle.span_tags.specs.FaultTables.{doubles_in}
use Rattle.span_tags.proofs.first_fault.doubles_in_events.Given as goal

abbrev pub invariant-events : goal.invariant-events
invariant-events g l = list_any (λ event. doubles_in g.F.Faults.table event.attributes) (take l.event-index l.events) ≡ false
