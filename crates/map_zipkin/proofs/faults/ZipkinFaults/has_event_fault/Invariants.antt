use Rattle.std.proofs.Common.{◌≡◌, false, take}
use Rattle.std.specs.List.{list_any}
use Rattle.map_zipkin.specs.LeastZipkinFault.{is_told_wrong}
use Rattle.map_zipkin.proofs.faults.ZipkinFaults.has_event_fault.Given as goal

abbrev pub invariant-events : goal.invariant-events
invariant-events l = list_any is_told_wrong (take l.event-index l.events) ≡ false
