use Rattle.std.proofs.Common.{◌≡◌, false, take}
use Rattle.std.specs.List.{list_any}
use Rattle.otlp_json.specs.Doubles.{double_in_event}
use Rattle.otlp_json.proofs.writing.doubles.in_events.Given as goal

abbrev pub invariant-events : goal.invariant-events
invariant-events l = list_any double_in_event (take l.event-index l.events) ≡ false
