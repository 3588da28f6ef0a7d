use Rattle.std.proofs.Common.{◌≡◌, ◌++◌, false, map, All}
use Rattle.std.specs.List.{list_any}
use Rattle.trace_model.specs.Soundness.{IsSoundEvent}
use Rattle.map_jaeger.specs.private.Doubles.{event_has_double}
use Rattle.map_jaeger.specs.Writing.{log_of}
use Rattle.map_jaeger.proofs.writing.logs_of.Given as goal

abbrev pub invariant-events : goal.invariant-events
invariant-events l = record {
  written : l.logs ++ map log_of l.event-iterator.rest.items ≡ map log_of l.fn.events;
  plain : list_any event_has_double l.event-iterator.rest.items ≡ false;
  sound : All IsSoundEvent l.event-iterator.rest.items;
}
