use Rattle.trace_model.specs.Soundness.{IsSoundEvent}
use Rattle.map_jaeger.specs.private.Doubles.{event_has_double}
use Rattle.map_jaeger.specs.Writing.{log_of}
use Rattle.span_tags.proofs.Moved.{one_more, still_none, still_all}
use Rattle.map_jaeger.proofs.writing.logs_of.Goals as goal

pub events-preserved : goal.events-preserved
events-preserved c =
    let left = c.events.event-iterator.rest.items in
    let rest = c.next.new.self.rest.items in
    let split = c.in-Some.ensures.steps.0 in record {
      written = one_more log_of _ _ _ c.in-Some.event _ left rest split c.in_ok-log_of.ensures c.in_ok-push.ensures.ok c.events.invariant.written;
      plain = still_none event_has_double c.in-Some.event left rest split c.events.invariant.plain;
      sound = still_all IsSoundEvent c.in-Some.event left rest split c.events.invariant.sound;
    }
