use Rattle.std.proofs.Common.{◌≡◌, ◌<◌, ◌≤◌, List, length, get_or, subst}
use Rattle.trace_model.specs.Proper.{IsProperEvent}
use Rattle.trace_model.specs.declared.span.Event.{Event}
use Rattle.trace_model.proofs.AllLemmas.{all_start, all_more, all_end}
use Rattle.trace_model.proofs.proper.proper_events.Goals as goal

pub events-init : goal.events-init
events-init c = all_start IsProperEvent c.args.events.now

pub events-preserved : goal.events-preserved
events-preserved c = all_more IsProperEvent c.args.events.now c.events.event-index c.event-item.result
    (subst (λ (l : List Event). c.events.event-index < length l) c.as_slice-event-items.ensures c.events-test.true)
    (subst (λ (l : List Event). c.event-item.result ≡ get_or l c.events.event-index c.event-item.result) c.as_slice-event-items.ensures c.event-item.is)
    c.events.invariant
    c.proper_event.ensures

pub returns : goal.returns
returns c = all_end IsProperEvent c.args.events.now c.events.event-index
    (subst (λ (l : List Event). length l ≤ c.events.event-index) c.as_slice-event-items.ensures c.events-test.false) c.events.invariant
