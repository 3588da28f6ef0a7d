use Rattle.std.proofs.Common.{rules, ◌≡◌, ◌+◌, [], ◌∷◌, refl, sym, ◌∙◌}
use Rattle.span_tags.proofs.Moved.{none_left}
use Rattle.map_jaeger.proofs.ReadLists.{events_begin, events_more, events_end}
use Rattle.map_jaeger.proofs.reading.events.events_of.Goals as goal

pub logs-init : goal.logs-init
logs-init c = events_begin c.args.span c.args.logs c.into_iter-log-iterator.result.rest.items (record { means = c.in_ok-means.means; notes = c.new-notes.result })
    (c.into_iter-log-iterator.ensures.into_iter_gives.0 ∙ c.into_vec-log-items.ensures.items) c.in_ok-means.ensures c.new-notes.ensures

pub logs-preserved : goal.logs-preserved
logs-preserved c =
    let split : c.logs.log-iterator.rest.items ≡ c.in-Some.log ∷ c.next.new.self.rest.items = search rules in
    events_more c.args.span c.args.logs c.logs.log-iterator.rest.items c.next.new.self.rest.items c.logs.number (c.logs.number + 1) c.in-Some.log
    c.logs.read c.add_event.new.read split refl c.in_ok-add_event.ensures.event c.in_ok-add_event.ensures.remarks c.logs.invariant

pub returns-clause-events : goal.returns-clause-events
returns-clause-events c =
    let none : c.logs.log-iterator.rest.items ≡ [] = none_left c.logs.log-iterator.rest.items (sym c.logs.log-iterator.rest.ok.0 ∙ c.in-None.ensures.steps.0) in
    (events_end c.args.span c.args.logs c.logs.log-iterator.rest.items c.logs.number c.logs.read none c.logs.invariant).0

pub returns-clause-remarks : goal.returns-clause-remarks
returns-clause-remarks c =
    let none : c.logs.log-iterator.rest.items ≡ [] = none_left c.logs.log-iterator.rest.items (sym c.logs.log-iterator.rest.ok.0 ∙ c.in-None.ensures.steps.0) in
    (events_end c.args.span c.args.logs c.logs.log-iterator.rest.items c.logs.number c.logs.read none c.logs.invariant).1
