use Rattle.std.proofs.Common.{◌+◌, ap}
use Rattle.json_nodes.specs.Lents.{lent_view as view}
use Rattle.trace_model.proofs.ToldLaws.{event_added}
use Rattle.otlp_json.specs.private.Found.{EventsTold}
use Rattle.otlp_json.specs.Span.{IsJsonEvent}
use Rattle.otlp_json.proofs.ListLemmas.{finds_more}
use Rattle.otlp_json.proofs.reading.events.FoundEventsRows.add.Goals as goal

pub returns-clause-ok : goal.returns-clause-ok
returns-clause-ok c =
    finds_more IsJsonEvent (EventsTold c.args.span) (view c.args.v.now) c.args.self.now _ c.in_ok-read.read c.in_ok-read.ensures.value
    (λ found h. event_added c.args.span found _ _ _ _ c.in_ok-read.read (1 + c.len.result) (ap (λ n. 1 + n) c.len.ensures.count)
    c.in_ok-push.ensures.ok c.in_ok-remark_keys.ensures h)
