use Rattle.std.proofs.Common.{ℕ, ap, ◌+◌}
use Rattle.json_nodes.specs.Lents.{lent_view as view}
use Rattle.trace_model.proofs.ToldLaws.{span_added}
use Rattle.otlp_json.specs.private.Found.{SpansTold}
use Rattle.otlp_json.specs.Span.{IsJsonSpan}
use Rattle.otlp_json.proofs.ListLemmas.{finds_more}
use Rattle.otlp_json.proofs.reading.spans.FoundSpansRows.add.Goals as goal

pub returns-clause-ok : goal.returns-clause-ok
returns-clause-ok c =
    let is = c.in_ok-read.ensures.value in
    finds_more IsJsonSpan (SpansTold c.args.first) (view c.args.v.now) c.args.self.now _
    (record { means = c.in_ok-read.read.means; notes = is.notes }) is.is_span
    (λ found h. span_added c.args.first found _ _ _ _ _ _ (c.args.first + c.len.result) (ap (λ (n : ℕ). c.args.first + n) c.len.ensures.count)
    c.in_ok-push.ensures.ok c.in_ok-remark_all.ensures is.remarks h)
