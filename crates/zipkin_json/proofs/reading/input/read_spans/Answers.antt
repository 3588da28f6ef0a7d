use Rattle.std.proofs.Common.{◌≡◌, ap, ◌∙◌}
use Rattle.json_nodes.specs.Lents.{lent_view}
use Rattle.json_nodes.specs.Nodes.{value_at}
use Rattle.serde_json.specs.View.{view}
use Rattle.zipkin_json.proofs.ReadingLemmas.{only_spans, spans_within, value_same, judged_same}
use Rattle.zipkin_json.proofs.reading.input.read_spans.Goals as goal

pub returns-in-Ok-clause-value : goal.returns-in-Ok-clause-value
returns-in-Ok-clause-value c =
    let same : lent_view c.of.result ≡ view c.args.v.now = c.of.ensures ∙ (ap value_at c.as_slice.ensures.value ∙ c.in-Ok.ensures) in
    value_same _ _ same c.read_array.result c.read_array.ensures.value

pub returns-in-Ok-clause-judged : goal.returns-in-Ok-clause-judged
returns-in-Ok-clause-judged c =
    let same : lent_view c.of.result ≡ view c.args.v.now = c.of.ensures ∙ (ap value_at c.as_slice.ensures.value ∙ c.in-Ok.ensures) in
    judged_same _ _ same c.read_array.result c.read_array.ensures.judged

pub returns-in-Ok-clause-only : goal.returns-in-Ok-clause-only
returns-in-Ok-clause-only c =
    let same : lent_view c.of.result ≡ view c.args.v.now = c.of.ensures ∙ (ap value_at c.as_slice.ensures.value ∙ c.in-Ok.ensures) in
    only_spans c.one_list.ensures (view c.args.v.now) c.read_array.result (value_same _ _ same c.read_array.result c.read_array.ensures.value)
    (judged_same _ _ same c.read_array.result c.read_array.ensures.judged)

pub returns-in-Ok-clause-counted : goal.returns-in-Ok-clause-counted
returns-in-Ok-clause-counted c =
    let same : lent_view c.of.result ≡ view c.args.v.now = c.of.ensures ∙ (ap value_at c.as_slice.ensures.value ∙ c.in-Ok.ensures) in
    spans_within (view c.args.v.now) c.read_array.result (value_same _ _ same c.read_array.result c.read_array.ensures.value)
