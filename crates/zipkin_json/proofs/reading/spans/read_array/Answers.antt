use Rattle.std.proofs.Common.{sym, rules}
use Rattle.serde_json.specs.View.{items_of}
use Rattle.span_io.proofs.PathLaws.{exits_input}
use Rattle.json_members.proofs.ElementLaws.{items_listed, clean_array, refuses_array}
use Rattle.json_nodes.specs.Lents.{elements_left}
use Rattle.zipkin_json.specs.Span.{span_offends}
use Rattle.zipkin_json.proofs.reading.spans.read_array.Goals as goal

pub returns-in_err-spans-clause-judged : goal.returns-in_err-spans-clause-judged
returns-in_err-spans-clause-judged c =
    exits_input c.in_err-spans.field-0.0 _ _ (search rules)
    (refuses_array span_offends (elements_left c.in-Some.elements) _ c.in-Some.ensures c.in_err-spans.field-0.0 c.in_err-spans.ensures.judged)

pub returns-clause-value : goal.returns-clause-value
returns-clause-value c = record {
  held = items_of (elements_left c.in-Some.elements);
  shape = sym c.in-Some.ensures;
  means = rw items_listed c.in_ok-spans.ensures.value;
}

pub returns-clause-judged : goal.returns-clause-judged
returns-clause-judged c = clean_array span_offends (elements_left c.in-Some.elements) _ c.in-Some.ensures c.in_ok-spans.ensures.judged
