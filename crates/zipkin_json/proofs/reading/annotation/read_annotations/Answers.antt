use Rattle.std.proofs.Common.{◌+◌, rules}
use Rattle.span_io.proofs.PathLaws.{exits}
use Rattle.json_members.proofs.ElementLaws.{elements_begin, elements_more, elements_halt, elements_read, elements_clean}
use Rattle.json_nodes.specs.Lents.{lent_view, elements_left}
use Rattle.zipkin_json.specs.Span.{IsAnnotation, annotation_offends}
use Rattle.zipkin_json.proofs.reading.annotation.read_annotations.Goals as goal

pub elements-init : goal.elements-init
elements-init c = record { unit = 0; so_far = elements_begin IsAnnotation annotation_offends (elements_left c.args.elements) _ c.new-list.ensures }

pub returns-in_err-annotation-clause-judged : goal.returns-in_err-annotation-clause-judged
returns-in_err-annotation-clause-judged c =
    exits c.in_err-annotation.field-0.0 _ _ (search rules)
    (elements_halt IsAnnotation annotation_offends (elements_left c.args.elements) _ _ c.elements.invariant.unit (lent_view c.in-Some.element) c.elements.list
    c.in-Some.ensures c.elements.invariant.so_far c.in_err-annotation.field-0.0 c.in_err-annotation.ensures.judged)

pub elements-preserved : goal.elements-preserved
elements-preserved c = record {
  unit = c.elements.invariant.unit + 1;
  so_far = rw c.in_ok-push.ensures.ok (elements_more IsAnnotation annotation_offends (elements_left c.args.elements) _ _ c.elements.invariant.unit (lent_view c.in-Some.element) c.elements.list
      c.in-Some.ensures c.elements.invariant.so_far c.in_ok-annotation.annotation c.in_ok-annotation.ensures.value c.in_ok-annotation.ensures.judged);
}

pub returns-clause-value : goal.returns-clause-value
returns-clause-value c =
    elements_read IsAnnotation annotation_offends (elements_left c.args.elements) _ c.elements.invariant.unit c.elements.list c.in_default.ensures c.elements.invariant.so_far

pub returns-clause-judged : goal.returns-clause-judged
returns-clause-judged c =
    elements_clean IsAnnotation annotation_offends (elements_left c.args.elements) _ c.elements.invariant.unit c.elements.list c.in_default.ensures c.elements.invariant.so_far
