use Rattle.std.proofs.Common.{[], length, refl}
use Rattle.std.proofs.lemmas.List.{length-append}
use Rattle.std.proofs.lemmas.List.Elements.{All-nil, All-push}
use Rattle.json_members.proofs.ElementLaws.{elements_begin, elements_more, elements_refuse, elements_read, elements_clean}
use Rattle.json_nodes.specs.Lents.{lent_view, elements_left}
use Rattle.zipkin_json.specs.Proper.{IsWritableZSpan}
use Rattle.zipkin_json.specs.Span.{IsZSpan, HasRisingTags, span_offends}
use Rattle.zipkin_json.proofs.ProperLemmas.{span_writable}
use Rattle.zipkin_json.proofs.reading.spans.read_each.Goals as goal

pub elements-init : goal.elements-init
elements-init c = record {
  so_far = rw c.new-spans.ensures (elements_begin IsZSpan span_offends (elements_left c.args.elements) [] refl);
  rising = rw c.new-spans.ensures (All-nil HasRisingTags);
  writable = rw c.new-spans.ensures (All-nil IsWritableZSpan);
}

pub returns-in-Err-clause-judged : goal.returns-in-Err-clause-judged
returns-in-Err-clause-judged c =
    rw (c.in_unit.ensures, c.len.ensures.count) (elements_refuse IsZSpan span_offends (elements_left c.args.elements) _ _ (length c.elements.spans) (lent_view c.in-Some.element) c.elements.spans c.in-Some.ensures
    c.elements.invariant.so_far c.in-Err.halt c.in-Err.ensures.judged)

pub elements-preserved : goal.elements-preserved
elements-preserved c = record {
  so_far = rw (c.in_ok-push-in-Ok.ensures.ok, length-append) (elements_more IsZSpan span_offends (elements_left c.args.elements) _ _ (length c.elements.spans) (lent_view c.in-Some.element) c.elements.spans
      c.in-Some.ensures c.elements.invariant.so_far c.in-Ok.span c.in-Ok.ensures.value c.in-Ok.ensures.judged);
  rising = rw c.in_ok-push-in-Ok.ensures.ok (All-push HasRisingTags c.elements.spans c.in-Ok.span c.elements.invariant.rising c.in-Ok.ensures.rising);
  writable = rw c.in_ok-push-in-Ok.ensures.ok (All-push IsWritableZSpan c.elements.spans c.in-Ok.span c.elements.invariant.writable
      (span_writable c.in-Ok.span _ c.in-Ok.ensures.value c.in-Ok.ensures.rising c.proper_span.ensures));
}

pub returns-clause-value : goal.returns-clause-value
returns-clause-value c =
    elements_read IsZSpan span_offends (elements_left c.args.elements) _ (length c.elements.spans) c.elements.spans c.in_default.ensures c.elements.invariant.so_far

pub returns-clause-judged : goal.returns-clause-judged
returns-clause-judged c =
    elements_clean IsZSpan span_offends (elements_left c.args.elements) _ (length c.elements.spans) c.elements.spans c.in_default.ensures c.elements.invariant.so_far
