use Rattle.std.proofs.Common.{◌≡◌, ◌<◌, ◌≤◌, List, length, get_or, subst}
use Rattle.jaeger_model.specs.Proper.{IsProperReference}
use Rattle.jaeger_model.specs.declared.span.SpanRef.{SpanRef}
use Rattle.jaeger_model.proofs.AllLemmas.{all_start, all_more, all_end}
use Rattle.jaeger_model.proofs.proper.proper_references.Goals as goal

pub references-init : goal.references-init
references-init c = all_start IsProperReference c.args.references.now

pub references-preserved : goal.references-preserved
references-preserved c = all_more IsProperReference c.args.references.now c.references.reference-index c.reference-item.result
    (subst (λ (l : List SpanRef). c.references.reference-index < length l) c.as_slice-reference-items.ensures c.references-test.true)
    (subst (λ (l : List SpanRef). c.reference-item.result ≡ get_or l c.references.reference-index c.reference-item.result) c.as_slice-reference-items.ensures c.reference-item.is)
    c.references.invariant
    c.proper_reference.ensures

pub returns : goal.returns
returns c = all_end IsProperReference c.args.references.now c.references.reference-index
    (subst (λ (l : List SpanRef). length l ≤ c.references.reference-index) c.as_slice-reference-items.ensures c.references-test.false) c.references.invariant
