use Rattle.std.proofs.Common.{◌≡◌, ◌<◌, ◌≤◌, List, length, get_or, subst}
use Rattle.jaeger_model.specs.Proper.{IsProperJSpan}
use Rattle.jaeger_model.specs.declared.span.JSpan.{JSpan}
use Rattle.jaeger_model.proofs.AllLemmas.{all_start, all_more, all_end}
use Rattle.jaeger_model.proofs.proper.proper_spans.Goals as goal

pub spans-init : goal.spans-init
spans-init c = all_start IsProperJSpan c.args.spans.now

pub spans-preserved : goal.spans-preserved
spans-preserved c = all_more IsProperJSpan c.args.spans.now c.spans.span-index c.span-item.result
    (subst (λ (l : List JSpan). c.spans.span-index < length l) c.as_slice-span-items.ensures c.spans-test.true)
    (subst (λ (l : List JSpan). c.span-item.result ≡ get_or l c.spans.span-index c.span-item.result) c.as_slice-span-items.ensures c.span-item.is)
    c.spans.invariant
    c.proper_span.ensures

pub returns : goal.returns
returns c = all_end IsProperJSpan c.args.spans.now c.spans.span-index
    (subst (λ (l : List JSpan). length l ≤ c.spans.span-index) c.as_slice-span-items.ensures c.spans-test.false) c.spans.invariant
