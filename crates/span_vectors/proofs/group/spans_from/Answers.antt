use Rattle.std.proofs.Common.{◌+◌, ◌∷◌, ◌++◌, [], List, refl, sym, ap, ◌∙◌}
use Rattle.trace_model.specs.declared.span.Span.{Span}
use Rattle.span_vectors.specs.Gauge.{gauge_spans}
use Rattle.span_vectors.proofs.Spans.{spans_none, spans_more}
use Rattle.span_vectors.proofs.group.spans_from.Goals as goal

pub spans-init : goal.spans-init
spans-init c = c.in_ok-list.ensures ∙ sym (spans_none c.args.first)

pub spans-preserved : goal.spans-preserved
spans-preserved c =
    c.in_ok-push.ensures.ok
    ∙ (ap (λ (l : List Span). l ++ c.in_ok-span_of.field-0 ∷ []) c.spans.invariant
    ∙ (ap (λ (x : Span). gauge_spans c.args.first c.spans.i ++ x ∷ []) c.in_ok-span_of.ensures
    ∙ sym (spans_more c.args.first c.spans.i (c.args.first + c.spans.i) refl)))
