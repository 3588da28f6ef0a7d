use Rattle.std.proofs.Common.{rules, ◌+◌, ◌<◌, ◌++◌, length, get_or, ap, ◌∙◌, arith}
use Rattle.span_tags.specs.Losses.{losses_of}
use Rattle.span_tags.proofs.LossSteps.{member_more}
use Rattle.map_jaeger.specs.Losses.{span_losses}
use Rattle.map_jaeger.proofs.losing.spans.lose_spans.Goals as goal

pub spans-preserved : goal.spans-preserved
spans-preserved c =
    let spans = c.args.spans.now in
    let span = c.span-item.result in
    let low : c.spans.span-index < length spans = search rules in
    record {
      counted = omega (arith, c.spans.invariant.counted);
      so_far = member_more span_losses (c.args.losses.now ++ losses_of span_losses (c.args.before + 1) spans) c.spans.losses c.lose_span.new.losses
          (c.spans.number + 1) c.spans.span-index span spans low
          (c.span-item.is ∙ ap (λ l. get_or l c.spans.span-index span) c.as_slice-span-items.ensures) c.in_ok-lose_span.ensures c.spans.invariant.so_far;
    }
