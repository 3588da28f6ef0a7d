use Rattle.loss_report.specs.Lines.{shown_text}
use Rattle.span_convert.proofs.ReportTargets.{flat_start, flat_next}
use Rattle.span_convert.proofs.show_writer.show_spans.Goals as goal

pub spans-init : goal.spans-init
spans-init c = flat_start shown_text c.args.out.now c.args.spans.now

pub spans-preserved : goal.spans-preserved
spans-preserved c =
    flat_next shown_text c.args.out.now c.spans.out c.show_line.new.out c.args.spans.now c.spans.span-index c.span-item.result c.spans-test.true c.span-item.is c.spans.invariant c.in_ok-show_line.ensures.ok
