use Rattle.loss_report.specs.Lines.{remark_text}
use Rattle.span_convert.proofs.ReportTargets.{flat_start, flat_next}
use Rattle.span_convert.proofs.check_writer.write_remarks.Goals as goal

pub remarks-init : goal.remarks-init
remarks-init c = flat_start (remark_text c.args.number) c.args.out.now c.args.remarks.now

pub remarks-preserved : goal.remarks-preserved
remarks-preserved c =
    flat_next (remark_text c.args.number) c.args.out.now c.remarks.out c.remark_line.new.out c.args.remarks.now c.remarks.remark-index c.remark-item.result c.remarks-test.true c.remark-item.is c.remarks.invariant c.in_ok-remark_line.ensures.ok
