use Rattle.loss_report.specs.Lines.{loss_text}
use Rattle.span_convert.proofs.ReportTargets.{flat_start, flat_next}
use Rattle.span_convert.proofs.loss_writer.write_losses.Goals as goal

pub losses-init : goal.losses-init
losses-init c = flat_start (loss_text c.args.number) c.args.out.now c.args.losses.now

pub losses-preserved : goal.losses-preserved
losses-preserved c =
    flat_next (loss_text c.args.number) c.args.out.now c.losses.out c.loss_line.new.out c.args.losses.now c.losses.loss-index c.loss-item.result c.losses-test.true c.loss-item.is c.losses.invariant c.in_ok-loss_line.ensures.ok
