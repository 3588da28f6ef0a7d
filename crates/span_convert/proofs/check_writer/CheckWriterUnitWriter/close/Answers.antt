use Rattle.std.proofs.lemmas.Result.{on_ok_weaker}
use Rattle.span_convert.proofs.ReportTargets.{checks_end}
use Rattle.span_convert.proofs.check_writer.CheckWriterUnitWriter.close.Goals as goal

pub returns : goal.returns
returns c = on_ok_weaker c.counts_line.result (λ adds. λ units counts stands. checks_end c.args.self.now.remarks c.args.all units c.args.out.now c.counts_line.new.out counts stands adds) c.counts_line.ensures.ok
