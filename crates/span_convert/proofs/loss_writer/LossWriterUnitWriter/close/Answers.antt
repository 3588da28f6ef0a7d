use Rattle.std.proofs.lemmas.Result.{on_ok_weaker}
use Rattle.span_convert.proofs.LossTargets.{loses_end}
use Rattle.span_convert.proofs.loss_writer.LossWriterUnitWriter.close.Goals as goal

pub returns : goal.returns
returns g c = on_ok_weaker c.loss_count_line.result (λ adds. λ units counts stands. loses_end g.L.Losing.form c.args.self.now.count units c.args.out.now c.loss_count_line.new.out stands.0 adds) c.loss_count_line.ensures.ok
