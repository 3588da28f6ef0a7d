use Rattle.span_convert.specs.Pens.{written_by}
use Rattle.span_convert.proofs.ReportTargets.{written_laws}
use Rattle.span_convert.proofs.pen.Pen.target_laws.Goals as goal

pub returns : goal.returns
returns c = written_laws c.form_targets.ensures (written_by c.args.self.now)
