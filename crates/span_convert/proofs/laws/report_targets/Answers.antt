use Rattle.span_convert.proofs.ReportTargets.{report_laws}
use Rattle.span_convert.proofs.laws.report_targets.Goals as goal

pub returns : goal.returns
returns c = report_laws c.form_targets.ensures
