use Rattle.span_convert.specs.Reports.{written_target}
use Rattle.span_convert.specs.Units.{open_form}
use Rattle.span_convert.proofs.OutlookLaws.{nothing_said}
use Rattle.span_convert.proofs.ReportTargets.{written_laws}
use Rattle.span_convert.proofs.Sources.{nothing_stops}
use Rattle.span_convert.proofs.laws.outlook_at_first.Goals as goal

pub returns : goal.returns
returns c = λ from what limits valid.
    nothing_said (open_form from) (written_target what) (written_laws c.form_targets.ensures what) limits (nothing_stops c.input_laws.ensures from limits valid)
