use Rattle.span_convert.specs.Reports.{written_target}
use Rattle.span_convert.specs.Targets.{open_target}
use Rattle.span_convert.specs.Units.{open_form}
use Rattle.span_convert.proofs.OutlookLaws.{open_target_laws}
use Rattle.span_convert.proofs.ReportTargets.{written_laws}
use Rattle.span_convert.proofs.Sources.{open_inputs}
use Rattle.span_convert.proofs.VerdictLaws.{once, so_far}
use Rattle.span_convert.proofs.laws.one_outlook.Goals as goal

pub returns-clause-once : goal.returns-clause-once
returns-clause-once c = λ from what limits bytes v w valid h g.
    once (open_form from) (open_inputs c.input_laws.ensures from) (open_target (written_target what))
    (open_target_laws (written_target what) (written_laws c.form_targets.ensures what)) limits valid bytes v w h g

pub returns-clause-so_far : goal.returns-clause-so_far
returns-clause-so_far c = λ from what limits bytes text v valid h g.
    so_far (open_form from) (open_inputs c.input_laws.ensures from) (open_target (written_target what))
    (open_target_laws (written_target what) (written_laws c.form_targets.ensures what)) limits valid bytes text v h g
