use Rattle.span_convert.specs.Reports.{written_target}
use Rattle.span_convert.specs.Units.{input_form, open_form}
use Rattle.span_convert.proofs.OutlookLaws.{goes_on, goes_on_to_end}
use Rattle.span_convert.proofs.ReportTargets.{written_laws}
use Rattle.span_convert.proofs.Sources.{inputs, open_inputs, lasting_inputs}
use Rattle.span_convert.proofs.laws.outlook_begins.Goals as goal

pub returns-clause-so_far : goal.returns-clause-so_far
returns-clause-so_far c = λ from what limits bytes more said tally v valid is there.
    goes_on (open_form from) (input_form from) (lasting_inputs c.input_laws.ensures from) (written_target what) limits
    (open_inputs c.input_laws.ensures from) (written_laws c.form_targets.ensures what) valid bytes more said tally is v there

pub returns-clause-at_end : goal.returns-clause-at_end
returns-clause-at_end c = λ from what limits bytes more said tally v valid is there.
    goes_on_to_end (open_form from) (input_form from) (lasting_inputs c.input_laws.ensures from) (written_target what) limits
    (open_inputs c.input_laws.ensures from) (written_laws c.form_targets.ensures what) valid bytes more said tally is (inputs c.input_laws.ensures from) v there
