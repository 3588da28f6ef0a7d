use Rattle.span_convert.specs.Reports.{written_target}
use Rattle.span_convert.specs.Units.{input_form, open_form}
use Rattle.span_convert.proofs.OutlookLaws.{lasts, lasts_to_end, stands}
use Rattle.span_convert.proofs.Sources.{lasting_inputs}
use Rattle.span_convert.proofs.laws.outlook_lasts.Goals as goal

pub returns-clause-stays : goal.returns-clause-stays
returns-clause-stays c = λ from what limits. lasts (open_form from) (input_form from) (lasting_inputs c.input_laws.ensures from) (written_target what) limits

pub returns-clause-comes_true : goal.returns-clause-comes_true
returns-clause-comes_true c = λ from what limits. lasts_to_end (open_form from) (input_form from) (lasting_inputs c.input_laws.ensures from) (written_target what) limits

pub returns-clause-at_end : goal.returns-clause-at_end
returns-clause-at_end c = λ from what limits. stands (open_form from) (input_form from) (lasting_inputs c.input_laws.ensures from) (written_target what) limits
