use Rattle.span_io.specs.declared.form.Form.{Form}
use Rattle.span_convert.specs.private.InputLaws.{InputLaws}
use Rattle.span_convert.specs.Reports.{written_target}
use Rattle.span_convert.specs.Targets.{open_target}
use Rattle.span_convert.specs.Units.{open_form}
use Rattle.span_convert.proofs.InputForms.{SomeInput}
use Rattle.span_convert.proofs.OutlookLaws.{open_target_laws}
use Rattle.span_convert.proofs.ReportTargets.{written_laws}
use Rattle.span_convert.proofs.SomeVerdict.{some_verdict}
use Rattle.span_convert.proofs.Sources.{open_inputs, some_open_inputs}
use Rattle.span_convert.proofs.laws.some_outlook.Goals as goal

-- what is known of the first bytes of inputs of a form
known : (c : goal.After-form_targets) (from : Form) → SomeInput (open_form from)
known c from =
    let L : InputLaws = c.input_laws.ensures in
    some_open_inputs L c.some_group.ensures (λ unit g r so is. c.read_proper.ensures unit g r so is) c.read_is_sound.ensures c.read_is_proper.ensures from

pub returns : goal.returns
returns c = λ from what limits bytes all.
    some_verdict (open_target (written_target what)) (open_target_laws (written_target what) (written_laws c.form_targets.ensures what))
    (open_form from) (open_inputs c.input_laws.ensures from) (known c from) limits bytes all
