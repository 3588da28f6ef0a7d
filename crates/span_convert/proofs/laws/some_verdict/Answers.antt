use Rattle.span_io.specs.declared.form.Form.{Form}
use Rattle.span_convert.specs.private.InputLaws.{InputLaws}
use Rattle.span_convert.specs.Reports.{written_target}
use Rattle.span_convert.specs.Units.{input_form}
use Rattle.span_convert.proofs.InputForms.{SomeInput}
use Rattle.span_convert.proofs.ReportTargets.{written_laws}
use Rattle.span_convert.proofs.SomeVerdict.{some_verdict}
use Rattle.span_convert.proofs.Sources.{inputs, some_inputs}
use Rattle.span_convert.proofs.laws.some_verdict.Goals as goal

-- what is known of the inputs of a form
known : (c : goal.After-form_targets) (from : Form) → SomeInput (input_form from)
known c from =
    let L : InputLaws = c.input_laws.ensures in
    some_inputs L c.some_group.ensures (λ unit g r so is. c.read_proper.ensures unit g r so is) c.read_is_sound.ensures c.read_is_proper.ensures from

pub returns : goal.returns
returns c = λ from what limits bytes all.
    some_verdict (written_target what) (written_laws c.form_targets.ensures what) (input_form from) (inputs c.input_laws.ensures from) (known c from) limits bytes all
