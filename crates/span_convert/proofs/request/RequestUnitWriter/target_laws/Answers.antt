use Rattle.span_io.specs.declared.form.Form.TheVariants as forms
use Rattle.span_convert.proofs.request.RequestUnitWriter.target_laws.Goals as goal

pub returns : goal.returns
returns c = c.form_targets.ensures forms.OtlpProto
