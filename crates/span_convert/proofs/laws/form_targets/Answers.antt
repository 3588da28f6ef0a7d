use Rattle.span_convert.proofs.FormTargets.{form_laws}
use Rattle.span_convert.proofs.laws.form_targets.Goals as goal

pub returns : goal.returns
returns c = form_laws c.faults_found.ensures c.zipkin_faults_found.ensures c.zipkin_normal_forms.ensures
