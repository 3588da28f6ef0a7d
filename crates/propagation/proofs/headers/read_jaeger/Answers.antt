use Rattle.propagation.specs.Heads.{header_values, uber_name}
use Rattle.propagation.specs.declared.header_form.HeaderForm.TheVariants as forms
use Rattle.propagation.proofs.FormLemmas.{answers_none, uber_unread}
use Rattle.propagation.proofs.headers.read_jaeger.Goals as goal

pub returns-in_err-ids : goal.returns-in_err-ids
returns-in_err-ids c = λ headers found.
    answers_none forms.Uber headers c.from_residual-in_err-ids.result c.from_residual-in_err-ids.ensures
    (uber_unread headers c.in_ok-value.value.now (c.in_ok-value.ensures.value (header_values uber_name headers) found.uber) (λ ids sampling h. let bad = c.in_err-ids.ensures.only ids sampling h in cc))
