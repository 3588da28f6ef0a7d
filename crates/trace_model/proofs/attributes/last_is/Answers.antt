use Rattle.std.proofs.Common.{◌∙◌, sym}
use Rattle.trace_model.proofs.Order.{ends_with-last}
use Rattle.trace_model.proofs.attributes.last_is.Goals as goal

pub returns-in-Some : goal.returns-in-Some
returns-in-Some c =
    (simp (c.as_str.ensures.value, c.as_str-in-Some.ensures.value) at c.eq.ensures) ∙ sym (ends_with-last c.args.names.now c.in-Some.name.now c.args.key.now c.in-Some.ensures.value)
