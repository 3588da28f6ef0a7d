use Rattle.std.proofs.Common.{◌∙◌, sym}
use Rattle.trace_model.proofs.Order.{keys_end}
use Rattle.trace_model.proofs.attributes.last_key_is.Goals as goal

pub returns-in-Some : goal.returns-in-Some
returns-in-Some c =
    (simp (c.as_str.ensures.value, c.as_str-in-Some.ensures.value) at c.eq.ensures) ∙ sym (keys_end c.args.pairs.now c.in-Some.pair.now c.args.key.now c.in-Some.ensures.value)
