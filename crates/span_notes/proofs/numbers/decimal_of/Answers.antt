use Rattle.std.proofs.Common.{refl, sym, ◌∙◌, arith}
use Rattle.span_notes.proofs.NumberLemmas.{is_decimal, not_decimal, not_parsed}
use Rattle.span_notes.proofs.numbers.decimal_of.Goals as goal

pub returns-in_default : goal.returns-in_default
returns-in_default c = not_parsed c.args.text.now c.from_str.result c.from_str.ensures.0 _ refl (λ n is. absurd (c.in_default.not-Ok n is))

pub returns-then-is_decimal_of : goal.returns-then-is_decimal_of
returns-then-is_decimal_of c = is_decimal c.args.text.now c.in-Ok.number (omega arith) (sym c.is_decimal_of.ensures ∙ c.if-is_decimal_of.true)

pub returns : goal.returns
returns c = not_decimal c.args.text.now c.from_str.result c.from_str.ensures.0 c.in-Ok.number c.in-Ok.is (sym c.is_decimal_of.ensures ∙ c.if-is_decimal_of.false)
