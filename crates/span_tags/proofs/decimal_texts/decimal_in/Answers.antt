use Rattle.std.proofs.Common.{◌≡◌, sym, ap, ◌∙◌, arith, decimal}
use Rattle.std.specs.Str.{bytes_eq}
use Rattle.span_tags.proofs.Decimals.{decimal_not, decimal_read}
use Rattle.span_tags.proofs.decimal_texts.decimal_in.Goals as goal

pub returns-in_default : goal.returns-in_default
returns-in_default c = sym (decimal_not c.args.text.now c.from_str.result c.from_str.ensures.0 (λ n is. absurd (c.in_default.not-Ok n is)))

pub returns-then-is_decimal_of : goal.returns-then-is_decimal_of
returns-then-is_decimal_of c = sym (decimal_read c.args.text.now c.in-Ok.number (omega arith) (sym c.is_decimal_of.ensures ∙ c.if-is_decimal_of.true))

pub returns : goal.returns
returns c = sym (decimal_not c.args.text.now c.from_str.result c.from_str.ensures.0 (λ n is.
    let same : n ≡ c.in-Ok.number = cc (is, c.in-Ok.is) in
    ap (λ m. bytes_eq (decimal m) c.args.text.now) same ∙ (sym c.is_decimal_of.ensures ∙ c.if-is_decimal_of.false)))
