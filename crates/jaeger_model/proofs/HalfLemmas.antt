-- The halves of a trace's identifier.
use Rattle.std.proofs.Common.{◌≡◌, ℕ, ◌/◌, ◌%◌, ◌^◌, sym, ap, ◌∙◌}
use Rattle.std.proofs.lemmas.Nat.{div-mul-add, mod-mul-add}
use Rattle.span_ids.specs.Identifiers.{HasHalves}

pub low_half : (id high low : ℕ) → HasHalves id high low → low ≡ id % 2 ^ 64
low_half id high low h = sym (ap (λ n. n % 2 ^ 64) h.2 ∙ mod-mul-add high (2 ^ 64) low h.1)

pub high_half : (id high low : ℕ) → HasHalves id high low → high ≡ id / 2 ^ 64
high_half id high low h = sym (ap (λ n. n / 2 ^ 64) h.2 ∙ div-mul-add high (2 ^ 64) low h.1)
