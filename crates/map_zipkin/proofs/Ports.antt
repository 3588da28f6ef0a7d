-- A port of 16 bits, by the number of 32 bits that is read of its text.
use Rattle.std.proofs.Common.{◌≡◌, ℕ, ◌≤◌, false, cond, nat_lt, Option, Some, None, option_and_then, unwrap_or, refl, ap, le-leb, arith}
use Rattle.std.proofs.lemmas.Bool.{ltb-false}
use Rattle.span_tags.specs.TagWords.{at_most}

pub number_by : (read : Option ℕ) → nat_lt 65535 (unwrap_or read 0) ≡ false → unwrap_or (option_and_then (at_most 4294967295) read) 0 ≡ unwrap_or read 0
number_by None fits = refl
number_by (Some n) fits = let small : n ≤ 65535 = ltb-false 65535 n fits in ap (λ b. unwrap_or (cond b (Some n) None) 0) (le-leb n 4294967295 (omega (arith, small)))
