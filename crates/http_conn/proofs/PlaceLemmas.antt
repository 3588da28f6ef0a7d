-- What stands in front of the first byte of a kind.
use Rattle.std.proofs.Common.{◌≡◌, ◌≢◌, ℕ, ◌<◌, ◌≤◌, true, false, List, length, get_or, take, sym, ap, arith}
use Rattle.std.specs.Prelude.{◌==◌}
use Rattle.std.proofs.lemmas.Bool.Decides.{nat_tests}
use Rattle.std.proofs.lemmas.List.Sums.{position_or_len_is}
use Rattle.http_conn.specs.Fields.{before}

other_byte : (a b : ℕ) → a ≢ b → (a == b) ≡ false
other_byte a b h = grind (arith, nat_tests)

same_byte : (a b : ℕ) → a ≡ b → (a == b) ≡ true
same_byte a b h = grind (arith, nat_tests)

pub before_is : (mark : ℕ) (text : List ℕ) (n : ℕ) → n ≤ length text → ((k : ℕ) → k < n → get_or text k 0 ≢ mark)
    → (n < length text → get_or text n 0 ≡ mark) → take n text ≡ before mark text
before_is mark text n within none found =
    ap (λ i. take i text) (sym (position_or_len_is (λ b. b == mark) text n 0 within
    (λ k lt. other_byte (get_or text k 0) mark (none k lt)) (λ lt. same_byte (get_or text n 0) mark (found lt))))
