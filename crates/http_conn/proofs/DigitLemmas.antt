-- Values of 1 to 18 digits and their numbers.
use Rattle.std.proofs.Common.{◌≡◌, ℕ, ◌+◌, ◌-◌, ◌*◌, ◌^◌, ◌<◌, ◌≤◌, Bool, true, false, List, [], ◌∷◌, length, get_or, take, refl, arith}
use Rattle.std.proofs.Math.Nat as nat
use Rattle.std.specs.Prelude.{◌&&◌, nat_le}
use Rattle.std.specs.Char.{digit_value, is_ascii_digit}
use Rattle.std.specs.List.{AllPass, list_all}
use Rattle.std.specs.Str.Parse.{AllDigits, digits_value}
use Rattle.std.proofs.lemmas.Bool.Decides.{nat_tests}
use Rattle.std.proofs.lemmas.Int.Digits.{digits_value-lt, digits_value_more}
use Rattle.std.proofs.lemmas.List.{length-take}
use Rattle.std.proofs.lemmas.List.Elements.{All-head, All-tail, All-take}
use Rattle.std.proofs.lemmas.List.Sums.{AllPass-from_list_all}
use Rattle.std.proofs.lemmas.Str.{digit_value_digit}
use Rattle.http_conn.specs.Bodies.{is_length}

record IsLength (text : List ℕ) : Type 0 where
  short : length text ≤ 18
  digits : AllPass is_ascii_digit text

last_of : (a b c : Bool) → a && b && c ≡ true → (b ≡ true) × (c ≡ true)
last_of true true true e = (refl, refl)
last_of true true false e = absurd (let k : false ≡ true = e in cc)
last_of true false c e = absurd (let k : false ≡ true = e in cc)
last_of false b c e = absurd (let k : false ≡ true = e in cc)

at_most : (n m : ℕ) → nat_le n m ≡ true → n ≤ m
at_most n m e = grind (arith, nat_tests)

parts : (text : List ℕ) → is_length text ≡ true → IsLength text
parts text e =
    let of = last_of (nat_le 1 (length text)) (nat_le (length text) 18) (list_all is_ascii_digit text) e in
    record { short = at_most (length text) 18 of.0; digits = AllPass-from_list_all is_ascii_digit text of.1 }

digit_range : (c : ℕ) → is_ascii_digit c ≡ true → (48 ≤ c) × (c ≤ 57)
digit_range c e = (grind (arith, nat_tests), grind (arith, nat_tests))

all_digits : (text : List ℕ) → AllPass is_ascii_digit text → AllDigits 10 text
all_digits [] h = tt
all_digits (c ∷ text) h =
    let range = digit_range c (All-head (λ x. is_ascii_digit x ≡ true) c text h) in
    let value : digit_value c + 48 ≡ c = digit_value_digit c range in
    (omega arith, all_digits text (All-tail (λ x. is_ascii_digit x ≡ true) c text h))

module _ (text : List ℕ) (i : ℕ) (is : is_length text ≡ true) (inside : i < length text) where
  -- the digit at a place
  pub digit_at : (48 ≤ get_or text i 0) × (get_or text i 0 ≤ 57)
  digit_at = digit_range (get_or text i 0) ((parts text is).digits i 0 inside)

  -- the number so far leaves room for one digit more
  pub number_fits : digits_value 10 (take i text) < 100000000000000000
  number_fits =
      let of = parts text is in
      let below = digits_value-lt 10 (take i text) (all_digits (take i text) (All-take (λ x. is_ascii_digit x ≡ true) i text of.digits)) in
      let count : length (take i text) ≤ 17 = omega (arith, of.short, length-take i text) in
      let wider : 10 ^ length (take i text) ≤ 100000000000000000 = nat.pow-le-pow_right {n = 10} (omega arith) {i = length (take i text)} {j = 17} count in
      omega arith

  pub number_more : digits_value 10 (take (i + 1) text) ≡ digits_value 10 (take i text) * 10 + (get_or text i 0 - 48)
  number_more =
      let range = digit_at in
      let value : digit_value (get_or text i 0) + 48 ≡ get_or text i 0 = digit_value_digit (get_or text i 0) range in
      omega (arith, digits_value_more 10 text i inside)
