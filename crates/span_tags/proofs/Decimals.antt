-- Texts that are the decimal of a number of 32 bits, without leading zeros.
use Rattle.std.proofs.Common.{◌≡◌, ℕ, ◌<◌, ◌≤◌, ◌^◌, Bool, true, false, if◌then◌else◌, nat_le, List, Some, None, Result, Ok, option_and_then, decimal, refl, sym, ap, subst, ◌∙◌, arith}
use Rattle.std.specs.Str.{bytes_eq}
use Rattle.std.specs.Str.Parse.{digits_value, ParsesUnsigned}
use Rattle.std.proofs.lemmas.Bool.{le-leb, leb-true}
use Rattle.std.proofs.lemmas.Fmt.{parse-decimal, decimal_is_IsNumeral}
use Rattle.span_tags.proofs.AttributeLaws.{same_key}
use Rattle.span_tags.specs.TagWords.{at_most, decimal_in}

-- what is read of a text, by the tests
by_tests : (text : List ℕ) (n : ℕ) (same : Bool) (fits : Bool) → bytes_eq (decimal n) text ≡ same → nat_le n 4294967295 ≡ fits
    → (same ≡ true → fits ≡ true → ⊥) → option_and_then (at_most 4294967295) (if bytes_eq (decimal n) text then Some n else None) ≡ None
by_tests text n false fits s f never = rw s refl
by_tests text n true false s f never = rw (s, f) refl
by_tests text n true true s f never = absurd (never refl refl)

pub decimal_not : {E : Type 0} (text : List ℕ) (r : Result ℕ E) → ParsesUnsigned 32 10 text r
    → ((n : ℕ) → r ≡ Ok n → bytes_eq (decimal n) text ≡ false) → option_and_then (at_most 4294967295) (decimal_in text) ≡ None
decimal_not text r parsed other = by_tests text (digits_value 10 text) _ _ refl refl (λ s f.
    let n = digits_value 10 text in
    let small : n ≤ 4294967295 = leb-true n 4294967295 f in
    let spelled : text ≡ decimal n = sym (same_key (decimal n) text s) in
    let parsed_to : r ≡ Ok n = parse-decimal 32 n text r (omega arith) (omega arith) spelled parsed in
    let differs = other n parsed_to in
    let no_way : true ≡ false = sym s ∙ differs in
    cc)

pub decimal_read : (text : List ℕ) (n : ℕ) → n < 2 ^ 32 → bytes_eq (decimal n) text ≡ true
    → option_and_then (at_most 4294967295) (decimal_in text) ≡ Some n
decimal_read text n small same =
    let spelled : decimal n ≡ text = same_key (decimal n) text same in
    let counted : digits_value 10 text ≡ n = ap (λ t. digits_value 10 t) (sym spelled) ∙ (decimal_is_IsNumeral n (omega arith)).1 in
    let fits : nat_le n 4294967295 ≡ true = le-leb n 4294967295 (omega arith) in
    let P : ℕ → Type 0 = λ m. option_and_then (at_most 4294967295) (if bytes_eq (decimal m) text then Some m else None) ≡ Some n in
    let here : P n = rw (same, fits) refl in
    subst P (sym counted) here
