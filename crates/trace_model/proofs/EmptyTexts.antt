-- Which values have an empty text.
use Rattle.std.proofs.Common.{◌≡◌, ℕ, zero, suc, ◌/◌, ◌%◌, ◌==◌, ℤ, pos, negsuc, Bool, true, false, List, [], ◌∷◌, length, eqb-true, refl, sym, ◌∙◌, arith}
use Rattle.std.specs.Prelude.{if◌then◌else◌}
use Rattle.std.specs.Fmt.{digits, digits_onto, digit_glyph, signed_decimal}
use Rattle.base64.specs.GeneralPurpose.{encode_of}
use Rattle.base64.specs.Engines.{standard}
use Rattle.base64.specs.Rfc4648.{encode_symbols}
use Rattle.json.specs.Print.{print_from}
use Rattle.trace_model.specs.ValueTexts.{truth_text, value_text}
use Rattle.trace_model.specs.declared.value.Value.{Value, List as Several, Map as Named}

-- it has no character
abbrev pub no_text : List ℕ → Bool
no_text text = length text == 0

not_zero : (n : ℕ) → (suc n == 0) ≡ false
not_zero n = by (suc n == 0) refl
  where
    by : (b : Bool) → (suc n == 0) ≡ b → b ≡ false
    by true same = absurd (omega (arith, eqb-true (suc n) 0 same))
    by false other = refl

some_text : (x : ℕ) (more : List ℕ) → no_text (x ∷ more) ≡ false
some_text x more = not_zero (length more)

-- ---- numbers

more_digits : (k base : ℕ) (upper : Bool) (n x : ℕ) (acc : List ℕ) → no_text (digits_onto k base upper n (x ∷ acc)) ≡ false
more_digits zero base upper n x acc = some_text x acc
more_digits (suc k) base upper n x acc = by (n / base == 0) (more_digits k base upper (n / base) (digit_glyph upper (n % base)) (x ∷ acc))
  where
    by : (b : Bool) → no_text (digits_onto k base upper (n / base) (digit_glyph upper (n % base) ∷ x ∷ acc)) ≡ false
        → no_text (if b then digit_glyph upper (n % base) ∷ x ∷ acc else digits_onto k base upper (n / base) (digit_glyph upper (n % base) ∷ x ∷ acc)) ≡ false
    by true more = some_text (digit_glyph upper (n % base)) (x ∷ acc)
    by false more = more

some_digits : (n : ℕ) → no_text (digits 10 false n) ≡ false
unfolding digits
some_digits n = by (n / 10 == 0)
  where
    by : (b : Bool) → no_text (if b then digit_glyph false (n % 10) ∷ [] else digits_onto 63 10 false (n / 10) (digit_glyph false (n % 10) ∷ [])) ≡ false
    by true = some_text (digit_glyph false (n % 10)) []
    by false = more_digits 63 10 false (n / 10) (digit_glyph false (n % 10)) []

pub number_given : (n : ℤ) → no_text (signed_decimal n) ≡ false
number_given (pos n) = some_digits n
number_given (negsuc n) = some_text 45 _

-- ---- truth values, bytes, lists and maps

pub truth_given : (truth : Bool) → no_text (truth_text truth) ≡ false
truth_given true = refl
truth_given false = refl

pub bytes_given : (held : List ℕ) → (length held == 0) ≡ no_text (encode_of standard held)
unfolding encode_symbols
bytes_given [] = refl
bytes_given (a ∷ []) = refl
bytes_given (a ∷ b ∷ []) = refl
bytes_given (a ∷ b ∷ c ∷ rest) = not_zero _ ∙ sym (not_zero _)

pub list_given : (members : List Value) → no_text (value_text (Several members)) ≡ false
unfolding print_from
list_given members = not_zero _

pub map_given : (pairs : List (List ℕ × Value)) → no_text (value_text (Named pairs)) ≡ false
unfolding print_from
map_given pairs = not_zero _
