-- Numbers and enums as they are written are read as themselves.
use Rattle.std.proofs.Common.{◌≡◌, ◌≢◌, ℕ, zero, suc, ◌<◌, ◌^◌, ◌==◌, ◌⊎◌, inl, inr, ℤ, pos, negsuc, neg_ℤ, List, [], ◌∷◌, length, true, false, Some, option_map, refl, ap, ◌∙◌, arith}
use Rattle.std.specs.Prelude.{FitsSigned}
use Rattle.std.specs.Int.{w64}
use Rattle.std.specs.Fmt.{decimal, signed_decimal}
use Rattle.std.proofs.lemmas.Bool.Decides.{eqb_tells}
use Rattle.std.proofs.lemmas.Fmt.{decimal_is_IsNumeral}
use Rattle.std.specs.Str.Parse.{AllDigits}
use Rattle.std.proofs.lemmas.Str.Parse.{digit_from_value}
use Rattle.serde_json.specs.Data.{string, number, unsigned}
use Rattle.span_io.specs.Paths.{Given}
use Rattle.trace_model.specs.declared.span.Code.{Code}
use Rattle.trace_model.specs.declared.span.Code.TheVariants as statuses
use Rattle.trace_model.specs.declared.span.Kind.{Kind}
use Rattle.trace_model.specs.declared.span.Kind.TheVariants as kinds
use Rattle.trace_model.specs.OtlpParts.{kind_number, code_number}
use Rattle.json_members.specs.Canonical.{count_data}
use Rattle.json_members.specs.Members.{unless_null}
use Rattle.otlp_json.specs.Canonical.{decimal_data}
use Rattle.otlp_json.specs.Numbers.{numeral, integer_in_text, IsJsonCount, IsJsonTime, IsJsonSigned, IsJsonKind, IsJsonCode}
use Rattle.otlp_json.proofs.NumberLemmas.{own, numeral_some, minus_is, plain_is, unsigned_of, signed_of, below_is, fitting_is}

-- ---- decimal texts

decimal_numeral : (n : ℕ) → n < 2 ^ 64 → numeral (decimal n) ≡ Some n
decimal_numeral n low =
    let is = decimal_is_IsNumeral n low in
    numeral_some (decimal n) (own.from (decimal n) is.0.1) is.0.0 ∙ ap Some is.1

no_minus : (ds : List ℕ) → AllDigits 10 ds → 0 < length ds → integer_in_text ds ≡ option_map pos (numeral ds)
no_minus [] all some = absurd (omega arith)
no_minus (c ∷ cs) all some = on (eqb_tells c 45)
  where
    on : (((c == 45) ≡ true) × (c ≡ 45)) ⊎ (((c == 45) ≡ false) × (c ≢ 45)) → integer_in_text (c ∷ cs) ≡ option_map pos (numeral (c ∷ cs))
    on (inl e) = let e1 = e.1 in let digit = digit_from_value c all.0 in absurd (omega (arith, e1, digit))
    on (inr e) = plain_is (c ∷ cs) e.0

decimal_integer : (n : ℕ) → n < 2 ^ 64 → integer_in_text (decimal n) ≡ Some (pos n)
decimal_integer n low =
    let is = decimal_is_IsNumeral n low in
    no_minus (decimal n) is.0.1 is.0.0 ∙ ap (option_map pos) (decimal_numeral n low)

signed_integer : (z : ℤ) → FitsSigned w64 z → integer_in_text (signed_decimal z) ≡ Some z
signed_integer (pos n) fits = let low : n < 2 ^ 63 = fits.sfits in decimal_integer n (omega (arith, low))
signed_integer (negsuc n) fits =
    let low : n < 2 ^ 63 = fits.sfits in
    minus_is (45 ∷ decimal (suc n)) refl ∙ ap (option_map (λ k. neg_ℤ (pos k))) (decimal_numeral (suc n) (omega (arith, low)))

-- ---- members

pub signed_again : (z : ℤ) → FitsSigned w64 z → IsJsonSigned z (string (signed_decimal z))
signed_again z fits = signed_of (string (signed_decimal z)) z (signed_integer z fits) ∙ fitting_is (string (signed_decimal z)) z fits

pub time_again : (n : ℕ) → n < 2 ^ 64 → Given IsJsonTime (λ t. t ≡ 0) n (unless_null (decimal_data n))
time_again zero low = refl
time_again (suc n) low = unsigned_of (string (decimal (suc n))) (2 ^ 64) (pos (suc n)) (decimal_integer (suc n) low) ∙ below_is (string (decimal (suc n))) (2 ^ 64) (suc n) low

pub count_again : (n : ℕ) → n < 2 ^ 32 → Given IsJsonCount (λ c. c ≡ 0) n (unless_null (count_data n))
count_again zero low = refl
count_again (suc n) low = unsigned_of (number (unsigned (suc n))) (2 ^ 32) (pos (suc n)) refl ∙ below_is (number (unsigned (suc n))) (2 ^ 32) (suc n) low

pub kind_again : (kind : Kind) → Given IsJsonKind (λ k. k ≡ kinds.Unspecified) kind (unless_null (count_data (kind_number kind)))
kind_again kinds.Unspecified = refl
kind_again kinds.Internal = refl
kind_again kinds.Server = refl
kind_again kinds.Client = refl
kind_again kinds.Producer = refl
kind_again kinds.Consumer = refl

pub code_again : (code : Code) → Given IsJsonCode (λ c. c ≡ statuses.Unset) code (unless_null (count_data (code_number code)))
code_again statuses.Unset = refl
code_again statuses.Okay = refl
code_again statuses.Fail = refl
