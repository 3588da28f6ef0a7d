-- Texts that are the decimal of a number of 32 bits, without leading zeros.
use Rattle.std.proofs.Common.{◌≡◌, ◌↔◌, ℕ, ◌<◌, ◌^◌, Bool, true, false, List, Option, Some, None, Result, Ok, decimal, sym, ap, ◌∙◌, arith}
use Rattle.std.specs.Str.{bytes_eq}
use Rattle.std.specs.Str.Parse.{ParsesUnsigned}
use Rattle.std.proofs.lemmas.Fmt.{parse-decimal, decimal_injective}
use Rattle.std.proofs.lemmas.Slice.Eq.{bytes_eq-Decides}
use Rattle.span_notes.specs.Pairs.{IsDecimal}

module _ {E : Type 0} (text : List ℕ) (r : Result ℕ E) (parsed : ParsesUnsigned 32 10 text r) where
  parsed_to : (n : ℕ) → IsDecimal text n → r ≡ Ok n
  parsed_to n is = let small = is.most in parse-decimal 32 n text r (omega (arith, small)) (omega (arith, small)) is.is parsed

  -- nothing was parsed
  pub not_parsed : (result : Option ℕ) → result ≡ None → ((n : ℕ) → r ≡ Ok n → ⊥) → (n : ℕ) → (result ≡ Some n) ↔ IsDecimal text n
  not_parsed result is none n = (
    λ some. absurd (let e : ◌≡◌ {A = Option ℕ} None (Some n) = sym is ∙ some in cc),
    λ told. absurd (none n (parsed_to n told)),
  )

  -- its decimal is another text
  pub not_decimal : (m : ℕ) → r ≡ Ok m → bytes_eq (decimal m) text ≡ false → (n : ℕ) → (◌≡◌ {A = Option ℕ} None (Some n)) ↔ IsDecimal text n
  not_decimal m is other n = (
    λ some. absurd (cc),
    λ told.
        let same : m ≡ n = cc (is, parsed_to n told) in
        let equal : bytes_eq (decimal m) text ≡ true = (bytes_eq-Decides (decimal m) text).1 (ap (λ (x : ℕ). decimal x) same ∙ sym told.is) in
        let never : ◌≡◌ {A = Bool} false true = sym other ∙ equal in
        absurd (cc),
  )

pub is_decimal : (text : List ℕ) (m : ℕ) → m < 2 ^ 32 → bytes_eq (decimal m) text ≡ true → (n : ℕ) → (◌≡◌ {A = Option ℕ} (Some m) (Some n)) ↔ IsDecimal text n
is_decimal text m small same n =
    let spelled : decimal m ≡ text = (bytes_eq-Decides (decimal m) text).0 same in (
      λ some. let e : m ≡ n = cc in record { is = sym spelled ∙ ap (λ (x : ℕ). decimal x) e; most = omega (arith, small, e) },
      λ told. ap (λ (x : ℕ). Some x) (decimal_injective m n (omega (arith, small)) (omega (arith, told.most)) (spelled ∙ told.is)),
    )
