-- Whole numbers and enums, as the code finds them.
use Rattle.std.proofs.Common.{◌≡◌, ◌≢◌, ℕ, zero, suc, ◌^◌, ◌<◌, ◌≤◌, ◌==◌, ◌⊎◌, inl, inr, ℤ, pos, negsuc, neg_ℤ, ◌≤ℤ◌, ◌<ℤ◌, List, [], ◌∷◌, length, drop, Bool, true, false, Option, Some, None, option_map, option_and_then, is_some, Result, Ok, Err, unsigned_abs, if◌then◌else◌, refl, sym, ap, subst, ◌∙◌, arith}
use Rattle.std.specs.Prelude.{FitsSigned, slice_index, IfSome, IfNone}
use Rattle.std.specs.Int.{w32, w64, w128, FitsUnsigned}
use Rattle.std.specs.Result.{OkIff}
use Rattle.std.specs.Str.{all_ascii_digits}
use Rattle.std.specs.Str.Parse.{digits_value, ParsesSigned}
use Rattle.std.proofs.lemmas.Bool.{lt-ltb, le-ltb}
use Rattle.std.proofs.Math.Facts.{ltb_yes, yes_ltb, yes_leb}
use Rattle.std.proofs.lemmas.Bool.Decides.{eqb_tells}
use Rattle.std.specs.Result.{result_ok}
use Rattle.std.proofs.lemmas.Str.Parse.{IsNumeralModel, numerals_by_value, tells_all_ascii_digits, parse_signed_minus, parse_signed_plain}
use Rattle.serde_json.specs.Data.{Num, Data, unsigned, negative, float}
use Rattle.serde_json.specs.Find.{as_number, as_u64, as_i64}
use Rattle.json_members.proofs.ChoiceLaws.{either_side}
use Rattle.span_io.specs.declared.cause.Cause.TheVariants as causes
use Rattle.span_io.specs.Causes.{cause_number}
use Rattle.span_io.specs.Paths.{valued, NothingOffends, Counts}
use Rattle.span_io.proofs.PathLaws.{clean_here, counts_here, counts_only}
use Rattle.otlp_json.specs.Numbers.{numeral, integer_in_text, integer_in, unsigned_below, signed_fitting, unsigned_in, signed_in, enum_number_offends, enum_offends}

-- ---- digits

abbrev pub AreDigits : List ℕ → Type 0
AreDigits ds = all_ascii_digits ds ≡ true

pub own : IsNumeralModel AreDigits (digits_value 10)
own = numerals_by_value AreDigits tells_all_ascii_digits

pub numeral_some : (ds : List ℕ) → AreDigits ds → 0 < length ds → numeral ds ≡ Some (digits_value 10 ds)
numeral_some [] e some = absurd (omega arith)
numeral_some (c ∷ cs) e some = ap (λ (b : Bool). if b then Some (digits_value 10 (c ∷ cs)) else None) e

pub record IsNumeralOf (ds : List ℕ) (n : ℕ) : Type 0 where
  pub digits : AreDigits ds
  pub some : 0 < length ds
  pub value : n ≡ digits_value 10 ds

numeral_is : (ds : List ℕ) (n : ℕ) → numeral ds ≡ Some n → IsNumeralOf ds n
numeral_is [] n e = cc
numeral_is (c ∷ cs) n e = on (all_ascii_digits (c ∷ cs)) refl
  where
    on : (b : Bool) → all_ascii_digits (c ∷ cs) ≡ b → IsNumeralOf (c ∷ cs) n
    on true k =
        let f : numeral (c ∷ cs) ≡ Some (digits_value 10 (c ∷ cs)) = numeral_some (c ∷ cs) k (omega arith) in
        record { digits = k; some = omega arith; value = cc }
    on false k = let f : numeral (c ∷ cs) ≡ None = ap (λ (b : Bool). if b then Some (digits_value 10 (c ∷ cs)) else None) k in cc

mapped_is : (f : ℕ → ℤ) (o : Option ℕ) (z : ℤ) → option_map f o ≡ Some z → (n : ℕ) × (o ≡ Some n) × (z ≡ f n)
mapped_is f None z e = cc
mapped_is f (Some n) z e = (n, refl, cc)

-- ---- a text, by its sign

module _ (text : List ℕ) where
  pub minus_is : slice_index text 0 ≡ 45 → integer_in_text text ≡ option_map (λ n. neg_ℤ (pos n)) (numeral (drop 1 text))
  minus_is e = rw e refl

  pub plain_is : (slice_index text 0 == 45) ≡ false → integer_in_text text ≡ option_map pos (numeral text)
  plain_is e = rw e refl

abbrev Fits128 : ℕ → Type 0
Fits128 n = n ≤ 2 ^ 127

-- the whole number of a text, if it is one that `i128` holds
pub record IsParsed (text : List ℕ) (o : Option ℤ) : Type 0 where
  pub some : (z : ℤ) → o ≡ Some z → integer_in_text text ≡ Some z
  pub none : o ≡ None → (z : ℤ) → integer_in_text text ≡ Some z → FitsSigned w128 z → ⊥

module _ {E : Type 0} (text : List ℕ) where
  minus_parsed : (r : Result ℤ E) → slice_index text 0 ≡ 45 → OkIff r (AreDigits (drop 1 text) × (0 < length (drop 1 text)) × (digits_value 10 (drop 1 text) ≤ 2 ^ 127)) (neg_ℤ (pos (digits_value 10 (drop 1 text)))) → IsParsed text (result_ok r)
  minus_parsed (Ok x) e h = record {
    some = λ z k. minus_is text e ∙ ap (option_map (λ n. neg_ℤ (pos n))) (numeral_some (drop 1 text) h.0.0 h.0.1) ∙ ap Some (sym h.1) ∙ k;
    none = λ k. cc;
  }
  minus_parsed (Err x) e h = record { some = λ z k. cc; none = λ k z is fits. never z (mapped_is _ _ z (sym (minus_is text e) ∙ is)) fits }
    where
      small : (n : ℕ) → FitsSigned w128 (neg_ℤ (pos n)) → n ≤ 2 ^ 127
      small zero fits = omega arith
      small (suc n) fits = let k = fits.sfits in omega arith

      never : (z : ℤ) → (n : ℕ) × (numeral (drop 1 text) ≡ Some n) × (z ≡ neg_ℤ (pos n)) → FitsSigned w128 z → ⊥
      never z found fits =
          let is = numeral_is (drop 1 text) found.0 found.1 in
          h (is.digits, is.some, small _ (subst (λ (n : ℕ). FitsSigned w128 (neg_ℤ (pos n))) is.value (subst (FitsSigned w128) found.2 fits)))

  plain_parsed : (r : Result ℤ E) → (slice_index text 0 == 45) ≡ false → OkIff r (AreDigits text × (0 < length text) × (digits_value 10 text < 2 ^ 127)) (pos (digits_value 10 text)) → IsParsed text (result_ok r)
  plain_parsed (Ok x) e h = record {
    some = λ z k. plain_is text e ∙ ap (option_map pos) (numeral_some text h.0.0 h.0.1) ∙ ap Some (sym h.1) ∙ k;
    none = λ k. cc;
  }
  plain_parsed (Err x) e h = record { some = λ z k. cc; none = λ k z is fits. never z (mapped_is _ _ z (sym (plain_is text e) ∙ is)) fits }
    where
      never : (z : ℤ) → (n : ℕ) × (numeral text ≡ Some n) × (z ≡ pos n) → FitsSigned w128 z → ⊥
      never z found fits =
          let is = numeral_is text found.0 found.1 in
          h (is.digits, is.some, (subst (λ (n : ℕ). FitsSigned w128 (pos n)) is.value (subst (FitsSigned w128) found.2 fits)).sfits)

  pub parsed : (r : Result ℤ E) → ParsesSigned w128 10 text r → slice_index text 0 ≢ 43 → IsParsed text (result_ok r)
  parsed r h plus = on (eqb_tells (slice_index text 0) 45)
    where
      on : (((slice_index text 0 == 45) ≡ true) × (slice_index text 0 ≡ 45)) ⊎ (((slice_index text 0 == 45) ≡ false) × (slice_index text 0 ≢ 45)) → IsParsed text (result_ok r)
      on (inl e) = minus_parsed r e.1 (parse_signed_minus own w128 text r h e.1)
      on (inr e) = plain_parsed r e.0 (parse_signed_plain own w128 text r h plus e.1)

-- ---- in range

module _ (d : Data) where
  pub unsigned_of : (limit : ℕ) (z : ℤ) → integer_in d ≡ Some z → unsigned_in limit d ≡ unsigned_below limit z
  unfolding unsigned_in
  unsigned_of limit z e = ap (option_and_then (unsigned_below limit)) e

  pub signed_of : (z : ℤ) → integer_in d ≡ Some z → signed_in d ≡ signed_fitting z
  unfolding signed_in
  signed_of z e = ap (option_and_then signed_fitting) e

  pub below_is : (limit n : ℕ) → n < limit → unsigned_below limit (pos n) ≡ Some n
  below_is limit n h = ap (λ (b : Bool). if b then Some n else None) (lt-ltb n limit h)

  below_not : (limit n : ℕ) → limit ≤ n → unsigned_below limit (pos n) ≡ None
  below_not limit n h = ap (λ (b : Bool). if b then Some n else None) (le-ltb n limit h)

  pub unsigned_none : (limit : ℕ) → limit ≤ 2 ^ 127 → ((z : ℤ) → integer_in d ≡ Some z → FitsSigned w128 z → ⊥) → None ≡ unsigned_in limit d
  unfolding unsigned_in
  unsigned_none limit small never = on (integer_in d) refl
    where
      by : (n : ℕ) → integer_in d ≡ Some (pos n) → (limit ≤ n) ⊎ (n < limit) → None ≡ unsigned_below limit (pos n)
      by n e (inl h) = sym (below_not limit n h)
      by n e (inr h) = absurd (never (pos n) e (record { sfits = omega arith }))

      on : (o : Option ℤ) → integer_in d ≡ o → None ≡ option_and_then (unsigned_below limit) o
      on None e = refl
      on (Some (pos n)) e = by n e (either_side limit n)
      on (Some (negsuc n)) e = refl

  module _ {E : Type 0} (limit : ℕ) where
    below_some : (r : Result ℕ E) (z : ℤ) → OkIff r ((pos 0 ≤ℤ z) × (z <ℤ pos limit)) (unsigned_abs z) → result_ok r ≡ unsigned_below limit z
    below_some (Ok x) (pos n) h = ap Some h.1 ∙ sym (below_is limit n (ltb_yes h.0.1.lt))
    below_some (Ok x) (negsuc n) h = absurd h.0.0.le
    below_some (Err x) (pos n) h = on (either_side limit n)
      where
        on : (limit ≤ n) ⊎ (n < limit) → None ≡ unsigned_below limit (pos n)
        on (inl k) = sym (below_not limit n k)
        on (inr k) = absurd (h (record { le = yes_leb (omega arith) }, record { lt = yes_ltb k }))
    below_some (Err x) (negsuc n) h = refl

  pub unsigned_some_32 : {E : Type 0} (r : Result ℕ E) (z : ℤ) → integer_in d ≡ Some z → OkIff r (FitsUnsigned w32 z) (unsigned_abs z) → result_ok r ≡ unsigned_in (2 ^ 32) d
  unsigned_some_32 r z e h = below_some (2 ^ 32) r z h ∙ sym (unsigned_of (2 ^ 32) z e)

  pub unsigned_some_64 : {E : Type 0} (r : Result ℕ E) (z : ℤ) → integer_in d ≡ Some z → OkIff r (FitsUnsigned w64 z) (unsigned_abs z) → result_ok r ≡ unsigned_in (2 ^ 64) d
  unsigned_some_64 r z e h = below_some (2 ^ 64) r z h ∙ sym (unsigned_of (2 ^ 64) z e)

  pub fitting_is : (z : ℤ) → FitsSigned w64 z → signed_fitting z ≡ Some z
  fitting_is (pos n) h = ap (λ (b : Bool). if b then Some (pos n) else None) (lt-ltb n (2 ^ 63) h.sfits)
  fitting_is (negsuc n) h = ap (λ (b : Bool). if b then Some (negsuc n) else None) (lt-ltb n (2 ^ 63) h.sfits)

  fitting_not : (z : ℤ) → (FitsSigned w64 z → ⊥) → signed_fitting z ≡ None
  fitting_not (pos n) h = on (either_side (2 ^ 63) n)
    where
      on : (2 ^ 63 ≤ n) ⊎ (n < 2 ^ 63) → signed_fitting (pos n) ≡ None
      on (inl k) = ap (λ (b : Bool). if b then Some (pos n) else None) (le-ltb n (2 ^ 63) k)
      on (inr k) = absurd (h (record { sfits = k }))
  fitting_not (negsuc n) h = on (either_side (2 ^ 63) n)
    where
      on : (2 ^ 63 ≤ n) ⊎ (n < 2 ^ 63) → signed_fitting (negsuc n) ≡ None
      on (inl k) = ap (λ (b : Bool). if b then Some (negsuc n) else None) (le-ltb n (2 ^ 63) k)
      on (inr k) = absurd (h (record { sfits = k }))

  pub signed_some : {E : Type 0} (r : Result ℤ E) (z : ℤ) → integer_in d ≡ Some z → OkIff r (FitsSigned w64 z) z → result_ok r ≡ signed_in d
  signed_some (Ok x) z e h = ap Some h.1 ∙ sym (signed_of z e ∙ fitting_is z h.0)
  signed_some (Err x) z e h = sym (signed_of z e ∙ fitting_not z h)

  wider : (z : ℤ) → FitsSigned w64 z → FitsSigned w128 z
  wider (pos n) h = record { sfits = omega (arith, h.sfits) }
  wider (negsuc n) h = record { sfits = omega (arith, h.sfits) }

  pub signed_none : ((z : ℤ) → integer_in d ≡ Some z → FitsSigned w128 z → ⊥) → None ≡ signed_in d
  unfolding signed_in
  signed_none never = on (integer_in d) refl
    where
      on : (o : Option ℤ) → integer_in d ≡ o → None ≡ option_and_then signed_fitting o
      on None e = refl
      on (Some z) e = sym (fitting_not z (λ h. never z e (wider z h)))

-- ---- enums

module _ (last : ℕ) where
  enum_negative_in : (o : Option Num) → None ≡ option_and_then as_u64 o → is_some (option_and_then as_i64 o) ≡ true → Counts (valued (enum_number_offends last) o) (cause_number causes.BadEnum)
  enum_negative_in None none some = cc
  enum_negative_in (Some (unsigned n)) none some = cc
  enum_negative_in (Some (negative z)) none some = counts_only 13
  enum_negative_in (Some (float x)) none some = cc

  enum_other_in : (o : Option Num) → None ≡ option_and_then as_u64 o → is_some (option_and_then as_i64 o) ≡ false → Counts (valued (enum_number_offends last) o) (cause_number causes.BadShape)
  enum_other_in None none some = counts_only 11
  enum_other_in (Some (unsigned n)) none some = cc
  enum_other_in (Some (negative z)) none some = cc
  enum_other_in (Some (float x)) none some = counts_only 11

  enum_beyond_in : (o : Option Num) (n : ℕ) → Some n ≡ option_and_then as_u64 o → last < n → Counts (valued (enum_number_offends last) o) (cause_number causes.BadEnum)
  enum_beyond_in None n is beyond = cc
  enum_beyond_in (Some (unsigned m)) n is beyond =
      let e : n ≡ m = cc in counts_here _ 13 (refl, omega arith) (λ k h. let i = h.0 in omega arith)
  enum_beyond_in (Some (negative z)) n is beyond = cc
  enum_beyond_in (Some (float x)) n is beyond = cc

  enum_clean_in : (o : Option Num) (n : ℕ) → Some n ≡ option_and_then as_u64 o → n ≤ last → NothingOffends (valued (enum_number_offends last) o)
  enum_clean_in None n is within = cc
  enum_clean_in (Some (unsigned m)) n is within =
      let e : n ≡ m = cc in clean_here _ (λ k h. let i = h.1 in omega arith)
  enum_clean_in (Some (negative z)) n is within = cc
  enum_clean_in (Some (float x)) n is within = cc

  pub enum_negative : (d : Data) → None ≡ option_and_then as_u64 (as_number d) → is_some (option_and_then as_i64 (as_number d)) ≡ true → Counts (enum_offends last d) (cause_number causes.BadEnum)
  enum_negative d = enum_negative_in (as_number d)

  pub enum_other : (d : Data) → None ≡ option_and_then as_u64 (as_number d) → is_some (option_and_then as_i64 (as_number d)) ≡ false → Counts (enum_offends last d) (cause_number causes.BadShape)
  enum_other d = enum_other_in (as_number d)

  pub enum_beyond : (d : Data) (n : ℕ) → Some n ≡ option_and_then as_u64 (as_number d) → last < n → Counts (enum_offends last d) (cause_number causes.BadEnum)
  enum_beyond d = enum_beyond_in (as_number d)

  pub enum_clean : (d : Data) (n : ℕ) → Some n ≡ option_and_then as_u64 (as_number d) → n ≤ last → NothingOffends (enum_offends last d)
  enum_clean d = enum_clean_in (as_number d)

pub ruleset enums = (enum_negative, enum_other, enum_beyond, enum_clean)

pub ruleset in_range = (unsigned_none, unsigned_some_32, unsigned_some_64, signed_none, signed_some)

-- ---- what is answered of a text

pub parsed_some : {E : Type 0} (text : List ℕ) (r : Result ℤ E) → ParsesSigned w128 10 text r → slice_index text 0 ≢ 43 → IfSome (result_ok r) (λ z. integer_in_text text ≡ Some z)
parsed_some text r h plus = on (result_ok r) (parsed text r h plus)
  where
    on : (o : Option ℤ) → IsParsed text o → IfSome o (λ z. integer_in_text text ≡ Some z)
    on None h = tt
    on (Some z) h = h.some z refl

pub parsed_none : {E : Type 0} (text : List ℕ) (r : Result ℤ E) → ParsesSigned w128 10 text r → slice_index text 0 ≢ 43 → IfNone (result_ok r) ((z : ℤ) → integer_in_text text ≡ Some z → ¬ FitsSigned w128 z)
parsed_none text r h plus = on (result_ok r) (parsed text r h plus)
  where
    on : (o : Option ℤ) → IsParsed text o → IfNone o ((z : ℤ) → integer_in_text text ≡ Some z → ¬ FitsSigned w128 z)
    on None h = h.none refl
    on (Some z) h = tt
