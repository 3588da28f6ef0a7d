-- Decimals, counts and flags, there and back.
use Rattle.std.proofs.Common.{◌≡◌, ℕ, ◌+◌, ◌-◌, ◌%◌, ◌^◌, ◌<◌, ◌≤◌, ℤ, pos, Bool, true, false, cond, ◌&&◌, List, Option, Some, None, is_some, option_and_then, unwrap_or, decimal, refl, sym, ap, ◌∙◌, subst, true≢false, nat_le, ◌==◌, le-leb, leb-true, eqb-true, eq-eqb, arith}
use Rattle.std.specs.Int.{w32, cast_signed, cast_unsigned}
use Rattle.std.specs.Str.{bytes_eq}
use Rattle.std.specs.Str.Parse.{digits_value}
use Rattle.std.proofs.lemmas.Bool.{eqb-false}
use Rattle.std.proofs.lemmas.Fmt.{decimal_is_IsNumeral_wide}
use Rattle.std.proofs.lemmas.Int.{of_z-to_z}
use Rattle.trace_model.specs.declared.value.Value.{Value, Text, Truth, Number, Eight, Bytes, List', Map', Nothing}
use Rattle.span_tags.proofs.AttributeLaws.{same_key, key_itself}
use Rattle.span_tags.specs.TagWords.{decimal_in, at_most, count_in, is_idle}
use Rattle.map_jaeger.specs.ColumnWords.{count_given, are_high_flags, flags_in}
use Rattle.map_jaeger.specs.Reading.{flag_bits, high_flags, high_flags_of}

-- ---- decimals

pub decimal_back : (n : ℕ) → n < 10 ^ 64 → decimal_in (decimal n) ≡ Some n
decimal_back n lt =
    let e : digits_value 10 (decimal n) ≡ n = (decimal_is_IsNumeral_wide n lt).1 in
    (λ i. cond (bytes_eq (decimal (e i)) (decimal n)) (Some (e i)) None) ∙ ap (λ b. cond b (Some n) None) (key_itself (decimal n))

decimal_by : (t : List ℕ) (m n : ℕ) (b : Bool) → bytes_eq (decimal m) t ≡ b → cond b (Some m) None ≡ Some n → t ≡ decimal n
decimal_by t m n true same e = let number : m ≡ n = cc in sym (same_key (decimal m) t same) ∙ ap decimal number
decimal_by t m n false apart e = absurd (true≢false (sym (ap is_some e)))

pub decimal_of : (t : List ℕ) (n : ℕ) → decimal_in t ≡ Some n → t ≡ decimal n
decimal_of t n e = decimal_by t (digits_value 10 t) n (bytes_eq (decimal (digits_value 10 t)) t) refl e

-- ---- counts

at_most_low : (last n : ℕ) → n ≤ last → at_most last n ≡ Some n
at_most_low last n le = ap (λ b. cond b (Some n) None) (le-leb n last le)

count_by : (n : ℕ) (b : Bool) → (n == 0) ≡ b → n ≤ 4294967295 → unwrap_or (count_in (cond b None (Some (Number (pos n))))) 0 ≡ n
count_by n true e le = sym (eqb-true n 0 e)
count_by n false e le = ap (λ o. unwrap_or o 0) (at_most_low 4294967295 n le)

pub count_back : (n : ℕ) → n < 2 ^ 32 → unwrap_or (count_in (count_given n)) 0 ≡ n
count_back n lt = count_by n (n == 0) refl (omega arith)

told_by : (n : ℕ) (b : Bool) → n ≤ 4294967295 → is_idle (cond b None (Some (Number (pos n)))) (count_in (cond b None (Some (Number (pos n))))) ≡ false
told_by n true le = refl
told_by n false le = ap (is_idle (Some (Number (pos n)))) (at_most_low 4294967295 n le)

pub count_told : (n : ℕ) → n < 2 ^ 32 → is_idle (count_given n) (count_in (count_given n)) ≡ false
count_told n lt = told_by n (n == 0) (omega arith)

none_is_some : {A : Type 0} {P : Type 0} → (x : A) → None ≡ Some x → P
none_is_some x e = absurd (true≢false (sym (ap is_some e)))

-- ---- flags

-- an even number of 32 bits, not zero
pub record IsHigh (n : ℕ) : Type 0 where
  pub even : n % 2 ≡ 0
  pub low : 2 ≤ n
  pub high : n ≤ 4294967294

high_test : (n : ℕ) → IsHigh n → ((n % 2 == 0) && (nat_le 2 n && nat_le n 4294967294)) ≡ true
high_test n is =
    let one : (n % 2 == 0) ≡ true = eq-eqb (n % 2) 0 is.even in
    let two : nat_le 2 n ≡ true = le-leb 2 n is.low in
    let three : nat_le n 4294967294 ≡ true = le-leb n 4294967294 is.high in
    λ i. one i && (two i && three i)

pub high_back : (n : ℕ) → IsHigh n → are_high_flags n ≡ Some n
high_back n is = ap (λ b. cond b (Some n) None) (high_test n is)

high_by : (n m : ℕ) (a b c : Bool) → (n % 2 == 0) ≡ a → nat_le 2 n ≡ b → nat_le n 4294967294 ≡ c → cond (a && (b && c)) (Some n) None ≡ Some m → (n ≡ m) × IsHigh n
high_by n m true true true one two three e =
    let same : n ≡ m = cc in (same, record { even = eqb-true (n % 2) 0 one; low = leb-true 2 n two; high = leb-true n 4294967294 three })
high_by n m true true false one two three e = none_is_some m e
high_by n m true false c one two three e = none_is_some m e
high_by n m false b c one two three e = none_is_some m e

high_of : (n m : ℕ) → are_high_flags n ≡ Some m → (n ≡ m) × IsHigh n
high_of n m e = high_by n m (n % 2 == 0) (nat_le 2 n) (nat_le n 4294967294) refl refl refl e

pub record IsFlags (value : Option Value) (n : ℕ) : Type 0 where
  pub text : value ≡ Some (Text (decimal n))
  pub number : IsHigh n

flags_text : (t : List ℕ) (n : ℕ) (o : Option ℕ) → decimal_in t ≡ o → option_and_then are_high_flags o ≡ Some n → IsFlags (Some (Text t)) n
flags_text t n None is e = none_is_some n e
flags_text t n (Some m) is e =
    let found = high_of m n e in
    record {
      text = ap (λ text. Some (Text text)) (decimal_of t m is ∙ ap decimal found.0);
      number = subst IsHigh found.0 found.1;
    }

pub flags_are : (value : Option Value) (n : ℕ) → flags_in value ≡ Some n → IsFlags value n
flags_are None n e = none_is_some n e
flags_are (Some (Text t)) n e = flags_text t n (decimal_in t) refl e
flags_are (Some (Truth b)) n e = none_is_some n e
flags_are (Some (Number z)) n e = none_is_some n e
flags_are (Some (Eight d)) n e = none_is_some n e
flags_are (Some (Bytes b)) n e = none_is_some n e
flags_are (Some (List' shape members)) n e = none_is_some n e
flags_are (Some (Map' shape members)) n e = none_is_some n e
flags_are (Some Nothing) n e = none_is_some n e

pub flags_back : (n : ℕ) → IsHigh n → flags_in (Some (Text (decimal n))) ≡ Some n
flags_back n is =
    let top = is.high in
    ap (option_and_then are_high_flags) (decimal_back n (omega arith)) ∙ high_back n is

-- the number of flags but the first bit is even, and has 32 bits
record IsEven (n : ℕ) : Type 0 where
  even : n % 2 ≡ 0
  high : n ≤ 4294967294

even_by : (value : Option Value) (o : Option ℕ) → flags_in value ≡ o → IsEven (unwrap_or o 0)
even_by value None e = record { even = refl; high = omega arith }
even_by value (Some n) e = let is = (flags_are value n e).number in record { even = is.even; high = is.high }

even_in : (value : Option Value) → IsEven (unwrap_or (flags_in value) 0)
even_in value = even_by value (flags_in value) refl

-- ---- the flags that are written

pub bits_back : (f : ℕ) (value : Option Value) → flag_bits (cast_signed w32 (f % 2 + unwrap_or (flags_in value) 0)) ≡ f % 2 + unwrap_or (flags_in value) 0
bits_back f value =
    let is = even_in value in
    let high : unwrap_or (flags_in value) 0 ≤ 4294967294 = is.high in
    ap (λ n. n % 2 ^ 32) (of_z-to_z w32 (f % 2 + unwrap_or (flags_in value) 0) (omega arith)) ∙ within (f % 2 + unwrap_or (flags_in value) 0) (omega arith)
  where
    within : (n : ℕ) → n < 2 ^ 32 → n % 2 ^ 32 ≡ n
    within n lt = omega arith

low_of_sum : (f n : ℕ) → n % 2 ≡ 0 → (f % 2 + n) % 2 ≡ f % 2
low_of_sum f n even = omega arith

high_of_sum : (f n : ℕ) → n % 2 ≡ 0 → (f % 2 + n) - (f % 2 + n) % 2 ≡ n
high_of_sum f n even = omega arith

pub low_back : (f : ℕ) (value : Option Value) → flag_bits (cast_signed w32 (f % 2 + unwrap_or (flags_in value) 0)) % 2 ≡ f % 2
low_back f value = ap (λ n. n % 2) (bits_back f value) ∙ low_of_sum f (unwrap_or (flags_in value) 0) (even_in value).even

pub high_flags_back : (f : ℕ) (value : Option Value) → high_flags_of (cast_signed w32 (f % 2 + unwrap_or (flags_in value) 0)) ≡ high_flags (unwrap_or (flags_in value) 0)
high_flags_back f value =
    ap (λ n. high_flags (n - n % 2)) (bits_back f value) ∙ ap high_flags (high_of_sum f (unwrap_or (flags_in value) 0) (even_in value).even)

high_told : (n : ℕ) → IsHigh n → high_flags n ≡ Some (Text (decimal n))
high_told n is =
    let low = is.low in
    let apart : (n == 0) ≡ false = eqb_apart n (n == 0) refl low in
    ap (λ b. cond b None (Some (Text (decimal n)))) apart
  where
    eqb_apart : (m : ℕ) (b : Bool) → (m == 0) ≡ b → 2 ≤ m → (m == 0) ≡ false
    eqb_apart m true e low = let none : m ≡ 0 = eqb-true m 0 e in absurd (omega arith)
    eqb_apart m false e low = e

own_by : (value : Option Value) (o : Option ℕ) → flags_in value ≡ o → (is_some value ≡ true → flags_in value ≡ None → ⊥) → high_flags (unwrap_or o 0) ≡ value
own_by None o e formed = ap (λ p. high_flags (unwrap_or p 0)) (sym e)
own_by (Some v) None e formed = absurd (formed refl e)
own_by (Some v) (Some n) e formed = let is = flags_are (Some v) n e in high_told n is.number ∙ sym is.text

-- what stands under the key of flags, if anything, is what is written of its number
pub own_back : (value : Option Value) → (is_some value ≡ true → flags_in value ≡ None → ⊥) → high_flags (unwrap_or (flags_in value) 0) ≡ value
own_back value formed = own_by value (flags_in value) refl formed

-- ---- the flags that are read

read_by : (n : ℕ) (b : Bool) → (n == 0) ≡ b → n % 2 ≡ 0 → n ≤ 4294967294 → is_some (cond b None (Some (Text (decimal n)))) ≡ true → flags_in (cond b None (Some (Text (decimal n)))) ≡ None → ⊥
read_by n true e even high there none = true≢false (sym there)
read_by n false e even high there none =
    let apart = eqb-false n 0 e in
    let low : 2 ≤ n = omega (arith, apart) in
    true≢false (ap is_some (sym (flags_back n (record { even = even; low = low; high = high })) ∙ none))

even_part : (n : ℕ) → (n - n % 2) % 2 ≡ 0
even_part n = omega arith

-- what is read under the key of flags has its form
pub read_formed : (flags : ℤ) → is_some (high_flags_of flags) ≡ true → flags_in (high_flags_of flags) ≡ None → ⊥
read_formed flags there none =
    let low : flag_bits flags < 2 ^ 32 = below (cast_unsigned w32 flags) in
    let high : flag_bits flags - flag_bits flags % 2 ≤ 4294967294 = omega arith in
    read_by (flag_bits flags - flag_bits flags % 2) (flag_bits flags - flag_bits flags % 2 == 0) refl (even_part (flag_bits flags)) high there none
  where
    below : (n : ℕ) → n % 2 ^ 32 < 2 ^ 32
    below n = omega arith
