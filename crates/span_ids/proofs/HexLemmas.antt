-- Hexadecimal digits, most significant first: what they make, and that a number has one text of all digits in lower case.
use Rattle.std.proofs.Common.{◌≡◌, Bool, false, ◌==◌, ℕ, zero, suc, ◌+◌, ◌-◌, ◌*◌, ◌/◌, ◌%◌, ◌^◌, ◌<◌, ◌≤◌, inl, inr, List, [], ◌∷◌, length, slice_index, refl, sym, ap, ◌∙◌, arith}
use Rattle.std.proofs.Math.Nat as nat
use Rattle.std.specs.Prelude.{◌++◌, ◌⊎◌, All, IsUtf8, IsOk, MatchResult, Result, Ok, Err}
use Rattle.std.specs.Char.{IsAsciiHexdigit, digit_value}
use Rattle.std.specs.Int.{w64, w128, sum_through, byte_at, byte_worth, bytes_high_first, to_be_bytes}
use Rattle.std.specs.Int.Digits.{number_from_digits_after}
use Rattle.std.specs.Str.Parse.{AllDigits, digits_value, digits_value_after, without_leading_plus, ParsesUnsigned}
use Rattle.std.proofs.lemmas.Bool.Decides.{eqb_tells}
use Rattle.std.proofs.lemmas.Int.Digits.{digits_value-lt}
use Rattle.std.proofs.lemmas.List.Elements.{All-cons, All-head, All-nil, All-tail}
use Rattle.std.proofs.lemmas.Str.{IsUtf8-from_ascii}
use Rattle.std.proofs.lemmas.Str.Ascii.{IsAscii-from_all}
use Rattle.hex.specs.Hex.{encode_lower, encode_with, lower_digits}
use Rattle.span_ids.specs.HexTexts.{IsLowerDigit, SpellsInHex}
use Rattle.span_ids.specs.declared.hex_text.IdRule.{IdRule}
use Rattle.span_ids.specs.declared.hex_text.IdRule.TheVariants as rules
use Rattle.span_ids.proofs.BigEndian.{all_bytes}

-- ---- what the digits of a text make

digit_below : (c : ℕ) → IsAsciiHexdigit c → digit_value c < 16
digit_below c h = grind (arith)

pub all_digits : (text : List ℕ) → All IsAsciiHexdigit text → AllDigits 16 text
all_digits [] h = tt
all_digits (c ∷ text) h = (digit_below c (All-head IsAsciiHexdigit c text h), all_digits text (All-tail IsAsciiHexdigit c text h))

ascii : (text : List ℕ) → All IsAsciiHexdigit text → All (λ b. b < 128) text
ascii [] h = All-nil (λ b. b < 128)
ascii (c ∷ text) h =
    let first = All-head IsAsciiHexdigit c text h in
    let low : c < 128 = grind (arith) in
    All-cons (λ b. b < 128) c text low (ascii text (All-tail IsAsciiHexdigit c text h))

pub hex_is_utf8 : (text : List ℕ) → All IsAsciiHexdigit text → IsUtf8 text
hex_is_utf8 text h = IsUtf8-from_ascii text (IsAscii-from_all text (ascii text h))

pub no_plus : (text : List ℕ) → 1 ≤ length text → All IsAsciiHexdigit text → without_leading_plus text ≡ text
no_plus [] some h = absurd (omega arith)
no_plus (c ∷ text) some h =
    let first = All-head IsAsciiHexdigit c text h in
    grind (arith)

pub number_below : (text : List ℕ) (k : ℕ) → All IsAsciiHexdigit text → length text ≤ k → digits_value 16 text < 16 ^ k
number_below text k h fits =
    let below = digits_value-lt 16 text (all_digits text h) in
    let wider = nat.pow-le-pow_right {n = 16} (omega arith) {i = length text} {j = k} fits in
    omega arith

-- ---- what is written

-- the digit of a value, and the value of that digit
record IsDigitOf (v c : ℕ) : Type 0 where
  lower : IsLowerDigit c
  value : digit_value c ≡ v

digit_of : (v : ℕ) → v < 16 → IsDigitOf v (slice_index lower_digits v)
digit_of zero h = record { lower = inl (omega arith, omega arith); value = refl }
digit_of (suc zero) h = record { lower = inl (omega arith, omega arith); value = refl }
digit_of (suc (suc zero)) h = record { lower = inl (omega arith, omega arith); value = refl }
digit_of (suc (suc (suc zero))) h = record { lower = inl (omega arith, omega arith); value = refl }
digit_of (suc (suc (suc (suc zero)))) h = record { lower = inl (omega arith, omega arith); value = refl }
digit_of (suc (suc (suc (suc (suc zero))))) h = record { lower = inl (omega arith, omega arith); value = refl }
digit_of (suc (suc (suc (suc (suc (suc zero)))))) h = record { lower = inl (omega arith, omega arith); value = refl }
digit_of (suc (suc (suc (suc (suc (suc (suc zero))))))) h = record { lower = inl (omega arith, omega arith); value = refl }
digit_of (suc (suc (suc (suc (suc (suc (suc (suc zero)))))))) h = record { lower = inl (omega arith, omega arith); value = refl }
digit_of (suc (suc (suc (suc (suc (suc (suc (suc (suc zero))))))))) h = record { lower = inl (omega arith, omega arith); value = refl }
digit_of (suc (suc (suc (suc (suc (suc (suc (suc (suc (suc zero)))))))))) h = record { lower = inr (omega arith, omega arith); value = refl }
digit_of (suc (suc (suc (suc (suc (suc (suc (suc (suc (suc (suc zero))))))))))) h = record { lower = inr (omega arith, omega arith); value = refl }
digit_of (suc (suc (suc (suc (suc (suc (suc (suc (suc (suc (suc (suc zero)))))))))))) h = record { lower = inr (omega arith, omega arith); value = refl }
digit_of (suc (suc (suc (suc (suc (suc (suc (suc (suc (suc (suc (suc (suc zero))))))))))))) h = record { lower = inr (omega arith, omega arith); value = refl }
digit_of (suc (suc (suc (suc (suc (suc (suc (suc (suc (suc (suc (suc (suc (suc zero)))))))))))))) h = record { lower = inr (omega arith, omega arith); value = refl }
digit_of (suc (suc (suc (suc (suc (suc (suc (suc (suc (suc (suc (suc (suc (suc (suc zero))))))))))))))) h = record { lower = inr (omega arith, omega arith); value = refl }
digit_of (suc (suc (suc (suc (suc (suc (suc (suc (suc (suc (suc (suc (suc (suc (suc (suc v)))))))))))))))) h = absurd (omega arith)

lower_is_hex : (c : ℕ) → IsLowerDigit c → IsAsciiHexdigit c
lower_is_hex c (inl h) = inl (inl h)
lower_is_hex c (inr h) = inr h

all_lower_hex : (text : List ℕ) → All IsLowerDigit text → All IsAsciiHexdigit text
all_lower_hex [] h = All-nil IsAsciiHexdigit
all_lower_hex (c ∷ text) h = All-cons IsAsciiHexdigit c text (lower_is_hex c (All-head IsLowerDigit c text h)) (all_lower_hex text (All-tail IsLowerDigit c text h))

-- the text of bytes is of lower case, two digits a byte, and makes the number that the bytes make
record Written (n : ℕ) (bytes text : List ℕ) : Type 0 where
  lower : All IsLowerDigit text
  long : length text ≡ 2 * length bytes
  value : digits_value_after 16 n text ≡ number_from_digits_after 256 n bytes

two_places : (n b h l : ℕ) → h ≡ b / 16 → l ≡ b % 16 → (n * 16 + h) * 16 + l ≡ n * 256 + b
two_places n b h l e f = omega arith

two_digits : (n b high low : ℕ) (text : List ℕ) → digit_value high ≡ b / 16 → digit_value low ≡ b % 16
    → digits_value_after 16 n (high ∷ low ∷ text) ≡ digits_value_after 16 (n * 256 + b) text
two_digits n b high low text e f = ap (λ m. digits_value_after 16 m text) (two_places n b (digit_value high) (digit_value low) e f)

written : (n : ℕ) (bytes : List ℕ) → All (λ b. b < 256) bytes → Written n bytes (encode_lower bytes)
unfolding encode_with
written n [] h = record { lower = All-nil IsLowerDigit; long = refl; value = refl }
written n (b ∷ bytes) h =
    let small : b < 256 = All-head (λ b. b < 256) b bytes h in
    let high = digit_of (b / 16) (omega arith) in
    let low = digit_of (b % 16) (omega arith) in
    let more = written (n * 256 + b) bytes (All-tail (λ b. b < 256) b bytes h) in
    record {
      lower = All-cons IsLowerDigit (slice_index lower_digits (b / 16)) (slice_index lower_digits (b % 16) ∷ encode_lower bytes) high.lower
          (All-cons IsLowerDigit (slice_index lower_digits (b % 16)) (encode_lower bytes) low.lower more.lower);
      long = omega (arith, more.long);
      value = two_digits n b (slice_index lower_digits (b / 16)) (slice_index lower_digits (b % 16)) (encode_lower bytes) high.value low.value ∙ more.value;
    }

-- the bytes of a number make it
bytes_after : (a n k : ℕ) → number_from_digits_after 256 a (bytes_high_first (suc k) n) ≡ a * 256 ^ suc k + sum_through (λ i. byte_worth i (byte_at i n)) k
bytes_after a n zero = omega (arith, nat.pow-suc 256 0)
bytes_after a n (suc k) =
    let more = bytes_after (a * 256 + byte_at (suc k) n) n k in
    let power = nat.pow-suc 256 (suc k) in
    grind (arith, more, power, nat.add-mul (a * 256) (byte_at (suc k) n) (256 ^ suc k), nat.mul_assoc a 256 (256 ^ suc k), nat.mul_comm 256 (256 ^ suc k))

bytes_make : (n k : ℕ) → n < 256 ^ suc k → number_from_digits_after 256 0 (bytes_high_first (suc k) n) ≡ n
bytes_make n k fits = omega (arith, bytes_after 0 n k, nat.zero-mul (256 ^ suc k), all_bytes n k fits)

bytes_small : (k n : ℕ) → All (λ b. b < 256) (bytes_high_first k n)
bytes_small zero n = All-nil (λ b. b < 256)
bytes_small (suc zero) n = All-cons (λ b. b < 256) (byte_at 0 n) [] (nat.mod-lt n (omega arith)) (bytes_small zero n)
bytes_small (suc (suc k)) n =
    All-cons (λ b. b < 256) (byte_at (suc k) n) (bytes_high_first (suc k) n) (nat.mod-lt (n / 256 ^ suc k) (omega arith)) (bytes_small (suc k) n)

spelled_by : (full id : ℕ) (text : List ℕ) → 1 ≤ full → length text ≡ full → All IsLowerDigit text → digits_value 16 text ≡ id → 0 < id → (rule : IdRule) → SpellsInHex rule full text id
spelled_by full id text some long lower value above = by
  where
    is_above : 0 < digits_value 16 text
    is_above = rw value above

    digits : All IsAsciiHexdigit text
    digits = all_lower_hex text lower

    by : (rule : IdRule) → SpellsInHex rule full text id
    by rules.Exact = (((long, digits), is_above), sym value)
    by rules.ExactLower = (((long, lower), is_above), sym value)
    by rules.Half = (((inr long, digits), is_above), sym value)
    by rules.Padded = (((omega arith, omega arith, digits), is_above), sym value)

pub trace_text : (id : ℕ) → 0 < id → id < 2 ^ 128 → (rule : IdRule) → SpellsInHex rule 32 (encode_lower (to_be_bytes w128 id)) id
trace_text id above fits =
    let w = written 0 (to_be_bytes w128 id) (bytes_small 16 id) in
    let sum : digits_value 16 (encode_lower (to_be_bytes w128 id)) ≡ id = w.value ∙ bytes_make id 15 fits in
    spelled_by 32 id (encode_lower (to_be_bytes w128 id)) (omega arith) w.long w.lower sum above

pub span_text : (id : ℕ) → 0 < id → id < 2 ^ 64 → (rule : IdRule) → SpellsInHex rule 16 (encode_lower (to_be_bytes w64 id)) id
span_text id above fits =
    let w = written 0 (to_be_bytes w64 id) (bytes_small 8 id) in
    let sum : digits_value 16 (encode_lower (to_be_bytes w64 id)) ≡ id = w.value ∙ bytes_make id 7 fits in
    spelled_by 16 id (encode_lower (to_be_bytes w64 id)) (omega arith) w.long w.lower sum above

-- ---- one text

decimal_value : (c : ℕ) → 48 ≤ c → c ≤ 57 → digit_value c + 48 ≡ c
decimal_value c h g = grind (arith)

letter_value : (c : ℕ) → 97 ≤ c → c ≤ 102 → digit_value c + 87 ≡ c
letter_value c h g = grind (arith)

same_digit : (b c : ℕ) → IsLowerDigit b → IsLowerDigit c → digit_value b ≡ digit_value c → b ≡ c
same_digit b c (inl h) (inl g) e = omega (arith, decimal_value b h.0 h.1, decimal_value c g.0 g.1, e)
same_digit b c (inl h) (inr g) e = omega (arith, decimal_value b h.0 h.1, letter_value c g.0 g.1, e)
same_digit b c (inr h) (inl g) e = omega (arith, letter_value b h.0 h.1, decimal_value c g.0 g.1, e)
same_digit b c (inr h) (inr g) e = omega (arith, letter_value b h.0 h.1, letter_value c g.0 g.1, e)

same_text : (m n : ℕ) (xs ys : List ℕ) → All IsLowerDigit xs → All IsLowerDigit ys → length xs ≡ length ys
    → digits_value_after 16 m xs ≡ digits_value_after 16 n ys → (m ≡ n) × (xs ≡ ys)
same_text m n [] [] h g long e = (e, refl)
same_text m n [] (y ∷ ys) h g long e = absurd (omega arith)
same_text m n (x ∷ xs) [] h g long e = absurd (omega arith)
same_text m n (x ∷ xs) (y ∷ ys) h g long e =
    let more = same_text (m * 16 + digit_value x) (n * 16 + digit_value y) xs ys (All-tail IsLowerDigit x xs h) (All-tail IsLowerDigit y ys g) (omega arith) e in
    let first = All-head IsLowerDigit x xs h in
    let other = All-head IsLowerDigit y ys g in
    let low = digit_below x (lower_is_hex x first) in
    let lower = digit_below y (lower_is_hex y other) in
    let digits : digit_value x ≡ digit_value y = omega (arith, more.0, low, lower) in
    let before : m ≡ n = omega (arith, more.0, low, lower) in
    (before, ap (λ c. c ∷ xs) (same_digit x y first other digits) ∙ ap (λ l. y ∷ l) more.1)

pub one_text : (full id : ℕ) (text other : List ℕ) → SpellsInHex rules.ExactLower full text id → SpellsInHex rules.ExactLower full other id → text ≡ other
one_text full id text other h g = (same_text 0 0 text other h.0.0.1 g.0.0.1 (h.0.0.0 ∙ sym g.0.0.0) (sym h.1 ∙ g.1)).1

-- ---- reading a number

pub text_ok : {A E : Type 0} (P : A → Type 0) (Q : E → Type 0) (text : List ℕ) (r : Result A E) → All IsAsciiHexdigit text
    → MatchResult r (λ s. P s × IsUtf8 text) (λ e. ¬ (IsUtf8 text) × Q e) → IsOk r
text_ok P Q text (Ok s) h m = refl
text_ok P Q text (Err e) h m = absurd (m.0 (hex_is_utf8 text h))

pub number_ok : {E : Type 0} (text : List ℕ) (r : Result ℕ E) → All IsAsciiHexdigit text → 1 ≤ length text → length text ≤ 16
    → ParsesUnsigned 64 16 text r → IsOk r
number_ok text (Ok n) h some fits p = refl
number_ok text (Err e) h some fits p =
    let plain = no_plus text some h in
    absurd (p (rw plain ((some, all_digits text h), number_below text 16 h fits)))

pub some_there : (text : List ℕ) (empty : Bool) → empty ≡ (length text == 0) → empty ≡ false → 1 ≤ length text
some_there text empty is so =
    let k = sym is ∙ so in
    elim (eqb_tells (length text) 0) [ inl h ↦ (let other = h.0 in cc) | inr h ↦ (let other = h.1 in omega arith) ]

pub number_is : (text : List ℕ) (n : ℕ) → All IsAsciiHexdigit text → 1 ≤ length text → n ≡ digits_value 16 (without_leading_plus text)
    → n ≡ digits_value 16 text
number_is text n h some is = is ∙ ap (digits_value 16) (no_plus text some h)

-- ---- a number by halves

value_behind : (n : ℕ) (low : List ℕ) → digits_value_after 16 n low ≡ n * 16 ^ length low + digits_value_after 16 0 low
value_behind n [] = omega arith
value_behind n (c ∷ low) =
    let first = value_behind (n * 16 + digit_value c) low in
    let alone = value_behind (0 * 16 + digit_value c) low in
    let power = nat.pow-suc 16 (length low) in
    grind (arith, first, alone, power, nat.add-mul (n * 16) (digit_value c) (16 ^ length low), nat.mul_assoc n 16 (16 ^ length low), nat.mul_comm 16 (16 ^ length low))

value_joined : (n : ℕ) (high low : List ℕ) → digits_value_after 16 n (high ++ low) ≡ digits_value_after 16 (digits_value_after 16 n high) low
value_joined n [] low = refl
value_joined n (c ∷ high) low = value_joined (n * 16 + digit_value c) high low

-- where there are digits in front, 16 stand behind them
pub cut_in_halves : (high low : List ℕ) (long front : ℕ) → length high ≡ front → length low + front ≡ long → front ≡ long - 16
    → (high ≡ []) ⊎ (length low ≡ 16)
cut_in_halves [] low long front e f g = inl refl
cut_in_halves (c ∷ high) low long front e f g = inr (omega (arith, e, f, g))

pub halves_make : (text high low : List ℕ) → text ≡ high ++ low → (high ≡ []) ⊎ (length low ≡ 16)
    → digits_value 16 high * 2 ^ 64 + digits_value 16 low ≡ digits_value 16 text
halves_make text high low is (inl none) = rw (is, none) (omega arith)
halves_make text high low is (inr full) =
    let joined = value_joined 0 high low in
    let behind = value_behind (digits_value 16 high) low in
    let power : 16 ^ length low ≡ 2 ^ 64 = rw full refl in
    rw is (grind (arith, joined, behind, power))
