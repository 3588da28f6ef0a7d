-- The strings of JSON in UTF-8 are UTF-8.
use Rattle.std.proofs.Common.{◌≡◌, ℕ, suc, ◌+◌, ◌*◌, ◌<◌, ◌≤◌, ◌==◌, Bool, true, false, cond, ◌&&◌, ◌||◌, nat_lt, nat_le, List, [], ◌∷◌, ◌++◌, length, drop, get_or, Option, Some, None, option_and_then, IsUtf8, is_some, refl, sym, ap, ◌∙◌, subst, true≢false, append_assoc, append-nil, leb-true, ltb-true, eqb-true, ⊎_elim, arith}
use Rattle.std.specs.Char.{digit_value, is_digit, encode_utf8, IsScalar}
use Rattle.std.proofs.lemmas.Bool.{and_parts, cases_lt, le-ltb, lt-ltb, le-leb}
use Rattle.std.proofs.lemmas.Str.{IsUtf8-append, IsUtf8-encode, IsUtf8-take, IsUtf8-drop, encode_ascii, IsCharBoundary-before_ascii, IsCharBoundary-after_ascii}
use Rattle.std.proofs.Math.Utf8.{low_scalar}
use Rattle.std.proofs.Math.Seq.{take-append_seam}
use Rattle.json.specs.Text.{code_unit, short_escape, is_high_surrogate, is_low_surrogate, surrogate_pair, plain, after_backslash, after_u, after_high, prepend, content}

-- ---- cut at an ASCII byte

middle : (q xs : List ℕ) (x : ℕ) → get_or (q ++ x ∷ xs) (length q) 0 ≡ x
middle [] xs x = refl
middle (y ∷ q) xs x = middle q xs x

within : (q xs : List ℕ) (x : ℕ) → length q < length (q ++ x ∷ xs)
within [] xs x = omega arith
within (y ∷ q) xs x = let rest = within q xs x in omega (arith, rest)

dropped : (q xs : List ℕ) (x : ℕ) → drop (length q + 1) (q ++ x ∷ xs) ≡ xs
dropped [] xs x = refl
dropped (y ∷ q) xs x = let e : length (y ∷ q) + 1 ≡ suc (length q + 1) = omega arith in ap (λ n. drop n (y ∷ (q ++ x ∷ xs))) e ∙ dropped q xs x

before : (q xs : List ℕ) (x : ℕ) → x < 128 → IsUtf8 (q ++ x ∷ xs) → IsUtf8 q
before q xs x small u =
    let l = q ++ x ∷ xs in
    let at = middle q xs x in
    subst IsUtf8 (take-append_seam q (x ∷ xs)) (IsUtf8-take l (length q) u (IsCharBoundary-before_ascii l (length q) (within q xs x) (omega (arith, at, small))))

pub behind : (q xs : List ℕ) (x : ℕ) → x < 128 → IsUtf8 (q ++ x ∷ xs) → IsUtf8 xs
behind q xs x small u =
    let l = q ++ x ∷ xs in
    let at = middle q xs x in
    subst IsUtf8 (dropped q xs x) (IsUtf8-drop l (length q + 1) u (IsCharBoundary-after_ascii l (length q) u (within q xs x) (omega (arith, at, small))))

tail : (x : ℕ) (xs : List ℕ) → x < 128 → IsUtf8 (x ∷ xs) → IsUtf8 xs
tail x xs small u = behind [] xs x small u

pub ascii_then : (x : ℕ) (xs : List ℕ) → x < 128 → IsUtf8 xs → IsUtf8 (x ∷ xs)
ascii_then x xs small u = IsUtf8-append (x ∷ []) xs (subst IsUtf8 (encode_ascii x small) (IsUtf8-encode x (low_scalar x (omega (arith, small))))) u

-- ---- escapes

abbrev BothLow : ℕ → ℕ → Type 0
BothLow x c = (x < 128) × (c < 128)

one_of : (x k v c : ℕ) (rest : Option ℕ) → k < 128 → v < 128 → (rest ≡ Some c → BothLow x c) → cond (x == k) (Some v) rest ≡ Some c → BothLow x c
one_of x k v c rest low_k low_v others e = by (x == k) refl e
  where
    by : (b : Bool) → (x == k) ≡ b → cond b (Some v) rest ≡ Some c → BothLow x c
    by true same e = let x_is : x ≡ k = eqb-true x k same in let c_is : v ≡ c = cc in (omega (arith, x_is, low_k), omega (arith, c_is, low_v))
    by false apart e = others e

itself_or : (x c : ℕ) (a b d : Bool) (rest : Option ℕ) → ((a || b || d) ≡ true → x < 128) → (rest ≡ Some c → BothLow x c) → cond (a || b || d) (Some x) rest ≡ Some c → BothLow x c
itself_or x c a b d rest low others e = by (a || b || d) refl e
  where
    by : (t : Bool) → (a || b || d) ≡ t → cond t (Some x) rest ≡ Some c → BothLow x c
    by true is e = let small = low is in let c_is : x ≡ c = cc in (small, omega (arith, c_is, small))
    by false is e = others e

three : (x : ℕ) (a b d : Bool) → (x == 34) ≡ a → (x == 92) ≡ b → (x == 47) ≡ d → (a || b || d) ≡ true → x < 128
three x true b d e f g is = let same = eqb-true x 34 e in omega (arith, same)
three x false true d e f g is = let same = eqb-true x 92 f in omega (arith, same)
three x false false true e f g is = let same = eqb-true x 47 g in omega (arith, same)
three x false false false e f g is = absurd (true≢false (sym is))

short_low : (x c : ℕ) → short_escape x ≡ Some c → BothLow x c
unfolding short_escape
short_low x c e = itself_or x c (x == 34) (x == 92) (x == 47) _ (three x (x == 34) (x == 92) (x == 47) refl refl refl)
    (one_of x 98 8 c _ (omega arith) (omega arith)
    (one_of x 102 12 c _ (omega arith) (omega arith)
    (one_of x 110 10 c _ (omega arith) (omega arith)
    (one_of x 114 13 c _ (omega arith) (omega arith)
    (one_of x 116 9 c None (omega arith) (omega arith) (λ none. absurd (true≢false (sym (ap is_some none)))))))))
    e

high_value : (c : ℕ) → 123 ≤ c → digit_value c ≡ 36
high_value c le = rw (le-ltb c 48 (omega (arith, le)), le-ltb c 58 (omega (arith, le)), le-ltb c 65 (omega (arith, le)), le-ltb c 91 (omega (arith, le)), le-ltb c 97 (omega (arith, le)), le-ltb c 123 le) refl

hex_low : (c : ℕ) → is_digit c 16 ≡ true → c < 128
hex_low c e = ⊎_elim (λ (lt : c < 123). omega (arith, lt)) (λ (le : 123 ≤ c). absurd (true≢false (sym e ∙ ap (λ v. nat_lt v 16) (high_value c le)))) (cases_lt c 123)

-- four hex digits
pub record IsUnit (a b c d u : ℕ) : Type 0 where
  pub low_a : a < 128
  pub low_b : b < 128
  pub low_c : c < 128
  pub low_d : d < 128
  pub bound : u < 65536

unit_by : (a b c d u : ℕ) (p q r s : Bool) → is_digit a 16 ≡ p → is_digit b 16 ≡ q → is_digit c 16 ≡ r → is_digit d 16 ≡ s
    → cond (p && q && r && s) (Some (digit_value a * 4096 + digit_value b * 256 + digit_value c * 16 + digit_value d)) None ≡ Some u → IsUnit a b c d u
unit_by a b c d u true true true true e f g h is =
    let va = ltb-true (digit_value a) 16 e in
    let vb = ltb-true (digit_value b) 16 f in
    let vc = ltb-true (digit_value c) 16 g in
    let vd = ltb-true (digit_value d) 16 h in
    let u_is : digit_value a * 4096 + digit_value b * 256 + digit_value c * 16 + digit_value d ≡ u = cc in
    record { low_a = hex_low a e; low_b = hex_low b f; low_c = hex_low c g; low_d = hex_low d h; bound = omega (arith, u_is, va, vb, vc, vd) }
unit_by a b c d u false q r s e f g h is = absurd (true≢false (sym (ap is_some is)))
unit_by a b c d u true false r s e f g h is = absurd (true≢false (sym (ap is_some is)))
unit_by a b c d u true true false s e f g h is = absurd (true≢false (sym (ap is_some is)))
unit_by a b c d u true true true false e f g h is = absurd (true≢false (sym (ap is_some is)))

unit_is : (a b c d u : ℕ) → code_unit a b c d ≡ Some u → IsUnit a b c d u
unfolding code_unit
unit_is a b c d u e = unit_by a b c d u (is_digit a 16) (is_digit b 16) (is_digit c 16) (is_digit d 16) refl refl refl refl e

scalar_by : (u : ℕ) (p q r s : Bool) → nat_le 55296 u ≡ p → nat_lt u 56320 ≡ q → nat_le 56320 u ≡ r → nat_lt u 57344 ≡ s → u < 65536
    → (p && q) ≡ false → (r && s) ≡ false → IsScalar u
scalar_by u p q r s e f g h bound high low = ⊎_elim
    (λ (lt : u < 55296). low_scalar u lt)
    (λ (le : 55296 ≤ u). ⊎_elim
    (λ (lt : u < 56320). absurd (true≢false (sym (ap (λ b. b && q) (sym e ∙ le-leb 55296 u le) ∙ (sym f ∙ lt-ltb u 56320 lt)) ∙ high)))
    (λ (ge : 56320 ≤ u). ⊎_elim
    (λ (lt : u < 57344). absurd (true≢false (sym (ap (λ b. b && s) (sym g ∙ le-leb 56320 u ge) ∙ (sym h ∙ lt-ltb u 57344 lt)) ∙ low)))
    (λ (top : 57344 ≤ u). high_scalar u top (omega (arith, bound)))
    (cases_lt u 57344))
    (cases_lt u 56320))
    (cases_lt u 55296)
  where
    high_scalar : (u : ℕ) → 57344 ≤ u → u < 1114112 → IsScalar u
    high_scalar u top lt = rw (le-ltb u 55296 (omega (arith, top)), le-leb 57344 u top, lt-ltb u 1114112 lt) refl

pair_scalar : (h l : ℕ) → is_high_surrogate h ≡ true → is_low_surrogate l ≡ true → IsScalar (surrogate_pair h l)
pair_scalar h l high low =
    let hp = and_parts (nat_le 55296 h) (nat_lt h 56320) high in
    let lp = and_parts (nat_le 56320 l) (nat_lt l 57344) low in
    let ha = leb-true 55296 h hp.0 in
    let hb = ltb-true h 56320 hp.1 in
    let la = leb-true 56320 l lp.0 in
    let lb = ltb-true l 57344 lp.1 in
    let above : 57344 ≤ surrogate_pair h l = omega (arith, ha, hb, la, lb) in
    rw (le-ltb (surrogate_pair h l) 55296 (omega (arith, above)), le-leb 57344 (surrogate_pair h l) above, lt-ltb (surrogate_pair h l) 1114112 (omega (arith, ha, hb, la, lb))) refl

-- ---- content

abbrev Gives : Option (List ℕ) → (List ℕ → Type 0) → Type 0
Gives o P = (s : List ℕ) → o ≡ Some s → P s

prepended : (bytes : List ℕ) (o : Option (List ℕ)) (P : List ℕ → Type 0) → Gives o (λ s. P (bytes ++ s)) → Gives (prepend bytes o) P
prepended bytes None P each s e = absurd (true≢false (sym (ap is_some e)))
prepended bytes (Some t) P each s e = let is : bytes ++ t ≡ s = cc in subst P is (each t refl)

nothing : (P : List ℕ → Type 0) → Gives None P
nothing P s e = absurd (true≢false (sym (ap is_some e)))

-- a byte within a string
plain_byte : (q : List ℕ) (x : ℕ) (xs : List ℕ) (a b c : Bool) → (x == 34) ≡ a → (x == 92) ≡ b → IsUtf8 (q ++ x ∷ xs)
    → (IsUtf8 xs → Gives (content after_backslash xs) IsUtf8) → (IsUtf8 ((q ++ x ∷ []) ++ xs) → Gives (content plain xs) (λ s. IsUtf8 ((q ++ x ∷ []) ++ s)))
    → Gives (cond a (Some []) (cond b (content after_backslash xs) (cond c None (prepend (x ∷ []) (content plain xs))))) (λ s. IsUtf8 (q ++ s))
plain_byte q x xs true b c e f u back on s is =
    let same = eqb-true x 34 e in
    let empty : [] ≡ s = cc in
    subst (λ (t : List ℕ). IsUtf8 (q ++ t)) empty (subst IsUtf8 (sym (append-nil q)) (before q xs x (omega (arith, same)) u))
plain_byte q x xs false true c e f u back on s is =
    let same = eqb-true x 92 f in
    let small : x < 128 = omega (arith, same) in
    IsUtf8-append q s (before q xs x small u) (back (behind q xs x small u) s is)
plain_byte q x xs false false true e f u back on s is = absurd (true≢false (sym (ap is_some is)))
plain_byte q x xs false false false e f u back on s is =
    prepended (x ∷ []) (content plain xs) (λ t. IsUtf8 (q ++ t))
    (λ t found. subst IsUtf8 (append_assoc q (x ∷ []) t) (on (subst IsUtf8 (sym (append_assoc q (x ∷ []) xs)) u) t found)) s is

short_byte : (x : ℕ) (xs : List ℕ) (o : Option ℕ) → short_escape x ≡ o → IsUtf8 (x ∷ xs) → (IsUtf8 xs → Gives (content plain xs) IsUtf8)
    → Gives (option_and_then (λ c. prepend (c ∷ []) (content plain xs)) o) IsUtf8
short_byte x xs None e u on s is = absurd (true≢false (sym (ap is_some is)))
short_byte x xs (Some c) e u on s is =
    let low = short_low x c e in
    prepended (c ∷ []) (content plain xs) IsUtf8 (λ t found. ascii_then c t low.1 (on (tail x xs low.0 u) t found)) s is

back_byte : (x : ℕ) (xs : List ℕ) (b : Bool) → (x == 117) ≡ b → IsUtf8 (x ∷ xs) → (IsUtf8 xs → Gives (content after_u xs) IsUtf8) → (IsUtf8 xs → Gives (content plain xs) IsUtf8)
    → Gives (cond b (content after_u xs) (option_and_then (λ c. prepend (c ∷ []) (content plain xs)) (short_escape x))) IsUtf8
back_byte x xs true e u unit on = let same = eqb-true x 117 e in unit (tail x xs (omega (arith, same)) u)
back_byte x xs false e u unit on = short_byte x xs (short_escape x) refl u on

past_unit : (a b c d u : ℕ) (xs : List ℕ) → IsUnit a b c d u → IsUtf8 (a ∷ b ∷ c ∷ d ∷ xs) → IsUtf8 xs
past_unit a b c d u xs is utf8 = tail d xs is.low_d (tail c (d ∷ xs) is.low_c (tail b (c ∷ d ∷ xs) is.low_b (tail a (b ∷ c ∷ d ∷ xs) is.low_a utf8)))

spelled : (u : ℕ) (xs : List ℕ) → IsScalar u → Gives (content plain xs) IsUtf8 → Gives (prepend (encode_utf8 u) (content plain xs)) IsUtf8
spelled u xs scalar on = prepended (encode_utf8 u) (content plain xs) IsUtf8 (λ t found. IsUtf8-append (encode_utf8 u) t (IsUtf8-encode u scalar) (on t found))

unit_half : (u : ℕ) (xs : List ℕ) (l : Bool) → is_high_surrogate u ≡ false → is_low_surrogate u ≡ l → u < 65536 → Gives (content plain xs) IsUtf8
    → Gives (cond l None (prepend (encode_utf8 u) (content plain xs))) IsUtf8
unit_half u xs true e f bound on = nothing IsUtf8
unit_half u xs false e f bound on =
    spelled u xs (scalar_by u (nat_le 55296 u) (nat_lt u 56320) (nat_le 56320 u) (nat_lt u 57344) refl refl refl refl bound e f) on

unit_byte : (a b c d : ℕ) (xs : List ℕ) (o : Option ℕ) → code_unit a b c d ≡ o → IsUtf8 (a ∷ b ∷ c ∷ d ∷ xs)
    → ((h : ℕ) → is_high_surrogate h ≡ true → IsUtf8 xs → Gives (content (after_high h) xs) IsUtf8) → (IsUtf8 xs → Gives (content plain xs) IsUtf8)
    → Gives (option_and_then (λ u. cond (is_high_surrogate u) (content (after_high u) xs) (cond (is_low_surrogate u) None (prepend (encode_utf8 u) (content plain xs)))) o) IsUtf8
unit_byte a b c d xs None e utf8 high on = nothing IsUtf8
unit_byte a b c d xs (Some u) e utf8 high on = by (is_high_surrogate u) refl
  where
    unit : IsUnit a b c d u
    unit = unit_is a b c d u e

    rest : IsUtf8 xs
    rest = past_unit a b c d u xs unit utf8

    by : (h : Bool) → is_high_surrogate u ≡ h → Gives (cond h (content (after_high u) xs) (cond (is_low_surrogate u) None (prepend (encode_utf8 u) (content plain xs)))) IsUtf8
    by true is = high u is rest
    by false is = unit_half u xs (is_low_surrogate u) is refl unit.bound (on rest)

low_half : (h l : ℕ) (xs : List ℕ) (b : Bool) → is_high_surrogate h ≡ true → is_low_surrogate l ≡ b → Gives (content plain xs) IsUtf8
    → Gives (cond b (prepend (encode_utf8 (surrogate_pair h l)) (content plain xs)) None) IsUtf8
low_half h l xs true high low on = spelled (surrogate_pair h l) xs (pair_scalar h l high low) on
low_half h l xs false high low on = nothing IsUtf8

pair_byte : (h a b c d : ℕ) (xs : List ℕ) (o : Option ℕ) → code_unit a b c d ≡ o → is_high_surrogate h ≡ true → IsUtf8 (a ∷ b ∷ c ∷ d ∷ xs) → (IsUtf8 xs → Gives (content plain xs) IsUtf8)
    → Gives (option_and_then (λ l. cond (is_low_surrogate l) (prepend (encode_utf8 (surrogate_pair h l)) (content plain xs)) None) o) IsUtf8
pair_byte h a b c d xs None e high utf8 on = nothing IsUtf8
pair_byte h a b c d xs (Some l) e high utf8 on = low_half h l xs (is_low_surrogate l) high refl (on (past_unit a b c d l xs (unit_is a b c d l e) utf8))

pair_start : (h s u a b c d : ℕ) (xs : List ℕ) (p q : Bool) → (s == 92) ≡ p → (u == 117) ≡ q → is_high_surrogate h ≡ true → IsUtf8 (s ∷ u ∷ a ∷ b ∷ c ∷ d ∷ xs) → (IsUtf8 xs → Gives (content plain xs) IsUtf8)
    → Gives (cond (p && q) (option_and_then (λ l. cond (is_low_surrogate l) (prepend (encode_utf8 (surrogate_pair h l)) (content plain xs)) None) (code_unit a b c d)) None) IsUtf8
pair_start h s u a b c d xs true true e f high utf8 on =
    let s_is = eqb-true s 92 e in
    let u_is = eqb-true u 117 f in
    pair_byte h a b c d xs (code_unit a b c d) refl high
    (tail u (a ∷ b ∷ c ∷ d ∷ xs) (omega (arith, u_is)) (tail s (u ∷ a ∷ b ∷ c ∷ d ∷ xs) (omega (arith, s_is)) utf8)) on
pair_start h s u a b c d xs true false e f high utf8 on = nothing IsUtf8
pair_start h s u a b c d xs false q e f high utf8 on = nothing IsUtf8

mutual
  unfolding content

  plain_utf8 : (q xs : List ℕ) → IsUtf8 (q ++ xs) → Gives (content plain xs) (λ s. IsUtf8 (q ++ s))
  plain_utf8 q [] utf8 = nothing (λ s. IsUtf8 (q ++ s))
  plain_utf8 q (x ∷ xs) utf8 = plain_byte q x xs (x == 34) (x == 92) (nat_lt x 32) refl refl utf8 (back_utf8 xs) (plain_utf8 (q ++ x ∷ []) xs)

  back_utf8 : (xs : List ℕ) → IsUtf8 xs → Gives (content after_backslash xs) IsUtf8
  back_utf8 [] utf8 = nothing IsUtf8
  back_utf8 (x ∷ xs) utf8 = back_byte x xs (x == 117) refl utf8 (unit_utf8 xs) (plain_utf8 [] xs)

  unit_utf8 : (xs : List ℕ) → IsUtf8 xs → Gives (content after_u xs) IsUtf8
  unit_utf8 [] utf8 = nothing IsUtf8
  unit_utf8 (a ∷ []) utf8 = nothing IsUtf8
  unit_utf8 (a ∷ b ∷ []) utf8 = nothing IsUtf8
  unit_utf8 (a ∷ b ∷ c ∷ []) utf8 = nothing IsUtf8
  unit_utf8 (a ∷ b ∷ c ∷ d ∷ xs) utf8 = unit_byte a b c d xs (code_unit a b c d) refl utf8 (λ h high rest. high_utf8 h high xs rest) (plain_utf8 [] xs)

  high_utf8 : (h : ℕ) → is_high_surrogate h ≡ true → (xs : List ℕ) → IsUtf8 xs → Gives (content (after_high h) xs) IsUtf8
  high_utf8 h high [] utf8 = nothing IsUtf8
  high_utf8 h high (s ∷ []) utf8 = nothing IsUtf8
  high_utf8 h high (s ∷ u ∷ []) utf8 = nothing IsUtf8
  high_utf8 h high (s ∷ u ∷ a ∷ []) utf8 = nothing IsUtf8
  high_utf8 h high (s ∷ u ∷ a ∷ b ∷ []) utf8 = nothing IsUtf8
  high_utf8 h high (s ∷ u ∷ a ∷ b ∷ c ∷ []) utf8 = nothing IsUtf8
  high_utf8 h high (s ∷ u ∷ a ∷ b ∷ c ∷ d ∷ xs) utf8 = pair_start h s u a b c d xs (s == 92) (u == 117) refl refl high utf8 (plain_utf8 [] xs)

-- the content of a string in a text of UTF-8 is UTF-8
pub content_utf8 : (xs : List ℕ) → IsUtf8 xs → (s : List ℕ) → content plain xs ≡ Some s → IsUtf8 s
content_utf8 xs utf8 = plain_utf8 [] xs utf8
