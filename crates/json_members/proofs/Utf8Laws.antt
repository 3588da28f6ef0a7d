-- The texts in the tokens of UTF-8 are UTF-8.
use Rattle.std.proofs.Common.{◌≡◌, ℕ, ◌+◌, ◌-◌, ◌*◌, ◌<◌, List, [], ◌∷◌, ◌++◌, length, take, drop, get_or, Bool, true, false, cond, ◌&&◌, ◌==◌, nat_lt, Option, Some, None, option_and_then, IsUtf8, refl, sym, subst, arith, append_assoc, append-nil, length-append, ltb-true}
use Rattle.std.proofs.Math.Seq.{take-append_seam, get_or-append_seam, drop-append-add}
use Rattle.std.proofs.lemmas.Bool.{and_parts, eqb-true}
use Rattle.std.proofs.lemmas.Str.{IsUtf8-append, IsUtf8-nil, IsUtf8-encode, encode_ascii, IsUtf8-take, IsUtf8-drop, IsCharBoundary-before_ascii, IsCharBoundary-after_ascii}
use Rattle.std.specs.Char.{digit_value, is_digit, encode_utf8, IsScalar}
use Rattle.std.specs.List.{AllByRecursion, starts_with}
use Rattle.std.specs.Prelude.{nat_eq}
use Rattle.json.specs.Text.{content, plain, after_backslash, after_u, after_high, prepend, code_unit, short_escape, is_high_surrogate, is_low_surrogate, surrogate_pair}
use Rattle.json.specs.Lex.{Lexeme, token, comma, colon, Mode, between, in_word, in_string, in_escape, Class, quote, backslash, operator, space, other, class, lex, lex_byte, string_token, operator_lexeme, tokens, Place, fresh, after_value, after_comma, after_key, may_begin, may_close, if_allowed, begins_colon, place_token, punctuate}
use Rattle.json.specs.Token.{Token, begin_object, end_object, begin_array, end_array, key, string, number, boolean, null, bad}
use Rattle.json.specs.Word.{head, ends_word, after_number, word, literal, number_before, is_operator, is_space}
use Rattle.json.specs.Ascii as ascii

-- ---- an ASCII byte stands between characters

module _ (front : List ℕ) (x : ℕ) (rest : List ℕ) (low : x < 128) (h : IsUtf8 (front ++ x ∷ rest)) where
  ascii_here : get_or (front ++ x ∷ rest) (length front) 0 < 128
  ascii_here = let e = get_or-append_seam front x rest 0 in omega (arith, e, low)

  within : length front < length (front ++ x ∷ rest)
  within = let e = length-append front (x ∷ rest) in omega (arith, e)

  pub before_ascii : IsUtf8 front
  before_ascii = subst IsUtf8 (take-append_seam front (x ∷ rest)) (IsUtf8-take _ (length front) h (IsCharBoundary-before_ascii _ (length front) within ascii_here))

  pub after_ascii : IsUtf8 rest
  after_ascii = subst IsUtf8 (drop-append-add front (x ∷ rest) 1) (IsUtf8-drop _ (length front + 1) h (IsCharBoundary-after_ascii _ (length front) h within ascii_here))

pub behind_ascii : (x : ℕ) (rest : List ℕ) → x < 128 → IsUtf8 (x ∷ rest) → IsUtf8 rest
behind_ascii x rest low h = after_ascii [] x rest low h

pub ascii_then : (x : ℕ) (rest : List ℕ) → x < 128 → IsUtf8 rest → IsUtf8 (x ∷ rest)
ascii_then x rest low h = IsUtf8-append (x ∷ []) rest (subst IsUtf8 (encode_ascii x low) (IsUtf8-encode x (low_code x low))) h
  where
    low_code : (c : ℕ) → c < 128 → IsScalar c
    low_code c low = grind (arith)

-- ---- the content of a string

abbrev pub HoldsOf : {A : Type 0} → (A → Type 0) → Option A → Type 0
HoldsOf P None = Unit {0}
HoldsOf P (Some x) = P x

-- what is read behind some bytes makes UTF-8 with them
abbrev Ends : List ℕ → Option (List ℕ) → Type 0
Ends front o = HoldsOf (λ s. IsUtf8 (front ++ s)) o

pub ends_next : (front : List ℕ) (x : ℕ) (o : Option (List ℕ)) → Ends (front ++ x ∷ []) o → Ends front (prepend (x ∷ []) o)
ends_next front x None h = tt
ends_next front x (Some s) h = subst IsUtf8 (append_assoc front (x ∷ []) s) h

ends_behind : (front : List ℕ) (o : Option (List ℕ)) → IsUtf8 front → HoldsOf IsUtf8 o → Ends front o
ends_behind front None h k = tt
ends_behind front (Some s) h k = IsUtf8-append front s h k

begins_with : (front : List ℕ) (o : Option (List ℕ)) → IsUtf8 front → HoldsOf IsUtf8 o → HoldsOf IsUtf8 (prepend front o)
begins_with front None h k = tt
begins_with front (Some s) h k = IsUtf8-append front s h k

digit_is_low : (c : ℕ) → is_digit c 16 ≡ true → c < 128
digit_is_low c h = let below = ltb-true (digit_value c) 16 h in grind (arith)

-- the four digits of a code unit, and the unit
record IsUnit (a b c d u : ℕ) : Type 0 where
  first : a < 128
  second : b < 128
  third : c < 128
  fourth : d < 128
  fits : u < 65536

unit_of : (a b c d : ℕ) → HoldsOf (IsUnit a b c d) (code_unit a b c d)
unfolding code_unit
unit_of a b c d = on (is_digit a 16 && is_digit b 16 && is_digit c 16 && is_digit d 16) refl
  where
    on : (t : Bool) → (is_digit a 16 && is_digit b 16 && is_digit c 16 && is_digit d 16) ≡ t
        → HoldsOf (IsUnit a b c d) (cond t (Some (digit_value a * 4096 + digit_value b * 256 + digit_value c * 16 + digit_value d)) None)
    on false e = tt
    on true e =
        let p = and_parts _ _ e in
        let q = and_parts _ _ p.0 in
        let r = and_parts _ _ q.0 in
        let i = ltb-true (digit_value a) 16 r.0 in
        let j = ltb-true (digit_value b) 16 r.1 in
        let k = ltb-true (digit_value c) 16 q.1 in
        let l = ltb-true (digit_value d) 16 p.1 in
        record { first = digit_is_low a r.0; second = digit_is_low b r.1; third = digit_is_low c q.1; fourth = digit_is_low d p.1; fits = omega (arith, i, j, k, l) }

four_on : (a b c d u : ℕ) (rest : List ℕ) → IsUnit a b c d u → IsUtf8 (a ∷ b ∷ c ∷ d ∷ rest) → IsUtf8 rest
four_on a b c d u rest is h = behind_ascii d rest is.fourth (behind_ascii c _ is.third (behind_ascii b _ is.second (behind_ascii a _ is.first h)))

unit_scalar : (u : ℕ) → u < 65536 → is_high_surrogate u ≡ false → is_low_surrogate u ≡ false → IsScalar u
unit_scalar u fits high low = grind (arith)

pair_scalar : (h l : ℕ) → is_high_surrogate h ≡ true → is_low_surrogate l ≡ true → IsScalar (surrogate_pair h l)
pair_scalar h l high low = grind (arith)

short_is_low : (x : ℕ) → HoldsOf (λ c. (x < 128) × (c < 128)) (short_escape x)
unfolding short_escape
short_is_low x = grind (arith)

plain_step : (front : List ℕ) (x : ℕ) (xs : List ℕ) (q b c : Bool) (escaped next : Option (List ℕ)) → (x == 34) ≡ q → (x == 92) ≡ b → IsUtf8 (front ++ x ∷ xs) → (IsUtf8 xs → HoldsOf IsUtf8 escaped)
    → Ends (front ++ x ∷ []) next → Ends front (cond q (Some []) (cond b escaped (cond c None (prepend (x ∷ []) next))))
plain_step front x xs true b c escaped next i j h k l = let e = eqb-true x 34 i in subst IsUtf8 (sym (append-nil front)) (before_ascii front x xs (omega (arith, e)) h)
plain_step front x xs false true c escaped next i j h k l =
    let e = eqb-true x 92 j in
    let low : x < 128 = omega (arith, e) in
    ends_behind front escaped (before_ascii front x xs low h) (k (after_ascii front x xs low h))
plain_step front x xs false false true escaped next i j h k l = tt
plain_step front x xs false false false escaped next i j h k l = ends_next front x next l

short_step : (x : ℕ) (o next : Option (List ℕ)) (c : Option ℕ) → HoldsOf (λ c. (x < 128) × (c < 128)) c → (x < 128 → HoldsOf IsUtf8 next) → HoldsOf IsUtf8 (option_and_then (λ c. prepend (c ∷ []) next) c)
short_step x o next None h k = tt
short_step x o next (Some c) h k = begins_with (c ∷ []) next (ascii_then c [] h.1 IsUtf8-nil) (k h.0)

backslash_step : (x : ℕ) (xs : List ℕ) (u : Bool) (unit next : Option (List ℕ)) → (x == 117) ≡ u → IsUtf8 (x ∷ xs) → (IsUtf8 xs → HoldsOf IsUtf8 unit) → (IsUtf8 xs → HoldsOf IsUtf8 next)
    → HoldsOf IsUtf8 (cond u unit (option_and_then (λ c. prepend (c ∷ []) next) (short_escape x)))
backslash_step x xs true unit next e h k l = let is = eqb-true x 117 e in k (behind_ascii x xs (omega (arith, is)) h)
backslash_step x xs false unit next e h k l = short_step x unit next (short_escape x) (short_is_low x) (λ low. l (behind_ascii x xs low h))

one_unit : (u : ℕ) (high low : Bool) (pair next : Option (List ℕ)) → u < 65536 → is_high_surrogate u ≡ high → is_low_surrogate u ≡ low → (is_high_surrogate u ≡ true → HoldsOf IsUtf8 pair) → HoldsOf IsUtf8 next
    → HoldsOf IsUtf8 (cond high pair (cond low None (prepend (encode_utf8 u) next)))
one_unit u true low pair next fits i j k l = k i
one_unit u false true pair next fits i j k l = tt
one_unit u false false pair next fits i j k l = begins_with (encode_utf8 u) next (IsUtf8-encode u (unit_scalar u fits i j)) l

unit_step : (a b c d : ℕ) (xs : List ℕ) (o : Option ℕ) (pair : ℕ → Option (List ℕ)) (next : Option (List ℕ)) → HoldsOf (IsUnit a b c d) o → IsUtf8 (a ∷ b ∷ c ∷ d ∷ xs)
    → ((u : ℕ) → is_high_surrogate u ≡ true → IsUtf8 xs → HoldsOf IsUtf8 (pair u)) → (IsUtf8 xs → HoldsOf IsUtf8 next)
    → HoldsOf IsUtf8 (option_and_then (λ u. cond (is_high_surrogate u) (pair u) (cond (is_low_surrogate u) None (prepend (encode_utf8 u) next))) o)
unit_step a b c d xs None pair next is h k l = tt
unit_step a b c d xs (Some u) pair next is h k l =
    let rest = four_on a b c d u xs is h in
    one_unit u (is_high_surrogate u) (is_low_surrogate u) (pair u) next is.fits refl refl (λ high. k u high rest) (l rest)

one_pair : (high l : ℕ) (low : Bool) (next : Option (List ℕ)) → is_high_surrogate high ≡ true → is_low_surrogate l ≡ low → HoldsOf IsUtf8 next → HoldsOf IsUtf8 (cond low (prepend (encode_utf8 (surrogate_pair high l)) next) None)
one_pair high l true next i j k = begins_with _ next (IsUtf8-encode _ (pair_scalar high l i j)) k
one_pair high l false next i j k = tt

low_unit : (high a b c d : ℕ) (xs : List ℕ) (o : Option ℕ) (next : Option (List ℕ)) → is_high_surrogate high ≡ true → HoldsOf (IsUnit a b c d) o → IsUtf8 (a ∷ b ∷ c ∷ d ∷ xs) → (IsUtf8 xs → HoldsOf IsUtf8 next)
    → HoldsOf IsUtf8 (option_and_then (λ l. cond (is_low_surrogate l) (prepend (encode_utf8 (surrogate_pair high l)) next) None) o)
low_unit high a b c d xs None next i is h k = tt
low_unit high a b c d xs (Some l) next i is h k = one_pair high l (is_low_surrogate l) next i refl (k (four_on a b c d l xs is h))

pair_step : (high s u a b c d : ℕ) (xs : List ℕ) (t : Bool) (next : Option (List ℕ)) → ((s == 92) && (u == 117)) ≡ t → is_high_surrogate high ≡ true → IsUtf8 (s ∷ u ∷ a ∷ b ∷ c ∷ d ∷ xs) → (IsUtf8 xs → HoldsOf IsUtf8 next)
    → HoldsOf IsUtf8 (cond t (option_and_then (λ l. cond (is_low_surrogate l) (prepend (encode_utf8 (surrogate_pair high l)) next) None) (code_unit a b c d)) None)
pair_step high s u a b c d xs false next e i h k = tt
pair_step high s u a b c d xs true next e i h k =
    let p = and_parts _ _ e in
    let first = eqb-true s 92 p.0 in
    let second = eqb-true u 117 p.1 in
    low_unit high a b c d xs (code_unit a b c d) next i (unit_of a b c d) (behind_ascii u _ (omega (arith, second)) (behind_ascii s _ (omega (arith, first)) h)) k

mutual
  unfolding content

  plain_ends : (xs front : List ℕ) → IsUtf8 (front ++ xs) → Ends front (content plain xs)
  plain_ends [] front h = tt
  plain_ends (x ∷ xs) front h =
      plain_step front x xs (x == 34) (x == 92) (nat_lt x 32) (content after_backslash xs) (content plain xs) refl refl h (λ k. backslash_ends xs k)
      (plain_ends xs (front ++ x ∷ []) (subst IsUtf8 (sym (append_assoc front (x ∷ []) xs)) h))

  backslash_ends : (xs : List ℕ) → IsUtf8 xs → HoldsOf IsUtf8 (content after_backslash xs)
  backslash_ends [] h = tt
  backslash_ends (x ∷ xs) h = backslash_step x xs (x == 117) (content after_u xs) (content plain xs) refl h (λ k. unit_ends xs k) (λ k. plain_ends xs [] k)

  unit_ends : (xs : List ℕ) → IsUtf8 xs → HoldsOf IsUtf8 (content after_u xs)
  unit_ends [] h = tt
  unit_ends (a ∷ []) h = tt
  unit_ends (a ∷ b ∷ []) h = tt
  unit_ends (a ∷ b ∷ c ∷ []) h = tt
  unit_ends (a ∷ b ∷ c ∷ d ∷ xs) h =
      unit_step a b c d xs (code_unit a b c d) (λ u. content (after_high u) xs) (content plain xs) (unit_of a b c d) h (λ u high k. pair_ends xs u high k) (λ k. plain_ends xs [] k)

  pair_ends : (xs : List ℕ) (high : ℕ) → is_high_surrogate high ≡ true → IsUtf8 xs → HoldsOf IsUtf8 (content (after_high high) xs)
  pair_ends [] high i h = tt
  pair_ends (s ∷ []) high i h = tt
  pair_ends (s ∷ u ∷ []) high i h = tt
  pair_ends (s ∷ u ∷ a ∷ []) high i h = tt
  pair_ends (s ∷ u ∷ a ∷ b ∷ []) high i h = tt
  pair_ends (s ∷ u ∷ a ∷ b ∷ c ∷ []) high i h = tt
  pair_ends (s ∷ u ∷ a ∷ b ∷ c ∷ d ∷ xs) high i h = pair_step high s u a b c d xs ((s == 92) && (u == 117)) (content plain xs) refl i h (λ k. plain_ends xs [] k)

-- ---- tokens

abbrev pub HasUtf8 : Token → Type 0
HasUtf8 begin_object = Unit {0}
HasUtf8 end_object = Unit {0}
HasUtf8 begin_array = Unit {0}
HasUtf8 end_array = Unit {0}
HasUtf8 (key s) = IsUtf8 s
HasUtf8 (string s) = IsUtf8 s
HasUtf8 (number s) = Unit {0}
HasUtf8 (boolean b) = Unit {0}
HasUtf8 null = Unit {0}
HasUtf8 bad = Unit {0}

abbrev LexemeHasUtf8 : Lexeme → Type 0
LexemeHasUtf8 (token t) = HasUtf8 t
LexemeHasUtf8 comma = Unit {0}
LexemeHasUtf8 colon = Unit {0}

string_utf8 : (o : Option (List ℕ)) → HoldsOf IsUtf8 o → HasUtf8 (string_token o)
string_utf8 None h = tt
string_utf8 (Some s) h = h

operator_utf8 : (a b c d e : Bool) → LexemeHasUtf8 (cond a (token begin_object) (cond b (token end_object) (cond c (token begin_array) (cond d (token end_array) (cond e comma colon)))))
operator_utf8 true b c d e = tt
operator_utf8 false true c d e = tt
operator_utf8 false false true d e = tt
operator_utf8 false false false true e = tt
operator_utf8 false false false false true = tt
operator_utf8 false false false false false = tt

either_utf8 : (b : Bool) (t u : Token) → HasUtf8 t → HasUtf8 u → HasUtf8 (cond b t u)
either_utf8 true t u h k = h
either_utf8 false t u h k = k

number_utf8 : (t : List ℕ) (o : Option (List ℕ)) → HasUtf8 (number_before t o)
number_utf8 t None = tt
number_utf8 t (Some rest) = either_utf8 (ends_word rest) (number (take (length t - length rest) t)) bad tt tt

literal_utf8 : (name : List ℕ) (k : Token) (t : List ℕ) → HasUtf8 k → HasUtf8 (literal name k t)
literal_utf8 name k t h = either_utf8 (starts_with nat_eq t name && ends_word (drop (length name) t)) k bad h tt

word_utf8 : (t : List ℕ) → HasUtf8 (word t)
unfolding word
word_utf8 t =
    let last : Token = cond (head t == ascii.lower_n) (literal ascii.null_text null t) (number_before t (after_number t)) in
    let others : Token = cond (head t == ascii.lower_f) (literal ascii.false_text (boolean false) t) last in
    either_utf8 (head t == ascii.lower_t) (literal ascii.true_text (boolean true) t) others (literal_utf8 ascii.true_text (boolean true) t tt)
    (either_utf8 (head t == ascii.lower_f) (literal ascii.false_text (boolean false) t) last (literal_utf8 ascii.false_text (boolean false) t tt)
    (either_utf8 (head t == ascii.lower_n) (literal ascii.null_text null t) (number_before t (after_number t)) (literal_utf8 ascii.null_text null t tt) (number_utf8 t (after_number t))))

operator_is : (x : ℕ) → LexemeHasUtf8 (operator_lexeme x)
operator_is x = operator_utf8 (x == ascii.open_brace) (x == ascii.close_brace) (x == ascii.open_bracket) (x == ascii.close_bracket) (x == ascii.comma)

class_quote : (q b o s : Bool) → cond q quote (cond b backslash (cond o operator (cond s space other))) ≡ quote → q ≡ true
class_quote true b o s h = refl
class_quote false true o s h = cc
class_quote false false true s h = cc
class_quote false false false true h = cc
class_quote false false false false h = cc

lex_step : (m : Mode) (c : Class) (x : ℕ) (xs : List ℕ) (next : Mode → List Lexeme) → (c ≡ quote → IsUtf8 xs) → ((n : Mode) → AllByRecursion LexemeHasUtf8 (next n)) → AllByRecursion LexemeHasUtf8 (lex_byte m c x xs next)
lex_step between quote x xs next h k = (string_utf8 (content plain xs) (plain_ends xs [] (h refl)), k in_string)
lex_step between backslash x xs next h k = (tt, k in_word)
lex_step between operator x xs next h k = (operator_is x, k between)
lex_step between space x xs next h k = k between
lex_step between other x xs next h k = (word_utf8 (x ∷ xs), k in_word)
lex_step in_word quote x xs next h k = k in_word
lex_step in_word backslash x xs next h k = k in_word
lex_step in_word operator x xs next h k = (operator_is x, k between)
lex_step in_word space x xs next h k = k between
lex_step in_word other x xs next h k = k in_word
lex_step in_string quote x xs next h k = k between
lex_step in_string backslash x xs next h k = k in_escape
lex_step in_string operator x xs next h k = k in_string
lex_step in_string space x xs next h k = k in_string
lex_step in_string other x xs next h k = k in_string
lex_step in_escape c x xs next h k = k in_string

lex_utf8 : (xs : List ℕ) (m : Mode) (front : List ℕ) → IsUtf8 (front ++ xs) → AllByRecursion LexemeHasUtf8 (lex m xs)
unfolding lex
lex_utf8 [] m front h = tt
lex_utf8 (x ∷ xs) m front h =
    lex_step m (class x) x xs (λ n. lex n xs)
    (λ e. let is = eqb-true x 34 (class_quote (x == 34) (x == 92) (is_operator x) (is_space x) e) in after_ascii front x xs (omega (arith, is)) h)
    (λ n. lex_utf8 xs n (front ++ x ∷ []) (subst IsUtf8 (sym (append_assoc front (x ∷ []) xs)) h))

allowed_utf8 : (b : Bool) (t : Token) (k : Place → List Token) (next : Place) → HasUtf8 t → ((n : Place) → AllByRecursion HasUtf8 (k n)) → AllByRecursion HasUtf8 (if_allowed b t k next)
allowed_utf8 true t k next h all = (h, all next)
allowed_utf8 false t k next h all = (tt, tt)

place_utf8 : (p : Place) (t : Token) (b : Bool) (k : Place → List Token) → HasUtf8 t → ((n : Place) → AllByRecursion HasUtf8 (k n)) → AllByRecursion HasUtf8 (place_token p t b k)
place_utf8 p begin_object b k h all = allowed_utf8 (may_begin p) begin_object k fresh tt all
place_utf8 p end_object b k h all = allowed_utf8 (may_close p) end_object k after_value tt all
place_utf8 p begin_array b k h all = allowed_utf8 (may_begin p) begin_array k fresh tt all
place_utf8 p end_array b k h all = allowed_utf8 (may_close p) end_array k after_value tt all
place_utf8 p (key s) b k h all = (tt, tt)
place_utf8 p (string s) true k h all = allowed_utf8 (may_begin p) (key s) k after_key h all
place_utf8 p (string s) false k h all = allowed_utf8 (may_begin p) (string s) k after_value h all
place_utf8 p (number s) b k h all = allowed_utf8 (may_begin p) (number s) k after_value tt all
place_utf8 p (boolean v) b k h all = allowed_utf8 (may_begin p) (boolean v) k after_value tt all
place_utf8 p null b k h all = allowed_utf8 (may_begin p) null k after_value tt all
place_utf8 p bad b k h all = (tt, tt)

punctuate_utf8 : (ls : List Lexeme) (p : Place) → AllByRecursion LexemeHasUtf8 ls → AllByRecursion HasUtf8 (punctuate p ls)
unfolding punctuate
punctuate_utf8 [] fresh h = tt
punctuate_utf8 [] after_value h = tt
punctuate_utf8 [] after_comma h = (tt, tt)
punctuate_utf8 [] after_key h = (tt, tt)
punctuate_utf8 (token t ∷ ls) fresh h = place_utf8 fresh t (begins_colon ls) (λ n. punctuate n ls) h.0 (λ n. punctuate_utf8 ls n h.1)
punctuate_utf8 (token t ∷ ls) after_value h = place_utf8 after_value t (begins_colon ls) (λ n. punctuate n ls) h.0 (λ n. punctuate_utf8 ls n h.1)
punctuate_utf8 (token t ∷ ls) after_comma h = place_utf8 after_comma t (begins_colon ls) (λ n. punctuate n ls) h.0 (λ n. punctuate_utf8 ls n h.1)
punctuate_utf8 (token t ∷ ls) after_key h = place_utf8 after_key t (begins_colon ls) (λ n. punctuate n ls) h.0 (λ n. punctuate_utf8 ls n h.1)
punctuate_utf8 (comma ∷ ls) fresh h = (tt, tt)
punctuate_utf8 (comma ∷ ls) after_value h = punctuate_utf8 ls after_comma h.1
punctuate_utf8 (comma ∷ ls) after_comma h = (tt, tt)
punctuate_utf8 (comma ∷ ls) after_key h = (tt, tt)
punctuate_utf8 (colon ∷ ls) fresh h = (tt, tt)
punctuate_utf8 (colon ∷ ls) after_value h = (tt, tt)
punctuate_utf8 (colon ∷ ls) after_comma h = (tt, tt)
punctuate_utf8 (colon ∷ ls) after_key h = punctuate_utf8 ls fresh h.1

pub tokens_utf8 : (text : List ℕ) → IsUtf8 text → AllByRecursion HasUtf8 (tokens text)
tokens_utf8 text h = punctuate_utf8 (lex between text) fresh (lex_utf8 text between [] h)
