-- The tokens of a text in UTF-8 have texts in UTF-8.
use Rattle.std.proofs.Common.{◌≡◌, ℕ, ◌<◌, ◌-◌, ◌==◌, Bool, true, false, cond, ◌&&◌, List, [], ◌∷◌, ◌++◌, length, take, Option, Some, None, IsUtf8, refl, sym, subst, append_assoc, eqb-true, All, arith}
use Rattle.std.specs.Prelude.{⊤, drop, nat_eq}
use Rattle.std.specs.List.{starts_with}
use Rattle.json.specs.Ascii as ascii
use Rattle.std.proofs.lemmas.List.Elements.{All-nil, All-cons, All-head, All-tail}
use Rattle.json.specs.Lex.{Lexeme, token, comma, colon, Class, quote, backslash, operator, space, other, class, operator_lexeme, string_token, Mode, between, in_word, in_string, in_escape, lex_byte, lex, Place, fresh, after_value, after_comma, after_key, begins_colon, may_begin, may_close, if_allowed, place_token, punctuate, tokens}
use Rattle.json.specs.Text.{content, plain}
use Rattle.json.specs.Token.{Token, begin_object, end_object, begin_array, end_array, key, string, number, boolean, null, bad}
use Rattle.json.specs.Word.{is_operator, is_space, word, head, literal, number_before, after_number, ends_word}
use Rattle.trace_model.proofs.JsonContent.{content_utf8, behind}

abbrev pub IsTextToken : Token → Type 0
IsTextToken (key s) = IsUtf8 s
IsTextToken (string s) = IsUtf8 s
IsTextToken begin_object = ⊤
IsTextToken end_object = ⊤
IsTextToken begin_array = ⊤
IsTextToken end_array = ⊤
IsTextToken (number s) = ⊤
IsTextToken (boolean b) = ⊤
IsTextToken null = ⊤
IsTextToken bad = ⊤

abbrev IsTextLexeme : Lexeme → Type 0
IsTextLexeme (token t) = IsTextToken t
IsTextLexeme comma = ⊤
IsTextLexeme colon = ⊤

-- ---- lexemes

literal_text : (b : Bool) (t : Token) → IsTextToken t → IsTextToken (cond b t bad)
literal_text true t is = is
literal_text false t is = tt

number_text : (t : List ℕ) (o : Option (List ℕ)) → IsTextToken (number_before t o)
number_text t None = tt
number_text t (Some rest) = literal_text (ends_word rest) (number (take (length t - length rest) t)) tt

chosen : (b : Bool) (s t : Token) → IsTextToken s → IsTextToken t → IsTextToken (cond b s t)
chosen true s t a c = a
chosen false s t a c = c

literal_is : (name : List ℕ) (t : Token) (text : List ℕ) → IsTextToken t → IsTextToken (literal name t text)
literal_is name t text is = literal_text (starts_with nat_eq text name && ends_word (drop (length name) text)) t is

word_text : (t : List ℕ) → IsTextToken (word t)
unfolding word
word_text t =
    let number = number_before t (after_number t) in
    let or_null = cond (head t == 110) (literal ascii.null_text null t) number in
    let or_false = cond (head t == 102) (literal ascii.false_text (boolean false) t) or_null in
    chosen (head t == 116) (literal ascii.true_text (boolean true) t) or_false (literal_is ascii.true_text (boolean true) t tt)
    (chosen (head t == 102) (literal ascii.false_text (boolean false) t) or_null (literal_is ascii.false_text (boolean false) t tt)
    (chosen (head t == 110) (literal ascii.null_text null t) number (literal_is ascii.null_text null t tt) (number_text t (after_number t))))

string_text : (xs : List ℕ) → IsUtf8 xs → (o : Option (List ℕ)) → content plain xs ≡ o → IsTextToken (string_token o)
string_text xs utf8 None e = tt
string_text xs utf8 (Some s) e = content_utf8 xs utf8 s e

either : (b : Bool) (s t : Lexeme) → IsTextLexeme s → IsTextLexeme t → IsTextLexeme (cond b s t)
either true s t a c = a
either false s t a c = c

operator_text : (x : ℕ) → IsTextLexeme (operator_lexeme x)
operator_text x =
    let last = cond (x == 44) comma colon in
    let fourth = cond (x == 93) (token end_array) last in
    let third = cond (x == 91) (token begin_array) fourth in
    let second = cond (x == 125) (token end_object) third in
    either (x == 123) (token begin_object) second tt (either (x == 125) (token end_object) third tt (either (x == 91) (token begin_array) fourth tt
    (either (x == 93) (token end_array) last tt (either (x == 44) comma colon tt tt))))

abbrev Fine : List Lexeme → Type 0
Fine ls = All IsTextLexeme ls

quote_by : (x : ℕ) (a b c d : Bool) → (x == 34) ≡ a → cond a quote (cond b backslash (cond c operator (cond d space other))) ≡ quote → x < 128
quote_by x true b c d e is = let same = eqb-true x 34 e in omega (arith, same)
quote_by x false true c d e is = absurd (cc)
quote_by x false false true d e is = absurd (cc)
quote_by x false false false true e is = absurd (cc)
quote_by x false false false false e is = absurd (cc)

byte_fine : (m : Mode) (k : Class) (q : List ℕ) (x : ℕ) (xs : List ℕ) (next : Mode → List Lexeme) → class x ≡ k → IsUtf8 (q ++ x ∷ xs) → ((n : Mode) → Fine (next n)) → Fine (lex_byte m k x xs next)
byte_fine between quote q x xs next e utf8 on =
    All-cons IsTextLexeme (token (string_token (content plain xs))) (next in_string)
    (string_text xs (behind q xs x (quote_by x (x == 34) (x == 92) (is_operator x) (is_space x) refl e) utf8) (content plain xs) refl) (on in_string)
byte_fine between backslash q x xs next e utf8 on = All-cons IsTextLexeme (token bad) (next in_word) tt (on in_word)
byte_fine between operator q x xs next e utf8 on = All-cons IsTextLexeme (operator_lexeme x) (next between) (operator_text x) (on between)
byte_fine between space q x xs next e utf8 on = on between
byte_fine between other q x xs next e utf8 on = All-cons IsTextLexeme (token (word (x ∷ xs))) (next in_word) (word_text (x ∷ xs)) (on in_word)
byte_fine in_word quote q x xs next e utf8 on = on in_word
byte_fine in_word backslash q x xs next e utf8 on = on in_word
byte_fine in_word operator q x xs next e utf8 on = All-cons IsTextLexeme (operator_lexeme x) (next between) (operator_text x) (on between)
byte_fine in_word space q x xs next e utf8 on = on between
byte_fine in_word other q x xs next e utf8 on = on in_word
byte_fine in_string quote q x xs next e utf8 on = on between
byte_fine in_string backslash q x xs next e utf8 on = on in_escape
byte_fine in_string operator q x xs next e utf8 on = on in_string
byte_fine in_string space q x xs next e utf8 on = on in_string
byte_fine in_string other q x xs next e utf8 on = on in_string
byte_fine in_escape k q x xs next e utf8 on = on in_string

lex_fine : (m : Mode) (q xs : List ℕ) → IsUtf8 (q ++ xs) → Fine (lex m xs)
unfolding lex
lex_fine m q [] utf8 = All-nil IsTextLexeme
lex_fine m q (x ∷ xs) utf8 = byte_fine m (class x) q x xs (λ next. lex next xs) refl utf8 (λ n. lex_fine n (q ++ x ∷ []) xs (subst IsUtf8 (sym (append_assoc q (x ∷ []) xs)) utf8))

-- ---- tokens

abbrev pub AreTexts : List Token → Type 0
AreTexts ts = All IsTextToken ts

only_bad : AreTexts (bad ∷ [])
only_bad = All-cons IsTextToken bad [] tt (All-nil IsTextToken)

allowed : (b : Bool) (t : Token) (k : Place → List Token) (next : Place) → IsTextToken t → ((p : Place) → AreTexts (k p)) → AreTexts (if_allowed b t k next)
allowed true t k next is on = All-cons IsTextToken t (k next) is (on next)
allowed false t k next is on = only_bad

placed : (p : Place) (t : Token) (b : Bool) (k : Place → List Token) → IsTextToken t → ((p : Place) → AreTexts (k p)) → AreTexts (place_token p t b k)
placed p begin_object b k is on = allowed (may_begin p) begin_object k fresh tt on
placed p end_object b k is on = allowed (may_close p) end_object k after_value tt on
placed p begin_array b k is on = allowed (may_begin p) begin_array k fresh tt on
placed p end_array b k is on = allowed (may_close p) end_array k after_value tt on
placed p (key s) b k is on = only_bad
placed p (string s) true k is on = allowed (may_begin p) (key s) k after_key is on
placed p (string s) false k is on = allowed (may_begin p) (string s) k after_value is on
placed p (number s) b k is on = allowed (may_begin p) (number s) k after_value tt on
placed p (boolean v) b k is on = allowed (may_begin p) (boolean v) k after_value tt on
placed p null b k is on = allowed (may_begin p) null k after_value tt on
placed p bad b k is on = only_bad

punctuated : (p : Place) (ls : List Lexeme) → Fine ls → AreTexts (punctuate p ls)
unfolding punctuate
punctuated fresh [] all = All-nil IsTextToken
punctuated after_value [] all = All-nil IsTextToken
punctuated after_comma [] all = only_bad
punctuated after_key [] all = only_bad
punctuated fresh (token t ∷ ls) all = placed fresh t (begins_colon ls) (λ next. punctuate next ls) (All-head IsTextLexeme (token t) ls all) (λ n. punctuated n ls (All-tail IsTextLexeme (token t) ls all))
punctuated after_value (token t ∷ ls) all = placed after_value t (begins_colon ls) (λ next. punctuate next ls) (All-head IsTextLexeme (token t) ls all) (λ n. punctuated n ls (All-tail IsTextLexeme (token t) ls all))
punctuated after_comma (token t ∷ ls) all = placed after_comma t (begins_colon ls) (λ next. punctuate next ls) (All-head IsTextLexeme (token t) ls all) (λ n. punctuated n ls (All-tail IsTextLexeme (token t) ls all))
punctuated after_key (token t ∷ ls) all = placed after_key t (begins_colon ls) (λ next. punctuate next ls) (All-head IsTextLexeme (token t) ls all) (λ n. punctuated n ls (All-tail IsTextLexeme (token t) ls all))
punctuated fresh (comma ∷ ls) all = only_bad
punctuated after_value (comma ∷ ls) all = punctuated after_comma ls (All-tail IsTextLexeme comma ls all)
punctuated after_comma (comma ∷ ls) all = only_bad
punctuated after_key (comma ∷ ls) all = only_bad
punctuated fresh (colon ∷ ls) all = only_bad
punctuated after_value (colon ∷ ls) all = only_bad
punctuated after_comma (colon ∷ ls) all = only_bad
punctuated after_key (colon ∷ ls) all = punctuated fresh ls (All-tail IsTextLexeme colon ls all)

pub tokens_texts : (text : List ℕ) → IsUtf8 text → AreTexts (tokens text)
tokens_texts text utf8 = punctuated fresh (lex between text) (lex_fine between [] text utf8)
