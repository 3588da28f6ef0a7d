-- A text that begins with no quotation mark and no blank is no member of a JSON object.
use Rattle.std.proofs.Common.{◌≡◌, ℕ, zero, suc, ◌-◌, Bool, true, false, cond, ◌==◌, List, [], ◌∷◌, ◌++◌, length, take, Option, Some, None, option_and_then, refl, sym, ◌∙◌, subst}
use Rattle.std.proofs.lemmas.Bool.{true≢false}
use Rattle.std.specs.Prelude.{◌||◌, ⊤}
use Rattle.json.specs.Json as json
use Rattle.json.specs.Lex.{Lexeme, token, comma, colon, Place, fresh, between, in_word, lex, lex_byte, punctuate, tokens, Class, class, quote, backslash, operator, space, other}
use Rattle.json.specs.Token.{Token, begin_object, end_object, begin_array, end_array, key, string, number, boolean, null, bad}
use Rattle.json.specs.Word.{head, ends_word, after_number, number_before, is_operator, is_space, word}
use Rattle.serde_json.specs.Data.{Data, object, no_members, member}
use Rattle.serde_json.specs.Read.{read, max_depth, of_json}
use Rattle.trace_model.specs.private.EventBegins.{begins_as_member}
use Rattle.trace_model.proofs.EventLemmas.{NoEventText}

abbrev from : Place → List ℕ → List Token
from place text = punctuate place (lex between text)

-- ---- no key follows the brace

abbrev NoKey : Option (Option (List ℕ) × List Token) → Type 0
NoKey None = ⊤
NoKey (Some (None, ts)) = ⊤
NoKey (Some (Some name, ts)) = ⊥

abbrev AreNone : Option (json.Members × List Token) → Type 0
AreNone None = ⊤
AreNone (Some (json.no_members, ts)) = ⊤
AreNone (Some (json.member k j ms, ts)) = ⊥

none_after : (value : json.Parse json.Json) (more : json.Parse json.Members) (found : Option (Option (List ℕ) × List Token)) → NoKey found
    → AreNone (option_and_then (λ p. json.members_step value more p.0 p.1) found)
none_after value more None lacks = tt
none_after value more (Some (None, ts)) lacks = tt
none_after value more (Some (Some name, ts)) lacks = absurd lacks

no_members_read : (value : json.Parse json.Json) (n : ℕ) (ts : List Token) → NoKey (json.read_key ts) → AreNone (json.members value n ts)
unfolding json.members
no_members_read value zero ts lacks = tt
no_members_read value (suc n) ts lacks = none_after value (json.members value n) (json.read_key ts) lacks

bare : (o : Option (json.Members × List Token)) (found : Data) → AreNone o
    → option_and_then of_json (option_and_then (λ p. json.if_last p.0 p.1) (json.parse_map json.object o)) ≡ Some found → found ≡ object no_members
bare None found none e = absurd (cc)
bare (Some (json.no_members, [])) found none e = cc
bare (Some (json.no_members, t ∷ ts)) found none e = absurd (cc)
bare (Some (json.member k j ms, ts)) found none e = absurd none

opened : (t : List ℕ) → tokens (123 ∷ t) ≡ begin_object ∷ from fresh t
unfolding lex punctuate
opened t = refl

bare_object : (t : List ℕ) (found : Data) → NoKey (json.read_key (from fresh t)) → read (123 ∷ t) ≡ Some found → found ≡ object no_members
unfolding json.value
bare_object t found lacks e =
    bare (json.members (json.value 126) (length (from fresh t)) (from fresh t)) found (no_members_read (json.value 126) (length (from fresh t)) (from fresh t) lacks)
    (subst (λ ts. option_and_then of_json (option_and_then (λ p. json.if_last p.0 p.1) (json.value max_depth ts)) ≡ Some found) (opened t) e)

-- ---- by the first byte

abbrev NotText : Token → Type 0
NotText (string text) = ⊥
NotText held = ⊤

either : (b : Bool) (one two : Token) → NotText one → NotText two → NotText (cond b one two)
either true one two first second = first
either false one two first second = second

number_no_text : (t : List ℕ) (after : Option (List ℕ)) → NotText (number_before t after)
number_no_text t None = tt
number_no_text t (Some more) = either (ends_word more) (number (take (length t - length more) t)) bad tt tt

word_no_text : (t : List ℕ) → NotText (word t)
unfolding word
word_no_text t =
    either (head t == 116) _ _ (either _ (boolean true) bad tt tt) (either (head t == 102) _ _ (either _ (boolean false) bad tt tt)
    (either (head t == 110) _ _ (either _ null bad tt tt) (number_no_text t (after_number t))))

no_key_at : (held : Token) (ls : List Lexeme) → NotText held → NoKey (json.read_key (punctuate fresh (token held ∷ ls)))
unfolding punctuate
no_key_at begin_object ls lacks = tt
no_key_at end_object ls lacks = tt
no_key_at begin_array ls lacks = tt
no_key_at end_array ls lacks = tt
no_key_at (key text) ls lacks = tt
no_key_at (string text) ls lacks = absurd lacks
no_key_at (number text) ls lacks = tt
no_key_at (boolean truth) ls lacks = tt
no_key_at null ls lacks = tt
no_key_at bad ls lacks = tt

no_key_at_mark : (a b c d e : Bool) (ls : List Lexeme)
    → NoKey (json.read_key (punctuate fresh (cond a (token begin_object) (cond b (token end_object) (cond c (token begin_array) (cond d (token end_array) (cond e comma colon)))) ∷ ls)))
unfolding punctuate
no_key_at_mark true b c d e ls = tt
no_key_at_mark false true c d e ls = tt
no_key_at_mark false false true d e ls = tt
no_key_at_mark false false false true e ls = tt
no_key_at_mark false false false false true ls = tt
no_key_at_mark false false false false false ls = tt

abbrev may_be_quote : Class → Bool
may_be_quote quote = true
may_be_quote space = true
may_be_quote other_class = false

solid : (q b o s : Bool) → (q || s) ≡ false → may_be_quote (cond q quote (cond b backslash (cond o operator (cond s space other)))) ≡ false
solid true b o s lacks = absurd (true≢false lacks)
solid false true o s lacks = refl
solid false false true s lacks = refl
solid false false false false lacks = refl
solid false false false true lacks = absurd (true≢false lacks)

no_key_by : (c : Class) (byte : ℕ) (more : List ℕ) → may_be_quote c ≡ false → NoKey (json.read_key (punctuate fresh (lex_byte between c byte more (λ next. lex next more))))
no_key_by quote byte more lacks = absurd (true≢false lacks)
no_key_by backslash byte more lacks = no_key_at bad (lex in_word more) tt
no_key_by operator byte more lacks = no_key_at_mark (byte == 123) (byte == 125) (byte == 91) (byte == 93) (byte == 44) (lex between more)
no_key_by space byte more lacks = absurd (true≢false lacks)
no_key_by other byte more lacks = no_key_at (word (byte ∷ more)) (lex in_word more) (word_no_text (byte ∷ more))

no_key : (byte : ℕ) (more : List ℕ) → ((byte == 34) || is_space byte) ≡ false → NoKey (json.read_key (from fresh (byte ∷ more)))
unfolding lex
no_key byte more lacks = no_key_by (class byte) byte more (solid (byte == 34) (byte == 92) (is_operator byte) (is_space byte) lacks)

no_key_in : (text : List ℕ) → begins_as_member text ≡ false → NoKey (json.read_key (from fresh (text ++ 125 ∷ [])))
no_key_in [] lacks = no_key 125 [] refl
no_key_in (byte ∷ more) lacks = no_key byte (more ++ 125 ∷ []) lacks

pub no_member : (text : List ℕ) → begins_as_member text ≡ false → NoEventText text
no_member text lacks name attributes is =
    let none : is.json ≡ object no_members = bare_object (text ++ 125 ∷ []) is.json (no_key_in text lacks) is.reading in
    let two : object no_members ≡ object (member name (object is.event.members) no_members) = sym none ∙ is.event.one in
    absurd (cc)
