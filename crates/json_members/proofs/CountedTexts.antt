-- A text of JSON has a byte for each value in its value.
use Rattle.std.proofs.Common.{◌≡◌, ℕ, suc, ◌+◌, ◌≤◌, Bool, true, false, List, [], ◌∷◌, ◌++◌, length, Option, Some, None, option_map, option_and_then, refl, sym, subst, ◌∙◌, arith, append-nil, length-append, Ordering, Less, Equal, Greater}
use Rattle.std.specs.Cmp.Lexicographic.{slice_cmp}
use Rattle.std.specs.Ordering.{nat_cmp, match_ordering}
use Rattle.json.specs.Json as json
use Rattle.json.specs.Lex.{Lexeme, token, comma, colon, Mode, between, in_word, in_string, in_escape, Class, quote, backslash, operator, space, other, class, lex, lex_byte, tokens, Place, fresh, after_value, after_comma, after_key, may_begin, may_close, if_allowed, begins_colon, place_token, punctuate}
use Rattle.json.specs.Token.{Token, begin_object, end_object, begin_array, end_array, key, string, number, boolean, null, bad}
use Rattle.json.specs.Tree.{json_tokens, items_tokens, members_tokens}
use Rattle.json.proofs.Unique.Spelling.{value-json_tokens_back}
use Rattle.serde_json.specs.Data as values
use Rattle.serde_json.specs.Data.{Num, Data, Items, Members, no_members, member as has, put}
use Rattle.serde_json.specs.Read.{read, number_of, of_json, of_items, of_members, max_depth}
use Rattle.json_members.specs.Counted.{values_in, values_in_items, values_in_members}
use Rattle.json_members.proofs.SoundLaws.{holds_map, holds_then}
use Rattle.json_members.proofs.Utf8Laws.{HoldsOf}

-- ---- a lexeme for each byte at most

lexeme_more : (m : Mode) (c : Class) (x : ℕ) (xs : List ℕ) (next : Mode → List Lexeme) → ((n : Mode) → length (next n) ≤ length xs) → length (lex_byte m c x xs next) ≤ suc (length xs)
lexeme_more between quote x xs next h = omega (arith, h in_string)
lexeme_more between backslash x xs next h = omega (arith, h in_word)
lexeme_more between operator x xs next h = omega (arith, h between)
lexeme_more between space x xs next h = omega (arith, h between)
lexeme_more between other x xs next h = omega (arith, h in_word)
lexeme_more in_word quote x xs next h = omega (arith, h in_word)
lexeme_more in_word backslash x xs next h = omega (arith, h in_word)
lexeme_more in_word operator x xs next h = omega (arith, h between)
lexeme_more in_word space x xs next h = omega (arith, h between)
lexeme_more in_word other x xs next h = omega (arith, h in_word)
lexeme_more in_string quote x xs next h = omega (arith, h between)
lexeme_more in_string backslash x xs next h = omega (arith, h in_escape)
lexeme_more in_string operator x xs next h = omega (arith, h in_string)
lexeme_more in_string space x xs next h = omega (arith, h in_string)
lexeme_more in_string other x xs next h = omega (arith, h in_string)
lexeme_more in_escape c x xs next h = omega (arith, h in_string)

length-lex : (xs : List ℕ) (m : Mode) → length (lex m xs) ≤ length xs
unfolding lex
length-lex [] m = omega arith
length-lex (x ∷ xs) m = lexeme_more m (class x) x xs (λ n. lex n xs) (λ n. length-lex xs n)

-- ---- a token for each lexeme at most, and one for what is missing at the end

abbrev missing : Place → List Lexeme → ℕ
missing fresh ls = 0
missing after_value ls = 0
missing after_comma ls = 1
missing after_key [] = 1
missing after_key (l ∷ ls) = 0

none_missing : (ls : List Lexeme) → begins_colon ls ≡ true → missing after_key ls ≡ 0
none_missing [] h = cc
none_missing (l ∷ ls) h = refl

allowed_more : (b : Bool) (t : Token) (k : Place → List Token) (next : Place) (n : ℕ) → length (k next) ≤ n → length (if_allowed b t k next) ≤ suc n
allowed_more true t k next n h = omega (arith, h)
allowed_more false t k next n h = omega arith

token_more : (p : Place) (t : Token) (b : Bool) (k : Place → List Token) (n : ℕ) → length (k fresh) ≤ n → length (k after_value) ≤ n → (b ≡ true → length (k after_key) ≤ n) → length (place_token p t b k) ≤ suc n
token_more p begin_object b k n opened value keyed = allowed_more (may_begin p) begin_object k fresh n opened
token_more p end_object b k n opened value keyed = allowed_more (may_close p) end_object k after_value n value
token_more p begin_array b k n opened value keyed = allowed_more (may_begin p) begin_array k fresh n opened
token_more p end_array b k n opened value keyed = allowed_more (may_close p) end_array k after_value n value
token_more p (key s) b k n opened value keyed = omega arith
token_more p (string s) true k n opened value keyed = allowed_more (may_begin p) (key s) k after_key n (keyed refl)
token_more p (string s) false k n opened value keyed = allowed_more (may_begin p) (string s) k after_value n value
token_more p (number s) b k n opened value keyed = allowed_more (may_begin p) (number s) k after_value n value
token_more p (boolean v) b k n opened value keyed = allowed_more (may_begin p) (boolean v) k after_value n value
token_more p null b k n opened value keyed = allowed_more (may_begin p) null k after_value n value
token_more p bad b k n opened value keyed = omega arith

keyed_within : (ls : List Lexeme) → length (punctuate after_key ls) ≤ length ls + missing after_key ls → begins_colon ls ≡ true → length (punctuate after_key ls) ≤ length ls
keyed_within ls h colons = let e = none_missing ls colons in omega (arith, h, e)

placed_within : (ls : List Lexeme) (p : Place) (t : Token) (k : Place → List Token) → length (k fresh) ≤ length ls + 0 → length (k after_value) ≤ length ls + 0 → (begins_colon ls ≡ true → length (k after_key) ≤ length ls)
    → length (place_token p t (begins_colon ls) k) ≤ suc (length ls)
placed_within ls p t k opened value keyed = token_more p t (begins_colon ls) k (length ls) (omega (arith, opened)) (omega (arith, value)) keyed

length-punctuate : (ls : List Lexeme) (p : Place) → length (punctuate p ls) ≤ length ls + missing p ls
unfolding punctuate
length-punctuate [] fresh = omega arith
length-punctuate [] after_value = omega arith
length-punctuate [] after_comma = omega arith
length-punctuate [] after_key = omega arith
length-punctuate (token t ∷ ls) fresh =
    let h = placed_within ls fresh t (λ n. punctuate n ls) (length-punctuate ls fresh) (length-punctuate ls after_value) (keyed_within ls (length-punctuate ls after_key)) in
    omega (arith, h)
length-punctuate (token t ∷ ls) after_value =
    let h = placed_within ls after_value t (λ n. punctuate n ls) (length-punctuate ls fresh) (length-punctuate ls after_value) (keyed_within ls (length-punctuate ls after_key)) in
    omega (arith, h)
length-punctuate (token t ∷ ls) after_comma =
    let h = placed_within ls after_comma t (λ n. punctuate n ls) (length-punctuate ls fresh) (length-punctuate ls after_value) (keyed_within ls (length-punctuate ls after_key)) in
    omega (arith, h)
length-punctuate (token t ∷ ls) after_key =
    let h = placed_within ls after_key t (λ n. punctuate n ls) (length-punctuate ls fresh) (length-punctuate ls after_value) (keyed_within ls (length-punctuate ls after_key)) in
    omega (arith, h)
length-punctuate (comma ∷ ls) fresh = omega arith
length-punctuate (comma ∷ ls) after_value = let h = length-punctuate ls after_comma in omega (arith, h)
length-punctuate (comma ∷ ls) after_comma = omega arith
length-punctuate (comma ∷ ls) after_key = omega arith
length-punctuate (colon ∷ ls) fresh = omega arith
length-punctuate (colon ∷ ls) after_value = omega arith
length-punctuate (colon ∷ ls) after_comma = omega arith
length-punctuate (colon ∷ ls) after_key = let h = length-punctuate ls fresh in omega (arith, h)

pub length-tokens : (text : List ℕ) → length (tokens text) ≤ length text
length-tokens text =
    let all = length-punctuate (lex between text) fresh in
    let each = length-lex text between in
    omega (arith, all, each)

-- ---- a value for each token at most

put_counted : (k : List ℕ) (d : Data) (ms : Members) → values_in_members (put k d ms) ≤ values_in d + values_in_members ms
put_counted k d no_members = omega arith
put_counted k d (has l e ms) = on (slice_cmp nat_cmp k l) (put_counted k d ms)
  where
    on : (o : Ordering) → values_in_members (put k d ms) ≤ values_in d + values_in_members ms
        → values_in_members (match_ordering o (has k d (has l e ms)) (has l d ms) (has l e (put k d ms))) ≤ values_in d + (values_in e + values_in_members ms)
    on Less later = omega arith
    on Equal later = omega arith
    on Greater later = omega (arith, later)

one_number : (o : Option Num) → HoldsOf (λ d. values_in d ≤ 1) (option_map values.number o)
one_number None = tt
one_number (Some n) = omega arith

weaker : {A : Type 0} (count : A → ℕ) (n m : ℕ) (o : Option A) → HoldsOf (λ a. suc (count a) ≤ n) o → n ≤ m → HoldsOf (λ a. suc (count a) ≤ m) o
weaker count n m None h le = tt
weaker count n m (Some a) h le = omega (arith, h, le)

mutual
  json_counted : (j : json.Json) → HoldsOf (λ d. values_in d ≤ length (json_tokens j)) (of_json j)
  json_counted json.null = omega arith
  json_counted (json.boolean b) = omega arith
  json_counted (json.number s) = one_number (number_of s)
  json_counted (json.string s) = omega arith
  json_counted (json.array js) = holds_map (λ ds. suc (values_in_items ds) ≤ length (items_tokens js)) (λ d. values_in d ≤ suc (length (items_tokens js))) values.array (λ ds h. omega (arith, h)) (of_items js) (items_counted js)
  json_counted (json.object ms) = holds_map (λ found. suc (values_in_members found) ≤ length (members_tokens ms) + 0) (λ d. values_in d ≤ suc (length (members_tokens ms))) values.object (λ found h. omega (arith, h)) (of_members ms no_members) (members_counted ms no_members)

  items_counted : (js : json.Items) → HoldsOf (λ ds. suc (values_in_items ds) ≤ length (items_tokens js)) (of_items js)
  items_counted json.no_items = omega arith
  items_counted (json.item j js) =
      holds_then (λ d. values_in d ≤ length (json_tokens j)) (λ ds. suc (values_in_items ds) ≤ length (json_tokens j ++ items_tokens js)) (λ d. option_map (values.item d) (of_items js))
      (λ d first. holds_map (λ ds. suc (values_in_items ds) ≤ length (items_tokens js)) (λ ds. suc (values_in_items ds) ≤ length (json_tokens j ++ items_tokens js)) (values.item d)
      (λ ds more. omega (arith, first, more, length-append (json_tokens j) (items_tokens js))) (of_items js) (items_counted js)) (of_json j) (json_counted j)

  members_counted : (ms : json.Members) (before : Members) → HoldsOf (λ found. suc (values_in_members found) ≤ length (members_tokens ms) + values_in_members before) (of_members ms before)
  members_counted json.no_members before = omega arith
  members_counted (json.member k j ms) before =
      holds_then (λ d. values_in d ≤ length (json_tokens j)) (λ found. suc (values_in_members found) ≤ suc (length (json_tokens j ++ members_tokens ms)) + values_in_members before)
      (λ d. of_members ms (put k d before))
      (λ d first. weaker values_in_members (length (members_tokens ms) + values_in_members (put k d before)) (suc (length (json_tokens j ++ members_tokens ms)) + values_in_members before) (of_members ms (put k d before)) (members_counted ms (put k d before)) (omega (arith, first, put_counted k d before, length-append (json_tokens j) (members_tokens ms)))) (of_json j) (json_counted j)

whole_counted : (text : List ℕ) (o : Option (json.Json × List Token)) → ((j : json.Json) (rest : List Token) → o ≡ Some (j, rest) → tokens text ≡ json_tokens j ++ rest)
    → HoldsOf (λ d. values_in d ≤ length (tokens text)) (option_and_then of_json (option_and_then (λ p. json.if_last p.0 p.1) o))
whole_counted text None spelled = tt
whole_counted text (Some (j, t ∷ rest)) spelled = tt
whole_counted text (Some (j, [])) spelled =
    let same : tokens text ≡ json_tokens j = spelled j [] refl ∙ append-nil (json_tokens j) in
    subst (λ (ts : List Token). HoldsOf (λ d. values_in d ≤ length ts) (of_json j)) (sym same) (json_counted j)

pub values_within : (text : List ℕ) (d : Data) → read text ≡ Some d → values_in d ≤ length text
values_within text d is =
    let spelled = λ (j : json.Json) (rest : List Token) (e : json.value max_depth (tokens text) ≡ Some (j, rest)). value-json_tokens_back max_depth (tokens text) rest j e in
    let counted : values_in d ≤ length (tokens text) = subst (HoldsOf (λ d. values_in d ≤ length (tokens text))) is (whole_counted text (json.value max_depth (tokens text)) spelled) in
    let fits = length-tokens text in
    omega (arith, counted, fits)
