-- The text of an event with attributes is read back as that event.
use Rattle.std.proofs.Common.{◌+◌, ◌≡◌, ◌≢◌, ℕ, ℤ, pos, negsuc, ◌^◌, ◌<◌, ◌≤◌, List, [], ◌∷◌, ◌++◌, Bool, true, false, Option, Some, option_map, option_and_then, Ordering, refl, sym, ap, ◌∙◌, subst, arith, append_assoc, append-nil, lt-ltb, nat_cmp}
use Rattle.std.specs.Prelude.{FitsSigned}
use Rattle.std.specs.Int.{w64}
use Rattle.std.specs.Fmt.{signed_decimal}
use Rattle.std.specs.Ordering.{ordering_reverse}
use Rattle.std.specs.Cmp.Lexicographic.{slice_cmp}
use Rattle.std.specs.List.{AllByRecursion}
use Rattle.std.specs.List.Sorted.{IsStrictlySortedBy}
use Rattle.std.specs.declared.cmp.Ordering.TheVariants.{Less, Greater}
use Rattle.std.proofs.lemmas.Bool.{or_parts}
use Rattle.std.proofs.lemmas.Cmp.{nat_list_cmp_total}
use Rattle.std.proofs.lemmas.List.Elements.{All-weaker}
use Rattle.base64.specs.GeneralPurpose.{encode_of}
use Rattle.base64.specs.Engines.{standard}
use Rattle.json.specs.Json as json
use Rattle.json.specs.Lex.{tokens}
use Rattle.json.specs.Print.{print, print_from, quoted, separator, token_text}
use Rattle.json.specs.Token.{Token, begin_object, end_object}
use Rattle.json.specs.Token as token
use Rattle.json.specs.Tree as tree
use Rattle.json.proofs.Printed.Tokens.{tokens-print, print_from_push}
use Rattle.json.proofs.Printed.Trees.{value-json_tokens, ArePrintable-json_tokens}
use Rattle.serde_json.specs.Data.{Data, null, boolean, number, string, array, object, Items, no_items, item, Members, no_members, member, put}
use Rattle.serde_json.specs.Find.{as_i64, of_integer}
use Rattle.serde_json.specs.Read.{read, max_depth, number_of, of_json, of_items, of_members}
use Rattle.serde_json.proofs.Numbers.{number_of-decimal, number_of-negative}
use Rattle.trace_model.specs.declared.value.Value.{Value, Text, Truth, Number, Eight, Bytes, List as Several, Map as Named, List', Map', Nothing, Row_of-Value, end_of-Value, more_of-Value, Row_of-Value-Map-0-2, end_of-Value-Map-0-2, more_of-Value-Map-0-2}
use Rattle.trace_model.specs.Attributes.{Rise}
use Rattle.trace_model.specs.EventTexts.{IsEventText, in_braces, event_text, value_of_json, values_of_json, pairs_of_json, bytes_as_texts, texts_in_each, texts_in_pairs, with_texts, holds_double}
use Rattle.trace_model.specs.Proper.{IsProperValue, IsProperEach, IsProperEachPair, AreProper}
use Rattle.trace_model.specs.Values.{depth, keys_of_row, MapsRise, MapsRiseInEach, MapsRiseInPairs, IsSound, AreSound, most_levels}
use Rattle.trace_model.specs.ValueTexts.{has_double, double_in_each, double_in_pairs, json_of, json_of_each, json_of_pairs}
use Rattle.trace_model.proofs.DoubleRows.{map_double}
use Rattle.trace_model.proofs.EventBytes.{pairs_texts, sound_texts}
use Rattle.trace_model.proofs.EventBytes as bytes
use Rattle.trace_model.proofs.EventLemmas.{member_print}
use Rattle.trace_model.proofs.ProperRows.{map_proper}
use Rattle.trace_model.proofs.Rows.{map_depth, map_rises}
use Rattle.trace_model.proofs.TextLaws.{has_numbers, no_deeper}

abbrev cmp : List ℕ → List ℕ → Ordering
cmp = slice_cmp nat_cmp

-- ---- the JSON value of a value

abbrev mutual
  data_of : Value → Data
  data_of (Text text) = string text
  data_of (Truth truth) = boolean truth
  data_of (Number n) = number (of_integer n)
  data_of (Eight double) = null
  data_of (Bytes held) = string (encode_of standard held)
  data_of (List' shape members) = array (items_in members)
  data_of (Map' shape members) = object (members_in members)
  data_of Nothing = null

  items_in : {n : _} → Row_of-Value n → Items
  items_in end_of-Value = no_items
  items_in (more_of-Value value rest) = item (data_of value) (items_in rest)

  members_in : {n : _} → Row_of-Value-Map-0-2 n → Members
  members_in end_of-Value-Map-0-2 = no_members
  members_in (more_of-Value-Map-0-2 key value rest) = member key (data_of value) (members_in rest)

-- ---- numbers

pub number_back : (n : ℤ) → FitsSigned w64 n → number_of (signed_decimal n) ≡ Some (of_integer n)
number_back (pos n) h = let low : n < 2 ^ 63 = h.sfits in number_of-decimal n (omega arith)
number_back (negsuc n) h = number_of-negative n h.sfits

integer_back : (n : ℤ) → FitsSigned w64 n → as_i64 (of_integer n) ≡ Some n
integer_back (pos n) h = rw (lt-ltb n (2 ^ 63) h.sfits) refl
integer_back (negsuc n) h = refl

-- ---- members that rise are put in one behind the other

abbrev pub names : Members → List (List ℕ)
names no_members = []
names (member k d ms) = k ∷ names ms

abbrev behind : Members → Members → Members
behind no_members ms = ms
behind (member k d fs) ms = member k d (behind fs ms)

all_behind : (fs : Members) → fs ≡ behind fs no_members
all_behind no_members = refl
all_behind (member k d fs) = ap (member k d) (all_behind fs)

behind_one : (fs : Members) (k : List ℕ) (d : Data) (ms : Members) → behind (behind fs (member k d no_members)) ms ≡ behind fs (member k d ms)
behind_one no_members k d ms = refl
behind_one (member l e fs) k d ms = ap (member l e) (behind_one fs k d ms)

names_one : (fs : Members) (k : List ℕ) (d : Data) (ks : List (List ℕ)) → names (behind fs (member k d no_members)) ++ ks ≡ names fs ++ k ∷ ks
names_one no_members k d ks = refl
names_one (member l e fs) k d ks = ap (λ l'. l ∷ l') (names_one fs k d ks)

below_middle : (l : List ℕ) (xs : List (List ℕ)) (k : List ℕ) (ks : List (List ℕ)) → AllByRecursion (λ y. cmp l y ≡ Less) (xs ++ k ∷ ks) → cmp l k ≡ Less
below_middle l [] k ks h = h.0
below_middle l (x ∷ xs) k ks h = below_middle l xs k ks h.1

put_at_end : (fs : Members) (k : List ℕ) (d : Data) (ks : List (List ℕ)) → Rise (names fs ++ k ∷ ks) → put k d fs ≡ behind fs (member k d no_members)
unfolding IsStrictlySortedBy
put_at_end no_members k d ks up = refl
put_at_end (member l e fs) k d ks up =
    let above : cmp k l ≡ Greater = nat_list_cmp_total.antisymm k l ∙ ap ordering_reverse (below_middle l (names fs) k ks up.0) in
    rw above (ap (member l e) (put_at_end fs k d ks up.1))

-- ---- the JSON is read as that value

mutual
  read_value : (value : Value) → IsProperValue value → MapsRise value → of_json (json_of value) ≡ Some (data_of value)
  read_value (Text text) p r = refl
  read_value (Truth truth) p r = refl
  read_value (Number n) p r = ap (option_map number) (number_back n p)
  read_value (Eight double) p r = refl
  read_value (Bytes held) p r = refl
  read_value (List' shape members) p r = ap (option_map array) (read_each _ members p r)
  read_value (Map' shape members) p r = ap (option_map object) (read_pairs _ members no_members p r.1 r.0)
  read_value Nothing p r = refl

  read_each : (n : _) (row : Row_of-Value n) → IsProperEach row → MapsRiseInEach row → of_items (json_of_each row) ≡ Some (items_in row)
  read_each n end_of-Value p r = refl
  read_each n (more_of-Value value rest) p r = rw (read_value value p.0 r.0, read_each _ rest p.1 r.1) refl

  read_pairs : (n : _) (row : Row_of-Value-Map-0-2 n) (fs : Members) → IsProperEachPair row → MapsRiseInPairs row → Rise (names fs ++ keys_of_row row)
      → of_members (json_of_pairs row) fs ≡ Some (behind fs (members_in row))
  read_pairs n end_of-Value-Map-0-2 fs p r up = ap Some (all_behind fs)
  read_pairs n (more_of-Value-Map-0-2 key value rest) fs p r up =
      ap (option_and_then (λ d. of_members (json_of_pairs rest) (put key d fs))) (read_value value p.1 r.0)
      ∙ ap (of_members (json_of_pairs rest)) (put_at_end fs key (data_of value) (keys_of_row rest) up)
      ∙ read_pairs _ rest (behind fs (member key (data_of value) no_members)) p.2 r.1 (subst Rise (sym (names_one fs key (data_of value) (keys_of_row rest))) up)
      ∙ ap Some (behind_one fs key (data_of value) (members_in rest))

-- ---- and that value stands for the value with texts for bytes

mutual
  value_back : (value : Value) → IsProperValue value → has_double value ≡ false → value_of_json (data_of value) ≡ Some (bytes_as_texts value)
  value_back (Text text) p h = refl
  value_back (Truth truth) p h = refl
  value_back (Number n) p h = ap (option_map Number) (integer_back n p)
  value_back (Eight double) p h = absurd (cc)
  value_back (Bytes held) p h = refl
  value_back (List' shape members) p h = ap (option_map Several) (values_back _ members p h)
  value_back (Map' shape members) p h = ap (option_map Named) (pairs_back _ members p h)
  value_back Nothing p h = refl

  values_back : (n : _) (row : Row_of-Value n) → IsProperEach row → double_in_each row ≡ false → values_of_json (items_in row) ≡ Some (texts_in_each row)
  values_back n end_of-Value p h = refl
  values_back n (more_of-Value value rest) p h =
      let none = or_parts (has_double value) _ h in rw (value_back value p.0 none.0, values_back _ rest p.1 none.1) refl

  pairs_back : (n : _) (row : Row_of-Value-Map-0-2 n) → IsProperEachPair row → double_in_pairs row ≡ false → pairs_of_json (members_in row) ≡ Some (texts_in_pairs row)
  pairs_back n end_of-Value-Map-0-2 p h = refl
  pairs_back n (more_of-Value-Map-0-2 key value rest) p h =
      let none = or_parts (has_double value) _ h in rw (value_back value p.1 none.0, pairs_back _ rest p.2 none.1) refl

-- ---- the text in braces

abbrev whole : Option (json.Json × List Token) → Option Data
whole o = option_and_then of_json (option_and_then (λ p. json.if_last p.0 p.1) o)

closing : (after : Bool) → separator after end_object ++ token_text end_object ≡ 125 ∷ []
closing true = refl
closing false = refl

braced : (name : List ℕ) (ts : List Token) → in_braces (quoted name ++ 58 ∷ print ts) ≡ print (begin_object ∷ token.key name ∷ (ts ++ end_object ∷ []))
unfolding print_from
braced name ts =
    ap (λ (l : List ℕ). 123 ∷ l)
    (append_assoc (quoted name) (58 ∷ print ts) (125 ∷ [])
    ∙ ap (λ (l : List ℕ). quoted name ++ 58 ∷ l) (sym (print_from_push false ts end_object ∙ ap (λ (l : List ℕ). print ts ++ l) (closing _)))
    ∙ sym (member_print name (ts ++ end_object ∷ [])))

module _ (name : List ℕ) (value : Value) (proper : IsProperValue value) (rising : MapsRise value) (shallow : depth value ≤ most_levels + 1) where
  abbrev member_of : json.Json
  member_of = json.object (json.member name (json_of value) json.no_members)

  of_member : of_json member_of ≡ Some (object (member name (data_of value) no_members))
  of_member = rw (read_value value proper rising) refl

  read_member : read (in_braces (quoted name ++ 58 ∷ print (tree.json_tokens (json_of value)))) ≡ Some (object (member name (data_of value) no_members))
  read_member =
      ap whole (ap (json.value max_depth) (ap tokens (braced name (tree.json_tokens (json_of value)))
      ∙ tokens-print (tree.json_tokens member_of) (ArePrintable-json_tokens member_of (has_numbers value proper, tt)) ∙ sym (append-nil (tree.json_tokens member_of)))
      ∙ value-json_tokens member_of max_depth [] (omega (arith, no_deeper value, shallow)))
      ∙ of_member

module _ (attributes : List (List ℕ × Value)) (proper : AreProper attributes) (sound : AreSound attributes) where
  proper_map : IsProperValue (Named attributes)
  proper_map = (map_proper attributes).1 proper

  rising_map : MapsRise (Named attributes)
  rising_map = (map_rises attributes).1
      (sound.rising, All-weaker (λ (pair : List ℕ × Value). IsSound pair.1) (λ (pair : List ℕ × Value). MapsRise pair.1) (λ pair s. s.rising) attributes sound.values)

  shallow_map : depth (Named attributes) ≤ most_levels + 1
  shallow_map = (map_depth most_levels attributes).1
      (All-weaker (λ (pair : List ℕ × Value). IsSound pair.1) (λ (pair : List ℕ × Value). depth pair.1 ≤ most_levels) (λ pair s. s.shallow) attributes sound.values)

  back : (name : List ℕ) → with_texts attributes ≢ [] → holds_double attributes ≡ false
      → IsEventText (quoted name ++ 58 ∷ print (tree.json_tokens (json_of (Named attributes)))) name (with_texts attributes)
  back name some none =
      let row = bytes.pairs_of (Named attributes) in
      record {
        json = object (member name (data_of (Named attributes)) no_members);
        reading = read_member name (Named attributes) proper_map rising_map shallow_map;
        event = record {
          members = members_in row.1;
          one = refl;
          values = pairs_back row.0 row.1 proper_map (map_double attributes ∙ none) ∙ ap Some (pairs_texts attributes);
          some = some;
          sound = sound_texts attributes sound;
        };
      }

pub read_back : (name : List ℕ) (attributes : List (List ℕ × Value)) → AreProper attributes → AreSound attributes → attributes ≢ []
    → holds_double attributes ≡ false → IsEventText (event_text name attributes) name (with_texts attributes)
read_back name [] proper sound some none = absurd (some refl)
read_back name (pair ∷ pairs) proper sound some none = back (pair ∷ pairs) proper sound name (λ e. cc) none
