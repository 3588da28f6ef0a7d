-- Values with texts in the place of bytes.
use Rattle.std.proofs.Common.{◌≡◌, ℕ, ◌≤◌, List, [], ◌∷◌, ◌++◌, map, All, ◌||◌, refl, sym, ap, ap₂, ◌∙◌, subst, arith}
use Rattle.std.specs.List.{list_any}
use Rattle.std.proofs.lemmas.List.Elements.{All-nil, All-cons, All-map, All-weaker}
use Rattle.std.proofs.lemmas.Str.{IsUtf8-from_ascii}
use Rattle.base64.specs.GeneralPurpose.{encode_of}
use Rattle.base64.specs.Engines.{standard}
use Rattle.base64.proofs.EngineFacts.{IsAscii-encode_of}
use mathlib.Core.Former.{Count}
use Rattle.json.specs.Json as json
use Rattle.json.specs.Print.{print, quoted}
use Rattle.json.specs.Tree.{json_tokens}
use Rattle.trace_model.specs.declared.value.Value.{Value, Text, Truth, Number, Eight, Bytes, List as Several, Map as Named, List', Map', Nothing, Row_of-Value, end_of-Value, more_of-Value, Row_of-Value-Map-0-2, end_of-Value-Map-0-2, more_of-Value-Map-0-2, items-the_row-Value, items-the_row-Value-Map-0-2, items_hidden-the_row-Value-0, items_hidden-the_row-Value-Map-0-2-1}
use Rattle.trace_model.specs.Attributes.{Rise, keys}
use Rattle.trace_model.specs.EventTexts.{bytes_as_texts, texts_in_each, texts_in_pairs, with_texts, event_text, holds_double}
use Rattle.trace_model.specs.Proper.{IsProperValue, IsProperEach, IsProperEachPair, IsProperPair, AreProper}
use Rattle.trace_model.specs.Values.{depth, deepest, deepest_of_pairs, keys_of_row, MapsRise, MapsRiseInEach, MapsRiseInPairs, IsSound, AreSound}
use Rattle.trace_model.specs.ValueTexts.{has_double, double_in_each, double_in_pairs, json_of, json_of_each, json_of_pairs}
use Rattle.trace_model.proofs.DoubleRows.{pair_has_double, list_double, map_double}
use Rattle.trace_model.proofs.Rows.{list_depth, map_depth, list_rises, map_rises}
use Rattle.trace_model.proofs.ProperRows.{list_proper, map_proper}

abbrev row_of : Value → (n : Count) × Row_of-Value n
row_of (List' _ row) = (_, row)
row_of _ = (_, end_of-Value)

abbrev pub pairs_of : Value → (n : Count) × Row_of-Value-Map-0-2 n
pairs_of (Map' _ row) = (_, row)
pairs_of _ = (_, end_of-Value-Map-0-2)

abbrev pair_texts : List ℕ × Value → List ℕ × Value
pair_texts pair = (pair.0, bytes_as_texts pair.1)

-- ---- of a list or map, by its members

each_row : (n : _) (row : Row_of-Value n) → texts_in_each row ≡ map bytes_as_texts (items-the_row-Value n row)
each_row n end_of-Value = refl
each_row n (more_of-Value value rest) = ap (λ l. bytes_as_texts value ∷ l) (each_row _ rest)

pairs_row : (n : _) (row : Row_of-Value-Map-0-2 n) → texts_in_pairs row ≡ with_texts (items-the_row-Value-Map-0-2 n row)
pairs_row n end_of-Value-Map-0-2 = refl
pairs_row n (more_of-Value-Map-0-2 key value rest) = ap (λ l. (key, bytes_as_texts value) ∷ l) (pairs_row _ rest)

pub list_texts : (members : List Value) → bytes_as_texts (Several members) ≡ Several (map bytes_as_texts members)
list_texts members =
    let row = row_of (Several members) in
    ap Several (each_row row.0 row.1 ∙ ap (map bytes_as_texts) (items_hidden-the_row-Value-0 members))

-- the pairs of the row of a map
pub pairs_texts : (pairs : List (List ℕ × Value)) → texts_in_pairs (pairs_of (Named pairs)).1 ≡ with_texts pairs
pairs_texts pairs =
    let row = pairs_of (Named pairs) in
    pairs_row row.0 row.1 ∙ ap with_texts (items_hidden-the_row-Value-Map-0-2-1 pairs)

pub map_texts : (pairs : List (List ℕ × Value)) → bytes_as_texts (Named pairs) ≡ Named (with_texts pairs)
map_texts pairs = ap Named (pairs_texts pairs)

-- ---- again

mutual
  value_again : (value : Value) → bytes_as_texts (bytes_as_texts value) ≡ bytes_as_texts value
  value_again (Text text) = refl
  value_again (Truth truth) = refl
  value_again (Number n) = refl
  value_again (Eight double) = refl
  value_again (Bytes held) = refl
  value_again (List' shape members) = list_texts (texts_in_each members) ∙ ap Several (each_again _ members)
  value_again (Map' shape members) = map_texts (texts_in_pairs members) ∙ ap Named (pairs_again _ members)
  value_again Nothing = refl

  each_again : (n : _) (row : Row_of-Value n) → map bytes_as_texts (texts_in_each row) ≡ texts_in_each row
  each_again n end_of-Value = refl
  each_again n (more_of-Value value rest) = ap₂ (λ v l. v ∷ l) (value_again value) (each_again _ rest)

  pairs_again : (n : _) (row : Row_of-Value-Map-0-2 n) → with_texts (texts_in_pairs row) ≡ texts_in_pairs row
  pairs_again n end_of-Value-Map-0-2 = refl
  pairs_again n (more_of-Value-Map-0-2 key value rest) = ap₂ (λ v l. (key, v) ∷ l) (value_again value) (pairs_again _ rest)

pub again : (attributes : List (List ℕ × Value)) → with_texts (with_texts attributes) ≡ with_texts attributes
again [] = refl
again (pair ∷ pairs) = ap₂ (λ v l. (pair.0, v) ∷ l) (value_again pair.1) (again pairs)

-- ---- the same JSON

abbrev pub items_json : List Value → json.Items
items_json [] = json.no_items
items_json (value ∷ values) = json.item (json_of value) (items_json values)

abbrev pub members_json : List (List ℕ × Value) → json.Members
members_json [] = json.no_members
members_json (pair ∷ pairs) = json.member pair.0 (json_of pair.1) (members_json pairs)

json_row : (n : _) (row : Row_of-Value n) → json_of_each row ≡ items_json (items-the_row-Value n row)
json_row n end_of-Value = refl
json_row n (more_of-Value value rest) = ap (json.item (json_of value)) (json_row _ rest)

json_pairs : (n : _) (row : Row_of-Value-Map-0-2 n) → json_of_pairs row ≡ members_json (items-the_row-Value-Map-0-2 n row)
json_pairs n end_of-Value-Map-0-2 = refl
json_pairs n (more_of-Value-Map-0-2 key value rest) = ap (json.member key (json_of value)) (json_pairs _ rest)

pub list_json : (members : List Value) → json_of (Several members) ≡ json.array (items_json members)
list_json members =
    let row = row_of (Several members) in
    ap json.array (json_row row.0 row.1 ∙ ap items_json (items_hidden-the_row-Value-0 members))

pub map_json : (pairs : List (List ℕ × Value)) → json_of (Named pairs) ≡ json.object (members_json pairs)
map_json pairs =
    let row = pairs_of (Named pairs) in
    ap json.object (json_pairs row.0 row.1 ∙ ap members_json (items_hidden-the_row-Value-Map-0-2-1 pairs))

mutual
  same_json : (value : Value) → json_of (bytes_as_texts value) ≡ json_of value
  same_json (Text text) = refl
  same_json (Truth truth) = refl
  same_json (Number n) = refl
  same_json (Eight double) = refl
  same_json (Bytes held) = refl
  same_json (List' shape members) = list_json (texts_in_each members) ∙ ap json.array (same_each _ members)
  same_json (Map' shape members) = map_json (texts_in_pairs members) ∙ ap json.object (same_pairs _ members)
  same_json Nothing = refl

  same_each : (n : _) (row : Row_of-Value n) → items_json (texts_in_each row) ≡ json_of_each row
  same_each n end_of-Value = refl
  same_each n (more_of-Value value rest) = ap₂ json.item (same_json value) (same_each _ rest)

  same_pairs : (n : _) (row : Row_of-Value-Map-0-2 n) → members_json (texts_in_pairs row) ≡ json_of_pairs row
  same_pairs n end_of-Value-Map-0-2 = refl
  same_pairs n (more_of-Value-Map-0-2 key value rest) = ap₂ (json.member key) (same_json value) (same_pairs _ rest)

pub same_text : (name : List ℕ) (attributes : List (List ℕ × Value)) → event_text name (with_texts attributes) ≡ event_text name attributes
same_text name [] = refl
same_text name (pair ∷ pairs) =
    ap (λ j. quoted name ++ 58 ∷ print (json_tokens j)) (ap json_of (sym (map_texts (pair ∷ pairs))) ∙ same_json (Named (pair ∷ pairs)))

-- ---- doubles

mutual
  same_double : (value : Value) → has_double (bytes_as_texts value) ≡ has_double value
  same_double (Text text) = refl
  same_double (Truth truth) = refl
  same_double (Number n) = refl
  same_double (Eight double) = refl
  same_double (Bytes held) = refl
  same_double (List' shape members) = list_double (texts_in_each members) ∙ double_each _ members
  same_double (Map' shape members) = map_double (texts_in_pairs members) ∙ double_pairs _ members
  same_double Nothing = refl

  double_each : (n : _) (row : Row_of-Value n) → list_any has_double (texts_in_each row) ≡ double_in_each row
  double_each n end_of-Value = refl
  double_each n (more_of-Value value rest) = ap₂ (λ a b. a || b) (same_double value) (double_each _ rest)

  double_pairs : (n : _) (row : Row_of-Value-Map-0-2 n) → list_any pair_has_double (texts_in_pairs row) ≡ double_in_pairs row
  double_pairs n end_of-Value-Map-0-2 = refl
  double_pairs n (more_of-Value-Map-0-2 key value rest) = ap₂ (λ a b. a || b) (same_double value) (double_pairs _ rest)

pub same_doubles : (attributes : List (List ℕ × Value)) → holds_double (with_texts attributes) ≡ holds_double attributes
same_doubles [] = refl
same_doubles (pair ∷ pairs) = ap₂ (λ a b. a || b) (same_double pair.1) (same_doubles pairs)

-- ---- soundness

abbrev Shallow : ℕ → Value → Type 0
Shallow n value = depth value ≤ n

abbrev ShallowPair : ℕ → List ℕ × Value → Type 0
ShallowPair n pair = depth pair.1 ≤ n

mutual
  no_deeper : (value : Value) → depth (bytes_as_texts value) ≤ depth value
  no_deeper (Text text) = omega arith
  no_deeper (Truth truth) = omega arith
  no_deeper (Number n) = omega arith
  no_deeper (Eight double) = omega arith
  no_deeper (Bytes held) = omega arith
  no_deeper (List' shape members) = (list_depth (deepest members) (texts_in_each members)).1 (each_no_deeper (deepest members) _ members (omega arith))
  no_deeper (Map' shape members) = (map_depth (deepest_of_pairs members) (texts_in_pairs members)).1 (pairs_no_deeper (deepest_of_pairs members) _ members (omega arith))
  no_deeper Nothing = omega arith

  each_no_deeper : (d : ℕ) (n : _) (row : Row_of-Value n) → deepest row ≤ d → All (λ value. depth value ≤ d) (texts_in_each row)
  each_no_deeper d n end_of-Value low = All-nil (Shallow d)
  each_no_deeper d n (more_of-Value value rest) low =
      All-cons (Shallow d) (bytes_as_texts value) (texts_in_each rest) (omega (arith, no_deeper value)) (each_no_deeper d _ rest (omega arith))

  pairs_no_deeper : (d : ℕ) (n : _) (row : Row_of-Value-Map-0-2 n) → deepest_of_pairs row ≤ d → All (λ pair. depth pair.1 ≤ d) (texts_in_pairs row)
  pairs_no_deeper d n end_of-Value-Map-0-2 low = All-nil (ShallowPair d)
  pairs_no_deeper d n (more_of-Value-Map-0-2 key value rest) low =
      All-cons (ShallowPair d) (key, bytes_as_texts value) (texts_in_pairs rest) (omega (arith, no_deeper value)) (pairs_no_deeper d _ rest (omega arith))

same_keys : (n : _) (row : Row_of-Value-Map-0-2 n) → keys_of_row row ≡ keys (texts_in_pairs row)
same_keys n end_of-Value-Map-0-2 = refl
same_keys n (more_of-Value-Map-0-2 key value rest) = ap (λ l. key ∷ l) (same_keys _ rest)

abbrev RisesPair : List ℕ × Value → Type 0
RisesPair pair = MapsRise pair.1

mutual
  still_rises : (value : Value) → MapsRise value → MapsRise (bytes_as_texts value)
  still_rises (Text text) h = h
  still_rises (Truth truth) h = h
  still_rises (Number n) h = h
  still_rises (Eight double) h = h
  still_rises (Bytes held) h = h
  still_rises (List' shape members) h = (list_rises (texts_in_each members)).1 (each_rises _ members h)
  still_rises (Map' shape members) h = (map_rises (texts_in_pairs members)).1 (subst Rise (same_keys _ members) h.0, pairs_rise _ members h.1)
  still_rises Nothing h = h

  each_rises : (n : _) (row : Row_of-Value n) → MapsRiseInEach row → All MapsRise (texts_in_each row)
  each_rises n end_of-Value h = All-nil MapsRise
  each_rises n (more_of-Value value rest) h = All-cons MapsRise (bytes_as_texts value) (texts_in_each rest) (still_rises value h.0) (each_rises _ rest h.1)

  pairs_rise : (n : _) (row : Row_of-Value-Map-0-2 n) → MapsRiseInPairs row → All (λ pair. MapsRise pair.1) (texts_in_pairs row)
  pairs_rise n end_of-Value-Map-0-2 h = All-nil RisesPair
  pairs_rise n (more_of-Value-Map-0-2 key value rest) h =
      All-cons RisesPair (key, bytes_as_texts value) (texts_in_pairs rest) (still_rises value h.0) (pairs_rise _ rest h.1)

keys_stay : (attributes : List (List ℕ × Value)) → keys attributes ≡ keys (with_texts attributes)
keys_stay [] = refl
keys_stay (pair ∷ pairs) = ap (λ l. pair.0 ∷ l) (keys_stay pairs)

abbrev SoundPair : List ℕ × Value → Type 0
SoundPair pair = IsSound pair.1

still_sound : (pair : List ℕ × Value) → IsSound pair.1 → IsSound (bytes_as_texts pair.1)
still_sound pair s = record { shallow = omega (arith, no_deeper pair.1, s.shallow); rising = still_rises pair.1 s.rising }

pub sound_texts : (attributes : List (List ℕ × Value)) → AreSound attributes → AreSound (with_texts attributes)
sound_texts attributes s = record {
  rising = subst Rise (keys_stay attributes) s.rising;
  values = All-map SoundPair pair_texts attributes (All-weaker SoundPair (λ (pair : List ℕ × Value). IsSound (bytes_as_texts pair.1)) still_sound attributes s.values);
}

-- ---- properness

mutual
  still_proper : (value : Value) → IsProperValue value → IsProperValue (bytes_as_texts value)
  still_proper (Text text) h = h
  still_proper (Truth truth) h = h
  still_proper (Number n) h = h
  still_proper (Eight double) h = h
  still_proper (Bytes held) h = IsUtf8-from_ascii (encode_of standard held) (IsAscii-encode_of standard held)
  still_proper (List' shape members) h = (list_proper (texts_in_each members)).1 (each_proper _ members h)
  still_proper (Map' shape members) h = (map_proper (texts_in_pairs members)).1 (pairs_proper _ members h)
  still_proper Nothing h = h

  each_proper : (n : _) (row : Row_of-Value n) → IsProperEach row → All IsProperValue (texts_in_each row)
  each_proper n end_of-Value h = All-nil IsProperValue
  each_proper n (more_of-Value value rest) h = All-cons IsProperValue (bytes_as_texts value) (texts_in_each rest) (still_proper value h.0) (each_proper _ rest h.1)

  pairs_proper : (n : _) (row : Row_of-Value-Map-0-2 n) → IsProperEachPair row → AreProper (texts_in_pairs row)
  pairs_proper n end_of-Value-Map-0-2 h = All-nil IsProperPair
  pairs_proper n (more_of-Value-Map-0-2 key value rest) h =
      All-cons IsProperPair (key, bytes_as_texts value) (texts_in_pairs rest) (record { key = h.0; value = still_proper value h.1 }) (pairs_proper _ rest h.2)

proper_pair : (pair : List ℕ × Value) → IsProperPair pair → IsProperPair (pair_texts pair)
proper_pair pair p = record { key = p.key; value = still_proper pair.1 p.value }

pub proper_texts : (attributes : List (List ℕ × Value)) → AreProper attributes → AreProper (with_texts attributes)
proper_texts attributes p =
    All-map IsProperPair pair_texts attributes (All-weaker IsProperPair (λ (pair : List ℕ × Value). IsProperPair (pair_texts pair)) proper_pair attributes p)
