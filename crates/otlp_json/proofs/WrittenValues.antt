-- Values and attributes as they are written are read as themselves, with no key noted.
use Rattle.std.proofs.Common.{◌≡◌, ℕ, zero, suc, ◌+◌, ◌≤◌, ⊎_elim, inl, false, List, [], ◌∷◌, ◌++◌, map, All, get_or, codes, IsUtf8, refl, sym, ap, subst, ◌∙◌, arith}
use Rattle.std.specs.Prelude.{Contains}
use Rattle.base64.specs.GeneralPurpose.{encode_of}
use Rattle.base64.specs.Engines.{standard}
use Rattle.serde_json.specs.Data.{Data, Items, no_items, item}
use Rattle.serde_json.specs.View.{items_of}
use Rattle.span_io.specs.Paths.{Given}
use Rattle.trace_model.specs.Attributes.{Rise, keys, AreAttributes, AreRepeated}
use Rattle.trace_model.specs.EventTexts.{holds_double}
use Rattle.trace_model.specs.declared.noted.KeyValue.{KeyValue}
use Rattle.trace_model.specs.OtlpParts.{levels_below, NotedValue, leaf, entry}
use Rattle.trace_model.specs.Proper.{IsProperValue, AreProper}
use Rattle.trace_model.specs.Values.{depth, MapsRise, AreSound, most_levels}
use Rattle.trace_model.specs.ValueTexts.{has_double}
use Rattle.trace_model.specs.declared.value.Value.{Value, List as Several, Map as Named, List', Map', Row_of-Value, end_of-Value, more_of-Value, Row_of-Value-Map-0-2, end_of-Value-Map-0-2, more_of-Value-Map-0-2, items-the_row-Value, items-the_row-Value-Map-0-2, items_hidden-the_row-Value-0, items_hidden-the_row-Value-Map-0-2-1}
use Rattle.trace_model.specs.declared.value.Value.TheVariants as values
use mathlib.Core.Former.{Count}
use Rattle.trace_model.proofs.PartLaws.{by_variant, some_depth, quiet_key_value, values_back, values_quiet, pairs_back, pairs_quiet}
use Rattle.json_members.specs.Canonical.{MemberRow, text_data}
use Rattle.json_members.specs.Members.{unless_null, member, IsText}
use Rattle.json_members.proofs.MeaningLaws.{given_row, text_again}
use Rattle.otlp_json.specs.Attributes.{AreJsonAttributes}
use Rattle.otlp_json.specs.Canonical.{one_member, of_values, unless_bare, key_value_data, any_value_data, each_data, pairs_data, attributes_data}
use Rattle.otlp_json.specs.Values.{IsJsonList, IsJsonMap, IsJsonValue, standing_members, json_value_in, json_key_value_in, json_value_at, json_key_value_at}
use Rattle.otlp_json.proofs.NumbersAgain.{signed_again}
use Rattle.otlp_json.proofs.WrittenLaws.{Laws}
use Rattle.otlp_json.proofs.WrittenLists.{list_again, values_again, values_shape, none_passes}

-- ---- a list or map by its members

abbrev pub pair_data : List ℕ × Value → Data
pair_data pair = key_value_data pair.0 (any_value_data pair.1)

abbrev row_of : Value → (n : Count) × Row_of-Value n
row_of (List' _ row) = (_, row)
row_of _ = (_, end_of-Value)

abbrev pairs_of : Value → (n : Count) × Row_of-Value-Map-0-2 n
pairs_of (Map' _ row) = (_, row)
pairs_of _ = (_, end_of-Value-Map-0-2)

members_row : (n : _) (row : Row_of-Value n) → each_data row ≡ items_of (map any_value_data (items-the_row-Value n row))
members_row n end_of-Value = refl
members_row n (more_of-Value value rest) = ap (item (any_value_data value)) (members_row _ rest)

entries_row : (n : _) (row : Row_of-Value-Map-0-2 n) → pairs_data row ≡ items_of (map pair_data (items-the_row-Value-Map-0-2 n row))
entries_row n end_of-Value-Map-0-2 = refl
entries_row n (more_of-Value-Map-0-2 key value rest) = ap (item (pair_data (key, value))) (entries_row _ rest)

pub list_value : (members : List Value) → any_value_data (Several members) ≡ one_member (codes "arrayValue") (of_values (items_of (map any_value_data members)))
list_value members =
    let row = row_of (Several members) in
    ap (λ ds. one_member (codes "arrayValue") (of_values ds)) (members_row row.0 row.1 ∙ ap (λ l. items_of (map any_value_data l)) (items_hidden-the_row-Value-0 members))

pub map_value : (pairs : List (List ℕ × Value)) → any_value_data (Named pairs) ≡ one_member (codes "kvlistValue") (of_values (items_of (map pair_data pairs)))
map_value pairs =
    let row = pairs_of (Named pairs) in
    ap (λ ds. one_member (codes "kvlistValue") (of_values ds)) (entries_row row.0 row.1 ∙ ap (λ l. items_of (map pair_data l)) (items_hidden-the_row-Value-Map-0-2-1 pairs))

-- ---- a value that JSON can hold, at most d deep

pub record IsHeld (d : ℕ) (v : Value) : Type 0 where
  pub shallow : depth v ≤ d
  pub rising : MapsRise v
  pub proper : IsProperValue v
  pub no_double : has_double v ≡ false

pub record IsHeldPair (d : ℕ) (pair : List ℕ × Value) : Type 0 where
  pub key : IsUtf8 pair.0
  pub value : IsHeld d pair.1

pub not_held : (v : Value) → IsHeld 0 v → ⊥
not_held v h = omega (arith, some_depth v, h.shallow)

pub as_next : (left : ℕ) (v : Value) → IsHeld (suc left) v → IsHeld (left + 1) v
as_next left v h = record { shallow = omega (arith, h.shallow); rising = h.rising; proper = h.proper; no_double = h.no_double }

module _ (L : Laws) where
  pub held_members : (d : ℕ) (members : List Value) → IsHeld (d + 1) (values.List members) → All (IsHeld d) members
  held_members d members h = λ k v lt. record {
    shallow = (L.values.list_depth d members).0 h.shallow k v lt;
    rising = (L.values.list_rises members).0 h.rising k v lt;
    proper = (L.proper.list members).0 h.proper k v lt;
    no_double = none_passes has_double members (sym (L.texts.list_double members) ∙ h.no_double) k v lt;
  }

  pub held_pairs : (d : ℕ) (pairs : List (List ℕ × Value)) → IsHeld (d + 1) (values.Map pairs) → All (IsHeldPair d) pairs
  held_pairs d pairs h = λ k p lt. record {
    key = ((L.proper.map pairs).0 h.proper k p lt).key;
    value = record {
      shallow = (L.values.map_depth d pairs).0 h.shallow k p lt;
      rising = ((L.values.map_rises pairs).0 h.rising).1 k p lt;
      proper = ((L.proper.map pairs).0 h.proper k p lt).value;
      no_double = none_passes (λ pair. has_double pair.1) pairs (sym (L.texts.map_double pairs) ∙ h.no_double) k p lt;
    };
  }

pub held_attributes : (attributes : List (List ℕ × Value)) → AreSound attributes → AreProper attributes → holds_double attributes ≡ false → All (IsHeldPair most_levels) attributes
held_attributes attributes sound proper none = λ k p lt. record {
  key = (proper k p lt).key;
  value = record {
    shallow = (sound.values k p lt).shallow;
    rising = (sound.values k p lt).rising;
    proper = (proper k p lt).value;
    no_double = none_passes (λ pair. has_double pair.1) attributes none k p lt;
  };
}

-- ---- a value in its pair

module _ (IsValue : NotedValue → Data → Type 0) where
  module _ (v : Value) where
    abbrev GivenValue : Data → Type 0
    GivenValue d = Given IsValue (λ r. r ≡ leaf values.Nothing) (leaf v) (unless_null (unless_bare d))

  given_value : (v : Value) → IsValue (leaf v) (any_value_data v) → GivenValue v (any_value_data v)
  given_value = by_variant (λ v. IsValue (leaf v) (any_value_data v) → GivenValue v (any_value_data v)) (record {
    of_text = λ text h. h;
    of_truth = λ truth h. h;
    of_number = λ n h. h;
    of_eight = λ double h. h;
    of_bytes = λ held h. h;
    of_list = λ members. subst (λ d. IsValue (leaf (values.List members)) d → GivenValue (values.List members) d) (sym (list_value members)) (λ h. h);
    of_map = λ pairs. subst (λ d. IsValue (leaf (values.Map pairs)) d → GivenValue (values.Map pairs) d) (sym (map_value pairs)) (λ h. h);
    of_nothing = λ h. refl;
  })

abbrev pub pair_rows : List ℕ × Value → List MemberRow
pair_rows pair = (codes "key", text_data pair.0) ∷ (codes "value", unless_bare (any_value_data pair.1)) ∷ []

key_value_again : (left : ℕ) (pair : List ℕ × Value) → json_value_at left (leaf pair.1) (any_value_data pair.1) → json_key_value_at left (quiet_key_value pair) (pair_data pair)
key_value_again left pair h = record {
  shape = refl;
  key = given_row IsText (λ t. t ≡ []) pair.0 (codes "key") (pair_rows pair) (text_data pair.0) refl (text_again pair.0);
  value = given_row (json_value_at left) (λ r. r ≡ leaf values.Nothing) (leaf pair.1) (codes "value") (pair_rows pair) (unless_bare (any_value_data pair.1)) refl (given_value (json_value_at left) pair.1 h);
}

-- ---- lists and maps

module _ (IsValue : NotedValue → Data → Type 0) (IsPair : KeyValue → Data → Type 0) (r : NotedValue) where
  array_means : (ds : Items) → IsJsonList IsValue r (of_values ds) → IsJsonValue IsValue IsPair r (one_member (codes "arrayValue") (of_values ds))
  unfolding standing_members member
  array_means no_items h = record { shape = refl; value = h }
  array_means (item d ds) h = record { shape = refl; value = h }

  map_means : (ds : Items) → IsJsonMap IsPair r (of_values ds) → IsJsonValue IsValue IsPair r (one_member (codes "kvlistValue") (of_values ds))
  unfolding standing_members member
  map_means no_items h = record { shape = refl; value = h }
  map_means (item d ds) h = record { shape = refl; value = h }

-- the pairs of attributes, and of a map whose keys rise
module _ (L : Laws) (pairs : List (List ℕ × Value)) (rising : Rise (keys pairs)) where
  pairs_kept : AreAttributes pairs (map entry (map quiet_key_value pairs))
  pairs_kept = subst (λ l. AreAttributes pairs l) (sym (pairs_back pairs)) (L.rising.themselves pairs rising)

  pairs_unrepeated : AreRepeated [] (map entry (map quiet_key_value pairs))
  pairs_unrepeated = subst (λ l. AreRepeated [] l) (sym (pairs_back pairs)) (L.rising.unrepeated pairs rising)

module _ (L : Laws) (left : ℕ) (inner : (v : Value) → IsHeld left v → json_value_in left (leaf v) (any_value_data v)) where
  list_means : (members : List Value) → IsHeld (left + 1) (values.List members) → json_value_at left (leaf (values.List members)) (any_value_data (values.List members))
  list_means members h =
      let each : All (λ v. json_value_in left (leaf v) (any_value_data v)) members = λ k v lt. inner (get_or members k v) (held_members L left members h k v lt) in
      subst (json_value_at left (leaf (values.List members))) (sym (list_value members))
      (array_means (json_value_in left) (json_key_value_in left) (leaf (values.List members)) (items_of (map any_value_data members)) (record {
        shape = values_shape (items_of (map any_value_data members));
        members = map leaf members;
        each = values_again (json_value_in left) any_value_data leaf members each;
        make = record { value = ap values.List (sym (values_back members)); noted = sym (values_quiet members) };
      }))

  pair_in_again : (pair : List ℕ × Value) → IsHeldPair left pair → json_key_value_in left (quiet_key_value pair) (pair_data pair)
  unfolding json_value_in json_key_value_in
  pair_in_again pair h = on left (inner pair.1 h.value)
    where
      on : (l : ℕ) → json_value_in l (leaf pair.1) (any_value_data pair.1) → json_key_value_in l (quiet_key_value pair) (pair_data pair)
      on zero k = k
      on (suc l) k = key_value_again l pair k

  map_again : (pairs : List (List ℕ × Value)) → IsHeld (left + 1) (values.Map pairs) → json_value_at left (leaf (values.Map pairs)) (any_value_data (values.Map pairs))
  map_again pairs h =
      let rising = ((L.values.map_rises pairs).0 h.rising).0 in
      let each : All (λ p. json_key_value_in left (quiet_key_value p) (pair_data p)) pairs = λ k p lt. pair_in_again (get_or pairs k p) (held_pairs L left pairs h k p lt) in
      subst (json_value_at left (leaf (values.Map pairs))) (sym (map_value pairs))
      (map_means (json_value_in left) (json_key_value_in left) (leaf (values.Map pairs)) (items_of (map pair_data pairs)) (record {
        shape = values_shape (items_of (map pair_data pairs));
        pairs = map quiet_key_value pairs;
        each = values_again (json_key_value_in left) pair_data quiet_key_value pairs each;
        make = record {
          attributes = pairs;
          kept = pairs_kept L pairs rising;
          repeated = [];
          twice = pairs_unrepeated L pairs rising;
          value = refl;
          noted = sym (ap (λ (l : List (List ℕ)). l ++ []) (pairs_quiet pairs));
        };
      }))

  abbrev MeansItself : Value → Type 0
  MeansItself v = IsHeld (left + 1) v → json_value_at left (leaf v) (any_value_data v)

  value_again : (v : Value) → MeansItself v
  unfolding standing_members member
  value_again = by_variant MeansItself (record {
    of_text = λ text h. record { shape = refl; value = (text, refl, refl) };
    of_truth = λ truth h. record { shape = refl; value = (truth, refl, refl) };
    of_number = λ n h. record { shape = refl; value = (n, signed_again n h.proper, refl) };
    of_eight = λ double h. absurd cc;
    of_bytes = λ held h. record { shape = refl; value = (held, record { held = encode_of standard held; shape = refl; means = (h.proper, refl) }, refl) };
    of_list = list_means;
    of_map = map_again;
    of_nothing = λ h. record { shape = refl; value = refl };
  })

module _ (L : Laws) where
  in_again : (left : ℕ) (v : Value) → IsHeld left v → json_value_in left (leaf v) (any_value_data v)
  unfolding json_value_in
  in_again zero v h = not_held v h
  in_again (suc left) v h = value_again L left (in_again left) v (as_next left v h)

  -- the pair of an attribute
  attribute_again : (pair : List ℕ × Value) → IsHeldPair most_levels pair → json_key_value_at levels_below (quiet_key_value pair) (pair_data pair)
  attribute_again pair h = key_value_again levels_below pair (value_again L levels_below (in_again levels_below) pair.1 h.value)

  pub attributes_again : (attributes : List (List ℕ × Value)) → AreSound attributes → AreProper attributes → holds_double attributes ≡ false → AreJsonAttributes attributes [] (unless_null (attributes_data attributes))
  attributes_again attributes sound proper none =
      let all = held_attributes attributes sound proper none in
      let each : All (λ p. json_key_value_at levels_below (quiet_key_value p) (pair_data p)) attributes = λ k p lt. attribute_again (get_or attributes k p) (all k p lt) in
      let twice = pairs_unrepeated L attributes sound.rising in
      record {
        pairs = map quiet_key_value attributes;
        each = list_again (json_key_value_at levels_below) pair_data quiet_key_value attributes each;
        make = record {
          kept = pairs_kept L attributes sound.rising;
          rising = twice.rising;
          noted = λ key. (
            λ there. inl ((twice.twice key).0 there),
            λ is. ⊎_elim (λ stands. (twice.twice key).1 stands) (λ there. subst (λ l. Contains l key) (pairs_quiet attributes) there) is,
          );
        };
      }
