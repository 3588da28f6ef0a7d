-- The JSON of values and attributes is read back from its text.
use Rattle.std.proofs.Common.{◌≡◌, ℕ, zero, suc, ◌+◌, ◌≤◌, ◌<◌, ◌^◌, true, false, List, [], ◌∷◌, map, All, get_or, Option, Some, None, codes, IsUtf8, refl, sym, subst, arith}
use Rattle.std.specs.Fmt.{decimal, signed_decimal}
use Rattle.std.proofs.lemmas.Fmt.{IsAscii-decimal, IsAscii-signed}
use Rattle.std.proofs.lemmas.List.Elements.{All-head, All-tail}
use Rattle.std.proofs.lemmas.Str.{IsUtf8-from_ascii}
use Rattle.base64.specs.GeneralPurpose.{encode_of}
use Rattle.base64.specs.Engines.{standard}
use Rattle.base64.proofs.EngineFacts.{IsAscii-encode_of}
use Rattle.json.proofs.Printed.Utf8.{IsUtf8-are_ascii, are_ascii}
use Rattle.serde_json.specs.Data.{Data, null, boolean, number, string, array, object, Items, no_items, item, no_members, member}
use Rattle.serde_json.specs.View.{items_of}
use Rattle.trace_model.specs.EventTexts.{holds_double}
use Rattle.trace_model.specs.Proper.{AreProper}
use Rattle.trace_model.specs.Values.{AreSound, most_levels}
use Rattle.trace_model.specs.declared.value.Value.{Value}
use Rattle.trace_model.specs.declared.value.Value.TheVariants as values
use Rattle.trace_model.proofs.PartLaws.{by_variant}
use Rattle.json_members.proofs.ReadBackLaws.{GivesBack, ItemsGiveBack, GivenGivesBack, gives_deeper, string_back, truth_back, no_items_back, item_back, array_back, no_members_back, member_back, object_back, rows_back}
use Rattle.json_members.proofs.TextLaws.{text_back}
use Rattle.otlp_json.specs.Canonical.{one_member, of_values, unless_bare, any_value_data, decimal_data, list_data, attributes_data}
use Rattle.otlp_json.proofs.WrittenLaws.{Laws}
use Rattle.otlp_json.proofs.WrittenValues.{pair_data, pair_rows, list_value, map_value, IsHeld, not_held, as_next, held_members, held_pairs, held_attributes}

-- ---- members

pub one_back : (n : ℕ) (name : List ℕ) (d : Data) → are_ascii name ≡ true → GivesBack n d → GivesBack (suc n) (one_member name d)
one_back n name d low h = object_back n _ (member_back n name d no_members (IsUtf8-are_ascii name low) tt h (no_members_back n))

pub decimal_back : (n time : ℕ) → time < 2 ^ 64 → GivenGivesBack n (decimal_data time)
decimal_back n zero h = tt
decimal_back n (suc time) h = string_back n (decimal (suc time)) (IsUtf8-from_ascii _ (IsAscii-decimal (suc time) h))

given_deeper : (n m : ℕ) (o : Option Data) → n ≤ m → GivenGivesBack n o → GivenGivesBack m o
given_deeper n m None more h = tt
given_deeper n m (Some d) more h = gives_deeper n m d more h

-- ---- lists

module _ {X : Type 0} (data_of : X → Data) (n : ℕ) where
  abbrev pub IsReadBack : X → Type 0
  IsReadBack x = GivesBack n (data_of x)

  pub each_back : (xs : List X) → All IsReadBack xs → ItemsGiveBack n (items_of (map data_of xs))
  each_back [] h = no_items_back n
  each_back (x ∷ xs) h = item_back n (data_of x) _ (All-head IsReadBack x xs h) (each_back xs (All-tail IsReadBack x xs h))

  pub list_back : (xs : List X) → All IsReadBack xs → GivenGivesBack (suc n) (list_data data_of xs)
  list_back [] h = tt
  list_back (x ∷ xs) h = array_back n _ (each_back (x ∷ xs) h)

values_back : (n : ℕ) (ds : Items) → ItemsGiveBack n ds → GivesBack (suc (suc n)) (of_values ds)
values_back n no_items h = object_back (suc n) no_members (no_members_back (suc n))
values_back n (item d ds) h = one_back (suc n) (codes "values") (array (item d ds)) refl (array_back n (item d ds) h)

-- ---- values

bare_back : (n : ℕ) (d : Data) → GivesBack n d → GivenGivesBack n (unless_bare d)
bare_back n null h = h
bare_back n (boolean b) h = h
bare_back n (number x) h = h
bare_back n (string s) h = h
bare_back n (array ds) h = h
bare_back n (object no_members) h = tt
bare_back n (object (member name d ms)) h = h

key_value_back : (n : ℕ) (pair : List ℕ × Value) → IsUtf8 pair.0 → GivesBack n (any_value_data pair.1) → GivesBack (suc n) (pair_data pair)
key_value_back n pair key h = object_back n _ (rows_back n (pair_rows pair) refl (text_back n pair.0 key, (bare_back n (any_value_data pair.1) h, tt)))

-- how deep the JSON of a value of so many levels nests at most
abbrev pub height : ℕ → ℕ
height zero = zero
height (suc levels) = suc (suc (suc (suc (height levels))))

module _ (L : Laws) (left : ℕ) (inner : (v : Value) → IsHeld left v → GivesBack (height left) (any_value_data v)) where
  list_value_back : (members : List Value) → IsHeld (left + 1) (values.List members) → GivesBack (height (suc left)) (any_value_data (values.List members))
  list_value_back members h =
      let each : All (λ v. GivesBack (height left) (any_value_data v)) members = λ k v lt. inner (get_or members k v) (held_members L left members h k v lt) in
      subst (GivesBack (height (suc left))) (sym (list_value members))
      (gives_deeper (suc (suc (suc (height left)))) (height (suc left)) _ (omega arith)
      (one_back _ (codes "arrayValue") _ refl (values_back (height left) (items_of (map any_value_data members)) (each_back any_value_data (height left) members each))))

  map_value_back : (pairs : List (List ℕ × Value)) → IsHeld (left + 1) (values.Map pairs) → GivesBack (height (suc left)) (any_value_data (values.Map pairs))
  map_value_back pairs h =
      let held = held_pairs L left pairs h in
      let each : All (λ p. GivesBack (suc (height left)) (pair_data p)) pairs =
      λ k p lt. key_value_back (height left) (get_or pairs k p) (held k p lt).key (inner (get_or pairs k p).1 (held k p lt).value) in
      subst (GivesBack (height (suc left))) (sym (map_value pairs))
      (one_back _ (codes "kvlistValue") _ refl (values_back (suc (height left)) (items_of (map pair_data pairs)) (each_back pair_data (suc (height left)) pairs each)))

  abbrev ComesBack : Value → Type 0
  ComesBack v = IsHeld (left + 1) v → GivesBack (height (suc left)) (any_value_data v)

  value_back : (v : Value) → ComesBack v
  value_back = by_variant ComesBack (record {
    of_text = λ text h. one_back _ (codes "stringValue") _ refl (string_back _ text h.proper);
    of_truth = λ truth h. one_back _ (codes "boolValue") _ refl (truth_back _ truth);
    of_number = λ n h. one_back _ (codes "intValue") _ refl (string_back _ (signed_decimal n) (IsUtf8-from_ascii _ (IsAscii-signed n h.proper.sfits)));
    of_eight = λ double h. absurd cc;
    of_bytes = λ held h. one_back _ (codes "bytesValue") _ refl (string_back _ (encode_of standard held) (IsUtf8-from_ascii _ (IsAscii-encode_of standard held)));
    of_list = list_value_back;
    of_map = map_value_back;
    of_nothing = λ h. object_back _ no_members (no_members_back _);
  })

module _ (L : Laws) where
  in_back : (levels : ℕ) (v : Value) → IsHeld levels v → GivesBack (height levels) (any_value_data v)
  in_back zero v h = absurd (not_held v h)
  in_back (suc left) v h = value_back L left (in_back left) v (as_next left v h)

  pub attributes_back : (n : ℕ) (attributes : List (List ℕ × Value)) → 98 ≤ n → AreSound attributes → AreProper attributes → holds_double attributes ≡ false → GivenGivesBack n (attributes_data attributes)
  attributes_back n attributes enough sound proper none =
      let held = held_attributes attributes sound proper none in
      let each : All (λ p. GivesBack 97 (pair_data p)) attributes = λ k p lt. key_value_back 96 (get_or attributes k p) (held k p lt).key (in_back most_levels (get_or attributes k p).1 (held k p lt).value) in
      given_deeper 98 n (attributes_data attributes) enough (list_back pair_data 97 attributes each)
