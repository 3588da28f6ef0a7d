-- `AnyValue`, `ArrayValue`, `KeyValueList` and `KeyValue` in OTLP/JSON. Of the members of a value one at most stands. The `values` of a
-- list are values, those of a map are `KeyValue`s, and a `KeyValue` has a `key`, a text, and a `value`. How deep lists and maps may
-- stand goes by the levels that are left below one: an attribute's value stands at level 1 of 24, with 23 left.
use Rattle.std.specs.Prelude.{◌≡◌, ℕ, zero, suc, ℤ, List, [], ◌∷◌, ◌++◌, map, Bool, true, Option, Some, None, codes, is_some}
use Rattle.serde_json.specs.Data.{Data}
use Rattle.serde_json.specs.Find.{as_array, as_object}
use Rattle.span_io.specs.Paths.{Offences, nothing, here, ◌▹◌, optional, each, valued, Given}
use Rattle.trace_model.specs.declared.value.Value.TheVariants as values
use Rattle.trace_model.specs.declared.noted.KeyValue.{KeyValue}
use Rattle.trace_model.specs.OtlpParts.{NotedValue, leaf, entry, keys_inside, IsNotedList, IsNotedMap}
use Rattle.json_members.specs.Members.{member, elements, AreHeld, IsText, text_offends, IsTruth, truth_offends, Spelled}
use Rattle.json_members.specs.Parts.{object_offends}
use Rattle.otlp_json.specs.Numbers.{IsJsonSigned, signed_offends, SpellsBytes, base64_offends}

-- ---- the members of a value

-- a member that stands
pub data JsonMember : Type 0 where
  string_member : Data → JsonMember
  bool_member : Data → JsonMember
  int_member : Data → JsonMember
  double_member : Data → JsonMember
  array_member : Data → JsonMember
  kvlist_member : Data → JsonMember
  bytes_member : Data → JsonMember

-- the member of a value that has this name, if it stands
abbrev pub standing : (Data → JsonMember) → Option Data → List JsonMember
standing named None = []
standing named (Some d) = named d ∷ []

-- all members of an `AnyValue` that stand, in the order of field numbers, from `string_value` 1 to `bytes_value` 7
unfoldable pub standing_members : Data → List JsonMember
standing_members d = (((((standing string_member (member (codes "stringValue") d) ++ standing bool_member (member (codes "boolValue") d))
    ++ standing int_member (member (codes "intValue") d)) ++ standing double_member (member (codes "doubleValue") d))
    ++ standing array_member (member (codes "arrayValue") d)) ++ standing kvlist_member (member (codes "kvlistValue") d))
    ++ standing bytes_member (member (codes "bytesValue") d)

-- ---- what they mean: a value, and the keys that stand more than once in a map inside it

-- `ArrayValue`, by what its `values` mean
pub record IsJsonList (IsValue : NotedValue → Data → Type 0) (r : NotedValue) (d : Data) : Type 0 where
  pub shape : is_some (as_object d) ≡ true
  pub members : List NotedValue
  pub each : Given (AreHeld IsValue) (λ ms. ms ≡ []) members (member (codes "values") d)
  pub make : IsNotedList members r

-- `KeyValueList`
pub record IsJsonMap (IsPair : KeyValue → Data → Type 0) (r : NotedValue) (d : Data) : Type 0 where
  pub shape : is_some (as_object d) ≡ true
  pub pairs : List KeyValue
  pub each : Given (AreHeld IsPair) (λ ps. ps ≡ []) pairs (member (codes "values") d)
  pub make : IsNotedMap (map entry pairs) (keys_inside pairs) r

module _ (IsValue : NotedValue → Data → Type 0) (IsPair : KeyValue → Data → Type 0) where
  -- a double has no meaning
  abbrev pub MeansJsonMember : JsonMember → NotedValue → Type 0
  MeansJsonMember (string_member d) r = (text : List ℕ) × IsText text d × (r ≡ leaf (values.Text text))
  MeansJsonMember (bool_member d) r = (truth : Bool) × IsTruth truth d × (r ≡ leaf (values.Truth truth))
  MeansJsonMember (int_member d) r = (z : ℤ) × IsJsonSigned z d × (r ≡ leaf (values.Number z))
  MeansJsonMember (double_member d) r = ⊥
  MeansJsonMember (array_member d) r = IsJsonList IsValue r d
  MeansJsonMember (kvlist_member d) r = IsJsonMap IsPair r d
  MeansJsonMember (bytes_member d) r = (held : List ℕ) × Spelled SpellsBytes held d × (r ≡ leaf (values.Bytes held))

  -- a value without members is nothing, and one with two has no meaning
  abbrev pub MeansStanding : List JsonMember → NotedValue → Type 0
  MeansStanding [] r = r ≡ leaf values.Nothing
  MeansStanding (m ∷ []) r = MeansJsonMember m r
  MeansStanding (m ∷ n ∷ ms) r = ⊥

  -- `AnyValue`, by what values in a list and `KeyValue`s in a map mean: an object in which one member at most stands
  pub record IsJsonValue (r : NotedValue) (d : Data) : Type 0 where
    pub shape : is_some (as_object d) ≡ true
    pub value : MeansStanding (standing_members d) r

-- `KeyValue`, by what values mean: an absent `key` is the empty text, and an absent `value` is nothing
pub record IsJsonKeyValue (IsValue : NotedValue → Data → Type 0) (p : KeyValue) (d : Data) : Type 0 where
  pub shape : is_some (as_object d) ≡ true
  pub key : Given IsText (λ text. text ≡ []) p.key (member (codes "key") d)
  pub value : Given IsValue (λ r. r ≡ leaf values.Nothing) p.value (member (codes "value") d)

unfoldable mutual
  -- a value in a list or map below which so many levels are left
  pub json_value_in : ℕ → NotedValue → Data → Type 0
  json_value_in zero r d = ⊥
  json_value_in (suc left) r d = IsJsonValue (json_value_in left) (json_key_value_in left) r d

  -- a `KeyValue` in such a map
  pub json_key_value_in : ℕ → KeyValue → Data → Type 0
  json_key_value_in zero p d = ⊥
  json_key_value_in (suc left) p d =
      IsJsonKeyValue (λ r inner. IsJsonValue (json_value_in left) (json_key_value_in left) r inner) p d

-- a value, and a `KeyValue` with such a value, below which so many levels are left
abbrev pub json_value_at : ℕ → NotedValue → Data → Type 0
json_value_at left r d = IsJsonValue (json_value_in left) (json_key_value_in left) r d

-- a `KeyValue` with a value below which so many levels are left
abbrev pub json_key_value_at : ℕ → KeyValue → Data → Type 0
json_key_value_at left p d = IsJsonKeyValue (json_value_at left) p d

-- ---- how they offend

-- the only member of its object that offends, behind so many others
abbrev pub behind : ℕ → Offences → Offences
behind zero Offends = Offends ▹ nothing
behind (suc before) Offends = nothing ▹ behind before Offends

-- TooDeep: there are `values` with no level left below their list or map
abbrev pub values_offend : ℕ → (Data → Offences) → List Data → Offences
values_offend zero Offends [] = nothing
values_offend zero Offends (d ∷ ds) = here (λ number. number ≡ 5)
values_offend (suc left) Offends ds = each Offends ds

-- how the `values` of a list or map offend, below which so many levels are left; BadShape: no array
abbrev pub held_offends : ℕ → (Data → Offences) → Data → Offences
held_offends left Offends d = valued (λ ds. values_offend left Offends (elements ds)) (as_array d)

-- a list or map below which so many levels are left
unfoldable pub many_members : ℕ → (Data → Offences) → Data → List Offences
many_members left Offends d = optional (held_offends left Offends) (member (codes "values") d) ∷ []

-- BadShape: an `ArrayValue` or `KeyValueList` that is no object; else what offends in its `values`
abbrev pub many_offend : ℕ → (Data → Offences) → Data → Offences
many_offend left Offends d = object_offends (many_members left Offends) d

module _ (list_offends map_offends : Data → Offences) where
  -- DoubleInJson: any `doubleValue`
  abbrev pub json_member_offends : JsonMember → Offences
  json_member_offends (string_member d) = behind 0 (text_offends d)
  json_member_offends (bool_member d) = behind 1 (truth_offends d)
  json_member_offends (int_member d) = behind 2 (signed_offends d)
  json_member_offends (double_member d) = behind 3 (here (λ number. number ≡ 15))
  json_member_offends (array_member d) = behind 4 (list_offends d)
  json_member_offends (kvlist_member d) = behind 5 (map_offends d)
  json_member_offends (bytes_member d) = behind 6 (base64_offends d)

  -- BadShape: two members, whatever they hold
  abbrev pub standing_offend : List JsonMember → Offences
  standing_offend [] = nothing
  standing_offend (m ∷ []) = json_member_offends m
  standing_offend (m ∷ n ∷ ms) = here (λ number. number ≡ 11)

  -- BadShape: an `AnyValue` that is no object, or in which two members stand; else what offends in the one that does
  abbrev pub any_value_offends : Data → Offences
  any_value_offends d = valued (λ members. standing_offend (standing_members d)) (as_object d)

-- how the members of a `KeyValue` offend, by how values do, in the order of field numbers: `key` 1, `value` 2
unfoldable pub key_value_members : (Data → Offences) → Data → List Offences
key_value_members Offends d = optional text_offends (member (codes "key") d) ∷ optional Offends (member (codes "value") d) ∷ []

-- BadShape: a `KeyValue` that is no object; else what offends in its members
abbrev pub key_value_offends : (Data → Offences) → Data → Offences
key_value_offends Offends d = object_offends (key_value_members Offends) d

unfoldable mutual
  -- how a value offends in a list or map below which so many levels are left
  pub inner_value_offends : ℕ → Data → Offences
  inner_value_offends zero d = nothing
  inner_value_offends (suc left) d =
      any_value_offends (many_offend left (inner_value_offends left)) (many_offend left (inner_pair_offends left)) d

  -- how a `KeyValue` does in such a map
  pub inner_pair_offends : ℕ → Data → Offences
  inner_pair_offends zero d = nothing
  inner_pair_offends (suc left) d =
      key_value_offends (λ inner. any_value_offends (many_offend left (inner_value_offends left)) (many_offend left (inner_pair_offends left)) inner) d

-- of a list and of a map, of a value and of a `KeyValue` with such a value, below which so many levels are left
abbrev pub json_list_offends : ℕ → Data → Offences
json_list_offends left d = many_offend left (inner_value_offends left) d

-- how a map offends, a `KeyValueList`, below which so many levels are left
abbrev pub json_map_offends : ℕ → Data → Offences
json_map_offends left d = many_offend left (inner_pair_offends left) d

-- how an `AnyValue` offends, below which so many levels are left
abbrev pub json_value_offends : ℕ → Data → Offences
json_value_offends left d = any_value_offends (json_list_offends left) (json_map_offends left) d

-- how a `KeyValue` offends with a value below which so many levels are left
abbrev pub json_key_value_offends : ℕ → Data → Offences
json_key_value_offends left d = key_value_offends (json_value_offends left) d
