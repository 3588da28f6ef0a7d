-- `AnyValue`, `ArrayValue`, `KeyValueList` and `KeyValue` (OTLP common.proto). Of the members of a value one at most stands. The
-- `values` 1 of a list are values, those of a map are `KeyValue`s, and a `KeyValue` has `key` 1, a text, and `value` 2. How deep lists
-- and maps may stand goes by the levels that are left below one: an attribute's value stands at level 1 of 24, with 23 left.
use Rattle.std.specs.Prelude.{◌≡◌, ◌≢◌, ◌↔◌, ℕ, zero, suc, ◌⊎◌, ◌==◌, if◌then◌else◌, List, [], ◌∷◌, map, Bool, IsTrue, IsUtf8}
use Rattle.std.specs.Int.{w64, cast_signed, to_be_bytes}
use Rattle.std.specs.List.{AllZip, flat_map}
use Rattle.span_io.specs.Offences.{Rules, Offence}
use Rattle.span_io.specs.Tables.{Row, Singular, Twice, NotText, rules_by, no_ends, MeansText}
use Rattle.proto_wire.specs.Messages.{messages}
use Rattle.proto_wire.specs.Records.{Held, varint, fixed64, bytes, fixed32, Record}
use Rattle.proto_wire.specs.Wire.{Wire}
use Rattle.trace_model.specs.declared.value.Value.TheVariants as values
use Rattle.otlp_proto.specs.Rows.{bytes_of, bytes_row, text, message}
use Rattle.trace_model.specs.declared.noted.KeyValue.{KeyValue}
use Rattle.trace_model.specs.OtlpParts.{NotedValue, leaf, entry, keys_inside, IsNotedList, IsNotedMap}

-- a member of a value
pub data Member : Type 0 where
  string_value : List ℕ → Member
  bool_value : ℕ → Member
  int_value : ℕ → Member
  double_value : ℕ → Member
  array_value : List ℕ → Member
  kvlist_value : List ℕ → Member
  bytes_value : List ℕ → Member

-- the member that a record is, if it is one
abbrev pub member_in : Record → List Member
member_in r = of r.held
  where
    of : Held → List Member
    of (varint n) = if r.number == 2 then bool_value n ∷ [] else (if r.number == 3 then int_value n ∷ [] else [])
    of (fixed64 n) = if r.number == 4 then double_value n ∷ [] else []
    of (bytes held) =
        if r.number == 1 then string_value held ∷ [] else (if r.number == 5 then array_value held ∷ [] else
        (if r.number == 6 then kvlist_value held ∷ [] else (if r.number == 7 then bytes_value held ∷ [] else [])))
    of (fixed32 n) = []

-- the members that these records are, in their order; records that are none are passed over
abbrev pub members_of : List Record → List Member
members_of records = flat_map member_in records

-- ---- what bytes mean: a value, and the keys that stand more than once in a map inside it

-- the bytes are an `ArrayValue` of this list: each of its `values` 1 is a member, as `IsValue` says
pub record IsListText (IsValue : List ℕ → NotedValue → Type 0) (text : List ℕ) (r : NotedValue) : Type 0 where
  pub records : List Record
  pub wire : Wire records text
  pub members : List NotedValue
  pub each : AllZip IsValue (bytes_of 1 records) members
  pub make : IsNotedList members r

-- the bytes are a `KeyValueList` of this map: each of its `values` 1 is a pair, as `IsKeyValue` says, and of equal keys the last
-- value is kept
pub record IsMapText (IsKeyValue : List ℕ → KeyValue → Type 0) (text : List ℕ) (r : NotedValue) : Type 0 where
  pub records : List Record
  pub wire : Wire records text
  pub pairs : List KeyValue
  pub each : AllZip IsKeyValue (bytes_of 1 records) pairs
  pub make : IsNotedMap (map entry pairs) (keys_inside pairs) r

-- the value of a member, by what the values of a list and the pairs of a map mean
abbrev pub MeansMember : (List ℕ → NotedValue → Type 0) → (List ℕ → KeyValue → Type 0) → Member → NotedValue → Type 0
MeansMember IsValue IsKeyValue (string_value held) r = IsUtf8 held × (r ≡ leaf (values.Text held))
MeansMember IsValue IsKeyValue (bool_value n) r = (b : Bool) × (r ≡ leaf (values.Truth b)) × (IsTrue b ↔ (n ≢ 0))
MeansMember IsValue IsKeyValue (int_value n) r = r ≡ leaf (values.Number (cast_signed w64 n))
MeansMember IsValue IsKeyValue (double_value n) r = r ≡ leaf (values.Eight (to_be_bytes w64 n))
MeansMember IsValue IsKeyValue (array_value held) r = IsListText IsValue held r
MeansMember IsValue IsKeyValue (kvlist_value held) r = IsMapText IsKeyValue held r
MeansMember IsValue IsKeyValue (bytes_value held) r = r ≡ leaf (values.Bytes held)

-- the bytes are an `AnyValue`: of its members one at most stands, and without one the value is nothing
pub record IsValueText (IsValue : List ℕ → NotedValue → Type 0) (IsKeyValue : List ℕ → KeyValue → Type 0) (text : List ℕ)
    (r : NotedValue) : Type 0 where
  pub records : List Record
  pub wire : Wire records text
  pub value : Singular (MeansMember IsValue IsKeyValue) (λ x. x ≡ leaf values.Nothing) (members_of records) r

-- the bytes are a `KeyValue`: `key` 1, a text, empty if absent, and `value` 2, nothing if absent; neither stands twice
pub record IsKeyValueText (IsValue : List ℕ → NotedValue → Type 0) (text : List ℕ) (p : KeyValue) : Type 0 where
  pub records : List Record
  pub wire : Wire records text
  pub key : Singular MeansText (λ key. key ≡ []) (bytes_of 1 records) p.key
  pub value : Singular IsValue (λ r. r ≡ leaf values.Nothing) (bytes_of 2 records) p.value

unfoldable mutual
  -- a value in a list or map below which so many levels are left
  pub value_in : ℕ → List ℕ → NotedValue → Type 0
  value_in zero text r = ⊥
  value_in (suc left) text r = IsValueText (value_in left) (key_value_in left) text r

  -- a `KeyValue` in such a map
  pub key_value_in : ℕ → List ℕ → KeyValue → Type 0
  key_value_in zero text p = ⊥
  key_value_in (suc left) text p = IsKeyValueText (λ held r. IsValueText (value_in left) (key_value_in left) held r) text p

-- a value, and a `KeyValue` with such a value, below which so many levels are left
abbrev pub value_at : ℕ → List ℕ → NotedValue → Type 0
value_at left text r = IsValueText (value_in left) (key_value_in left) text r

-- a `KeyValue` whose value has so many levels left below it
abbrev pub key_value_at : ℕ → List ℕ → KeyValue → Type 0
key_value_at left text p = IsKeyValueText (λ held r. value_at left held r) text p

-- ---- the tables

-- how a member offends by itself
abbrev pub BadMember : Member → ℕ → Type 0
BadMember (string_value held) number = NotText held number
BadMember other number = ⊥

-- how the list or map in a member offends
abbrev pub InMember : (List ℕ → ℕ → ℕ → Type 0) → (List ℕ → ℕ → ℕ → Type 0) → Member → ℕ → ℕ → Type 0
InMember InList InMap (array_value held) place number = InList held place number
InMember InList InMap (kvlist_value held) place number = InMap held place number
InMember InList InMap other place number = ⊥

-- `AnyValue`: all its members are one row
abbrev pub value_table : (List ℕ → NotedValue → Type 0) → (List ℕ → KeyValue → Type 0) → (List ℕ → ℕ → ℕ → Type 0)
    → (List ℕ → ℕ → ℕ → Type 0) → List (Row Record)
value_table IsValue IsKeyValue InList InMap = record {
  Given = Member;
  given = λ r. member_in r;
  Value = NotedValue;
  Means = λ members r. Singular (MeansMember IsValue IsKeyValue) (λ x. x ≡ leaf values.Nothing) members r;
  here = λ earlier member n. Twice earlier n ⊎ BadMember member n;
  inside = λ member place n. InMember InList InMap member place n;
} ∷ []

-- `ArrayValue` and `KeyValueList`; TooDeep: a record with no level left below the list or map
abbrev pub many_table : ℕ → (B : Type 0) → (List ℕ → B → Type 0) → (List ℕ → ℕ → ℕ → Type 0) → List (Row Record)
many_table left B Means Offends =
    bytes_row 1 (List B) (λ held xs. AllZip Means held xs) (λ earlier held n. (n ≡ 5) × (left ≡ 0)) Offends ∷ []

-- `KeyValue`
abbrev pub key_value_table : (List ℕ → NotedValue → Type 0) → (List ℕ → ℕ → ℕ → Type 0) → List (Row Record)
key_value_table IsValue Offends = text 1 ∷ message 2 NotedValue IsValue (leaf values.Nothing) Offends ∷ []

-- ---- offences

-- the rules of a list or map below which so many levels are left, by how what stands in it offends
abbrev pub many_rules : ℕ → (B : Type 0) → (List ℕ → B → Type 0) → (List ℕ → ℕ → ℕ → Type 0) → Rules Record
many_rules left B Means Offends = rules_by (many_table left B Means Offends) no_ends

unfoldable mutual
  -- how a value offends in a list or map below which so many levels are left
  pub value_offends : ℕ → List ℕ → ℕ → ℕ → Type 0
  value_offends zero held place number = ⊥
  value_offends (suc left) held place number = Offence messages (rules_by (value_table (value_in left) (key_value_in left)
      (λ inner p n. Offence messages (many_rules left NotedValue (value_in left) (value_offends left)) inner p n)
      (λ inner p n. Offence messages (many_rules left KeyValue (key_value_in left) (key_value_offends left)) inner p n)) no_ends) held place number

  -- how a `KeyValue` does in such a map
  pub key_value_offends : ℕ → List ℕ → ℕ → ℕ → Type 0
  key_value_offends zero held place number = ⊥
  key_value_offends (suc left) held place number =
      Offence messages (rules_by (key_value_table (λ inner r. IsValueText (value_in left) (key_value_in left) inner r)
      (λ inside q m. Offence messages (rules_by (value_table (value_in left) (key_value_in left)
      (λ inner p n. Offence messages (many_rules left NotedValue (value_in left) (value_offends left)) inner p n)
      (λ inner p n. Offence messages (many_rules left KeyValue (key_value_in left) (key_value_offends left)) inner p n)) no_ends) inside q m)) no_ends) held place number

-- how an `ArrayValue` offends that has so many levels left below it
abbrev pub list_rules : ℕ → Rules Record
list_rules left = many_rules left NotedValue (value_in left) (value_offends left)

-- how a `KeyValueList` offends that has so many levels left below it
abbrev pub map_rules : ℕ → Rules Record
map_rules left = many_rules left KeyValue (key_value_in left) (key_value_offends left)

-- of a value, and of a `KeyValue` with such a value, below which so many levels are left
abbrev pub table_of_value : ℕ → List (Row Record)
table_of_value left = value_table (value_in left) (key_value_in left) (λ held p n. Offence messages (list_rules left) held p n) (λ held p n. Offence messages (map_rules left) held p n)

-- how an `AnyValue` offends that has so many levels left below it
abbrev pub value_rules : ℕ → Rules Record
value_rules left = rules_by (table_of_value left) no_ends

-- the fields of a `KeyValue`, a row each: `key` 1, and `value` 2, below which so many levels are left
abbrev pub table_of_key_value : ℕ → List (Row Record)
table_of_key_value left =
    key_value_table (λ held r. value_at left held r) (λ held p n. Offence messages (value_rules left) held p n)

-- how a `KeyValue` offends whose value has so many levels left below it
abbrev pub key_value_rules : ℕ → Rules Record
key_value_rules left = rules_by (table_of_key_value left) no_ends
