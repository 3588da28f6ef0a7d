-- Values, lists, maps and `KeyValue`s to which free records were added, anywhere in them and in what stands inside.
use Rattle.std.specs.Prelude.{◌≡◌, ℕ, zero, suc, List}
use Rattle.span_io.specs.FreeItems.{Paddings, TextPadded}
use Rattle.span_io.specs.Tables.{Row}
use Rattle.proto_wire.specs.Messages.{messages}
use Rattle.proto_wire.specs.Records.{Record}
use Rattle.otlp_proto.specs.Values.{Member, array_value, kvlist_value, value_in, key_value_in, value_offends, key_value_offends, many_table, table_of_value, table_of_key_value}
use Rattle.trace_model.specs.declared.noted.KeyValue.{KeyValue}
use Rattle.trace_model.specs.OtlpParts.{levels_below, NotedValue}

-- a list or map with records added, and every other member as it is
abbrev pub MemberPadded : (List ℕ → List ℕ → Type 0) → (List ℕ → List ℕ → Type 0) → Member → Member → Type 0
MemberPadded InList InMap (array_value held) member = (other : List ℕ) × (member ≡ array_value other) × InList held other
MemberPadded InList InMap (kvlist_value held) member = (other : List ℕ) × (member ≡ kvlist_value other) × InMap held other
MemberPadded InList InMap this member = member ≡ this

-- of a list and of a map below which so many levels are left
abbrev pub table_of_list : ℕ → List (Row Record)
table_of_list left = many_table left NotedValue (value_in left) (value_offends left)

-- the fields of a `KeyValueList` below which so many levels are left: `values` 1, each a `KeyValue`
abbrev pub table_of_map : ℕ → List (Row Record)
table_of_map left = many_table left KeyValue (key_value_in left) (key_value_offends left)

-- ---- at a level, by what is added in the values and the `KeyValue`s that stand in a list or map there

module _ (left : ℕ) (InValue InPair : List ℕ → List ℕ → Type 0) where
  -- an `ArrayValue`: free records added to it, and to its values as `InValue` says
  abbrev pub ListPaddedBy : List ℕ → List ℕ → Type 0
  ListPaddedBy held other = TextPadded messages (table_of_list left) (InValue, tt) held other

  -- a `KeyValueList`: free records added to it, and to its `KeyValue`s as `InPair` says
  abbrev pub MapPaddedBy : List ℕ → List ℕ → Type 0
  MapPaddedBy held other = TextPadded messages (table_of_map left) (InPair, tt) held other

  -- an `AnyValue`: free records added to it, and to the list or map that it holds
  abbrev pub ValuePaddedBy : List ℕ → List ℕ → Type 0
  ValuePaddedBy held other = TextPadded messages (table_of_value left) (MemberPadded ListPaddedBy MapPaddedBy, tt) held other

  -- a `KeyValue`: free records added to it, and to its `value` 2; its `key` 1 is as it was
  abbrev pub KeyValuePaddedBy : List ℕ → List ℕ → Type 0
  KeyValuePaddedBy held other = TextPadded messages (table_of_key_value left) ((λ x y. x ≡ y), (ValuePaddedBy, tt)) held other

unfoldable mutual
  -- a value in a list or map below which so many levels are left
  pub value_padded : ℕ → List ℕ → List ℕ → Type 0
  value_padded zero held other = held ≡ other
  value_padded (suc left) held other = ValuePaddedBy left (value_padded left) (key_value_padded left) held other

  -- a `KeyValue` in such a map
  pub key_value_padded : ℕ → List ℕ → List ℕ → Type 0
  key_value_padded zero held other = held ≡ other
  key_value_padded (suc left) held other = KeyValuePaddedBy left (value_padded left) (key_value_padded left) held other

-- ---- a list, a map, and a value and a `KeyValue` with such a value, below which so many levels are left

-- an `ArrayValue`, and the same with free records added in it, down through the levels that are left
abbrev pub ListPadded : ℕ → List ℕ → List ℕ → Type 0
ListPadded left held other = ListPaddedBy left (value_padded left) (key_value_padded left) held other

-- a `KeyValueList`, and the same with free records added in it, down through the levels that are left
abbrev pub MapPadded : ℕ → List ℕ → List ℕ → Type 0
MapPadded left held other = MapPaddedBy left (value_padded left) (key_value_padded left) held other

-- an `AnyValue`, and the same with free records added in it, down through the levels that are left
abbrev pub ValuePadded : ℕ → List ℕ → List ℕ → Type 0
ValuePadded left held other = ValuePaddedBy left (value_padded left) (key_value_padded left) held other

-- a `KeyValue`, and the same with free records added in it, down through the levels that are left
abbrev pub KeyValuePadded : ℕ → List ℕ → List ℕ → Type 0
KeyValuePadded left held other = KeyValuePaddedBy left (value_padded left) (key_value_padded left) held other

-- what is added in what a record gives to the rows of such a value, and of such a `KeyValue`
abbrev pub value_paddings : (left : ℕ) → Paddings (table_of_value left)
value_paddings left = (MemberPadded (ListPadded left) (MapPadded left), tt)

-- a `KeyValue`: its `key` 1 is as it was, and records may be added in its `value` 2
abbrev pub key_value_paddings : (left : ℕ) → Paddings (table_of_key_value left)
key_value_paddings left = ((λ x y. x ≡ y), (ValuePadded left, tt))

-- one of repeated attributes
abbrev pub AttributePadded : List ℕ → List ℕ → Type 0
AttributePadded held other = KeyValuePadded levels_below held other
