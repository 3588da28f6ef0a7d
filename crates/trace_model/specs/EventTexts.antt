-- Event text: the name and the attributes of an event in one text, for forms that have a text alone.
--     event_text name attributes     what is written: the name alone where there are no attributes, else the name as a JSON string,
--                                    a colon, and the attributes as a JSON object without spaces (RFC 8259)
--     IsEventText text name attributes    what is read: braces round the text make an object with this one member, an object that
--                                    isn't empty, whose values are attributes with rising keys, 24 levels deep at most
--     value_of_json json                  the value that a JSON value stands for, unless a number in it isn't whole, or has more than
--                                    64 bits with its sign
--     has_bytes value                bytes stand in it, at any depth
--     bytes_as_texts value           what comes back of a value: such bytes have become their base64 texts
use Rattle.std.specs.List.{list_any}
use Rattle.std.specs.Prelude.{◌≡◌, ◌≢◌, ℕ, Bool, true, false, ◌||◌, List, [], ◌∷◌, ◌++◌, map, Option, Some, option_map, option_and_then}
use Rattle.base64.specs.GeneralPurpose.{encode_of}
use Rattle.base64.specs.Engines.{standard}
use Rattle.json.specs.Print.{quoted}
use Rattle.serde_json.specs.Data.{Data, null, boolean, number, string, array, object, Items, no_items, item, Members, no_members, member}
use Rattle.serde_json.specs.Find.{as_i64}
use Rattle.serde_json.specs.Read.{read}
use Rattle.trace_model.specs.ValueTexts.{has_double, json_text}
use Rattle.trace_model.specs.Values.{AreSound}
use Rattle.trace_model.specs.declared.value.Value.{Value, Text, Truth, Number, Bytes, List as Several, Map as Named, List', Map', Nothing, Row_of-Value, end_of-Value, more_of-Value, Row_of-Value-Map-0-2, end_of-Value-Map-0-2, more_of-Value-Map-0-2}

-- ---- written

-- a double stands in one of the values, at any depth
abbrev pub holds_double : List (List ℕ × Value) → Bool
holds_double attributes = list_any (λ pair. has_double pair.1) attributes

-- the text that stands for an event: its name alone where it has no attributes, else the name as a JSON string, a colon (58),
-- and the attributes as a JSON object without spaces
abbrev pub event_text : List ℕ → List (List ℕ × Value) → List ℕ
event_text name [] = name
event_text name (pair ∷ pairs) = quoted name ++ 58 ∷ json_text (Named (pair ∷ pairs))

-- ---- read

abbrev mutual
  pub value_of_json : Data → Option Value
  value_of_json null = Some Nothing
  value_of_json (boolean truth) = Some (Truth truth)
  value_of_json (number n) = option_map Number (as_i64 n)
  value_of_json (string text) = Some (Text text)
  value_of_json (array elements) = option_map Several (values_of_json elements)
  value_of_json (object members) = option_map Named (pairs_of_json members)

  pub values_of_json : Items → Option (List Value)
  values_of_json no_items = Some []
  values_of_json (item json rest) =
      option_and_then (λ value. option_map (λ values. value ∷ values) (values_of_json rest)) (value_of_json json)

  pub pairs_of_json : Members → Option (List (List ℕ × Value))
  pairs_of_json no_members = Some []
  pairs_of_json (member key json rest) =
      option_and_then (λ value. option_map (λ pairs. (key, value) ∷ pairs) (pairs_of_json rest)) (value_of_json json)

-- a JSON object with one member, whose name is the name and whose value is the object of the attributes
pub record IsEventJson (json : Data) (name : List ℕ) (attributes : List (List ℕ × Value)) : Type 0 where
  pub members : Members
  pub one : json ≡ object (member name (object members) no_members)
  pub values : pairs_of_json members ≡ Some attributes
  pub some : attributes ≢ []
  pub sound : AreSound attributes

-- the text between `{` (123) and `}` (125), so that members of a JSON object become an object
abbrev pub in_braces : List ℕ → List ℕ
in_braces text = 123 ∷ (text ++ 125 ∷ [])

-- in braces the text is JSON, an object of one member: the event's name, and as its value an object that holds the event's
-- attributes, of which there is one at least, and which are sound
pub record IsEventText (text name : List ℕ) (attributes : List (List ℕ × Value)) : Type 0 where
  pub json : Data
  pub reading : read (in_braces text) ≡ Some json
  pub event : IsEventJson json name attributes

-- ---- the way back

abbrev mutual
  pub has_bytes : Value → Bool
  has_bytes (Bytes held) = true
  has_bytes (List' shape members) = bytes_in_each members
  has_bytes (Map' shape members) = bytes_in_pairs members
  has_bytes value = false

  pub bytes_in_each : {n : _} → Row_of-Value n → Bool
  bytes_in_each end_of-Value = false
  bytes_in_each (more_of-Value value rest) = has_bytes value || bytes_in_each rest

  pub bytes_in_pairs : {n : _} → Row_of-Value-Map-0-2 n → Bool
  bytes_in_pairs end_of-Value-Map-0-2 = false
  bytes_in_pairs (more_of-Value-Map-0-2 key value rest) = has_bytes value || bytes_in_pairs rest

abbrev mutual
  pub bytes_as_texts : Value → Value
  bytes_as_texts (Bytes held) = Text (encode_of standard held)
  bytes_as_texts (List' shape members) = Several (texts_in_each members)
  bytes_as_texts (Map' shape members) = Named (texts_in_pairs members)
  bytes_as_texts value = value

  pub texts_in_each : {n : _} → Row_of-Value n → List Value
  texts_in_each end_of-Value = []
  texts_in_each (more_of-Value value rest) = bytes_as_texts value ∷ texts_in_each rest

  pub texts_in_pairs : {n : _} → Row_of-Value-Map-0-2 n → List (List ℕ × Value)
  texts_in_pairs end_of-Value-Map-0-2 = []
  texts_in_pairs (more_of-Value-Map-0-2 key value rest) = (key, bytes_as_texts value) ∷ texts_in_pairs rest

-- the attributes with a base64 text (RFC 4648, section 4) in the place of all bytes, at any depth of their values
abbrev pub with_texts : List (List ℕ × Value) → List (List ℕ × Value)
with_texts attributes = map (λ pair. (pair.0, bytes_as_texts pair.1)) attributes
