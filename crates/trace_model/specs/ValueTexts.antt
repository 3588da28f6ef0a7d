-- A value as a text, and as JSON (RFC 8259).
--     has_double value   a double stands in it, at any depth
--     json_of value      its JSON: bytes as their standard base64 with padding (RFC 4648, section 4), nothing as null, and a map
--                        as an object in the order of its keys
--     value_text value   a list or map is its JSON without spaces; a leaf that is no text is as `{}` prints it, bytes are their
--                        base64, and nothing is the empty text
-- Neither the JSON nor the text is asked for where a double stands in the value.
use Rattle.std.specs.Prelude.{ℕ, Bool, true, false, ◌||◌, List, [], codes}
use Rattle.std.specs.Fmt.{signed_decimal}
use Rattle.base64.specs.GeneralPurpose.{encode_of}
use Rattle.base64.specs.Engines.{standard}
use Rattle.json.specs.Json as json
use Rattle.json.specs.Tree.{json_tokens}
use Rattle.json.specs.Print.{print}
use Rattle.trace_model.specs.declared.value.Value.{Value, Text, Truth, Number, Eight, Bytes, List', Map', Nothing, Row_of-Value, end_of-Value, more_of-Value, Row_of-Value-Map-0-2, end_of-Value-Map-0-2, more_of-Value-Map-0-2}

abbrev mutual
  pub has_double : Value → Bool
  has_double (Eight double) = true
  has_double (List' shape members) = double_in_each members
  has_double (Map' shape members) = double_in_pairs members
  has_double _ = false

  pub double_in_each : {n : _} → Row_of-Value n → Bool
  double_in_each end_of-Value = false
  double_in_each (more_of-Value value rest) = has_double value || double_in_each rest

  pub double_in_pairs : {n : _} → Row_of-Value-Map-0-2 n → Bool
  double_in_pairs end_of-Value-Map-0-2 = false
  double_in_pairs (more_of-Value-Map-0-2 key value rest) = has_double value || double_in_pairs rest

abbrev mutual
  pub json_of : Value → json.Json
  json_of (Text text) = json.string text
  json_of (Truth truth) = json.boolean truth
  json_of (Number n) = json.number (signed_decimal n)
  json_of (Eight double) = json.null
  json_of (Bytes held) = json.string (encode_of standard held)
  json_of (List' shape members) = json.array (json_of_each members)
  json_of (Map' shape members) = json.object (json_of_pairs members)
  json_of Nothing = json.null

  pub json_of_each : {n : _} → Row_of-Value n → json.Items
  json_of_each end_of-Value = json.no_items
  json_of_each (more_of-Value value rest) = json.item (json_of value) (json_of_each rest)

  pub json_of_pairs : {n : _} → Row_of-Value-Map-0-2 n → json.Members
  json_of_pairs end_of-Value-Map-0-2 = json.no_members
  json_of_pairs (more_of-Value-Map-0-2 key value rest) = json.member key (json_of value) (json_of_pairs rest)

-- the word `true` or `false`, as JSON spells it
abbrev pub truth_text : Bool → List ℕ
truth_text true = codes "true"
truth_text false = codes "false"

-- the JSON text without spaces
abbrev pub json_text : Value → List ℕ
json_text value = print (json_tokens (json_of value))

-- the value of an attribute in a form whose values are texts: a text is itself, and an integer is decimal, with a minus sign
-- below zero. A double has no text, and the empty one stands here
abbrev pub value_text : Value → List ℕ
value_text (Text text) = text
value_text (Truth truth) = truth_text truth
value_text (Number n) = signed_decimal n
value_text (Eight double) = []
value_text (Bytes held) = encode_of standard held
value_text (List' shape members) = json_text (List' shape members)
value_text (Map' shape members) = json_text (Map' shape members)
value_text Nothing = []
