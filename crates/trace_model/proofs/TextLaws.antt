-- The texts of proper values: they are UTF-8, and a list or map is read back as its JSON.
use Rattle.std.proofs.Common.{◌≡◌, ℕ, ◌≤◌, Bool, true, false, List, [], ◌∷◌, ◌++◌, Some, refl, arith}
use Rattle.std.specs.Prelude.{IsUtf8, ⊤}
use Rattle.std.proofs.lemmas.Str.{IsUtf8-nil, IsUtf8-append, IsUtf8-from_ascii}
use Rattle.std.proofs.lemmas.Fmt.{IsAscii-signed}
use Rattle.std.specs.Fmt.{signed_decimal}
use Rattle.base64.specs.GeneralPurpose.{encode_of}
use Rattle.base64.specs.Engines.{standard}
use Rattle.base64.proofs.EngineFacts.{IsAscii-encode_of}
use Rattle.json.specs.Token.{Token}
use Rattle.json.specs.Print.{token_text, separator, ends, print_from}
use Rattle.json.specs.Json.{document}
use Rattle.json.specs.Tree as tree
use Rattle.json.proofs.Printed.Decimals.{IsNumber-signed_decimal}
use Rattle.json.proofs.Printed.Trees.{document-print}
use Rattle.json.proofs.Printed.Utf8.{IsUtf8-are_ascii, IsUtf8-quoted, IsUtf8-key, IsUtf8-boolean, IsUtf8-separator}
use Rattle.trace_model.specs.declared.value.Value.{Value, Text, Truth, Number, Eight, Bytes, List', Map', Nothing, Row_of-Value, end_of-Value, more_of-Value, Row_of-Value-Map-0-2, end_of-Value-Map-0-2, more_of-Value-Map-0-2}
use Rattle.trace_model.specs.Proper.{IsProperValue, IsProperEach, IsProperEachPair}
use Rattle.trace_model.specs.Values.{depth, deepest, deepest_of_pairs, most_levels}
use Rattle.trace_model.specs.ValueTexts.{json_of, json_of_each, json_of_pairs, truth_text, json_text, value_text}

-- ---- UTF-8

abbrev AreUtf8 : List Token → Type 0
AreUtf8 [] = ⊤
AreUtf8 (t ∷ ts) = IsUtf8 (token_text t) × AreUtf8 ts

utf8_append : (xs ys : List Token) → AreUtf8 xs → AreUtf8 ys → AreUtf8 (xs ++ ys)
utf8_append [] ys a b = b
utf8_append (x ∷ xs) ys a b = (a.0, utf8_append xs ys a.1 b)

print_utf8 : (after : Bool) (ts : List Token) → AreUtf8 ts → IsUtf8 (print_from after ts)
unfolding print_from
print_utf8 after [] h = IsUtf8-nil
print_utf8 after (t ∷ ts) h = IsUtf8-append (separator after t) _ (IsUtf8-separator after t) (IsUtf8-append (token_text t) _ h.0 (print_utf8 (ends t) ts h.1))

bytes_utf8 : (held : List ℕ) → IsUtf8 (encode_of standard held)
bytes_utf8 held = IsUtf8-from_ascii (encode_of standard held) (IsAscii-encode_of standard held)

mutual
  tokens_utf8 : (value : Value) → IsProperValue value → AreUtf8 (tree.json_tokens (json_of value))
  tokens_utf8 (Text text) h = (IsUtf8-quoted text h, tt)
  tokens_utf8 (Truth truth) h = (IsUtf8-boolean truth, tt)
  tokens_utf8 (Number n) h = (IsUtf8-from_ascii (signed_decimal n) (IsAscii-signed n h.sfits), tt)
  tokens_utf8 (Eight double) h = (IsUtf8-are_ascii (token_text Token.null) refl, tt)
  tokens_utf8 (Bytes held) h = (IsUtf8-quoted (encode_of standard held) (bytes_utf8 held), tt)
  tokens_utf8 (List' shape members) h = (IsUtf8-are_ascii (token_text Token.begin_array) refl, each_utf8 _ members h)
  tokens_utf8 (Map' shape members) h = (IsUtf8-are_ascii (token_text Token.begin_object) refl, pairs_utf8 _ members h)
  tokens_utf8 Nothing h = (IsUtf8-are_ascii (token_text Token.null) refl, tt)

  each_utf8 : (n : _) (row : Row_of-Value n) → IsProperEach row → AreUtf8 (tree.items_tokens (json_of_each row))
  each_utf8 n end_of-Value h = (IsUtf8-are_ascii (token_text Token.end_array) refl, tt)
  each_utf8 n (more_of-Value value rest) h = utf8_append (tree.json_tokens (json_of value)) _ (tokens_utf8 value h.0) (each_utf8 _ rest h.1)

  pairs_utf8 : (n : _) (row : Row_of-Value-Map-0-2 n) → IsProperEachPair row → AreUtf8 (tree.members_tokens (json_of_pairs row))
  pairs_utf8 n end_of-Value-Map-0-2 h = (IsUtf8-are_ascii (token_text Token.end_object) refl, tt)
  pairs_utf8 n (more_of-Value-Map-0-2 key value rest) h = (IsUtf8-key key h.0, utf8_append (tree.json_tokens (json_of value)) _ (tokens_utf8 value h.1) (pairs_utf8 _ rest h.2))

truth_utf8 : (truth : Bool) → IsUtf8 (truth_text truth)
truth_utf8 true = IsUtf8-are_ascii (truth_text true) refl
truth_utf8 false = IsUtf8-are_ascii (truth_text false) refl

pub text_utf8 : (value : Value) → IsProperValue value → IsUtf8 (value_text value)
text_utf8 (Text text) h = h
text_utf8 (Truth truth) h = truth_utf8 truth
text_utf8 (Number n) h = IsUtf8-from_ascii (signed_decimal n) (IsAscii-signed n h.sfits)
text_utf8 (Eight double) h = IsUtf8-nil
text_utf8 (Bytes held) h = bytes_utf8 held
text_utf8 (List' shape members) h = print_utf8 false _ (tokens_utf8 (List' shape members) h)
text_utf8 (Map' shape members) h = print_utf8 false _ (tokens_utf8 (Map' shape members) h)
text_utf8 Nothing h = IsUtf8-nil

-- ---- read back

mutual
  pub has_numbers : (value : Value) → IsProperValue value → tree.HasNumbers (json_of value)
  has_numbers (Text text) h = tt
  has_numbers (Truth truth) h = tt
  has_numbers (Number n) h = IsNumber-signed_decimal n h.sfits
  has_numbers (Eight double) h = tt
  has_numbers (Bytes held) h = tt
  has_numbers (List' shape members) h = each_numbers _ members h
  has_numbers (Map' shape members) h = pairs_numbers _ members h
  has_numbers Nothing h = tt

  each_numbers : (n : _) (row : Row_of-Value n) → IsProperEach row → tree.ItemsHaveNumbers (json_of_each row)
  each_numbers n end_of-Value h = tt
  each_numbers n (more_of-Value value rest) h = (has_numbers value h.0, each_numbers _ rest h.1)

  pairs_numbers : (n : _) (row : Row_of-Value-Map-0-2 n) → IsProperEachPair row → tree.MembersHaveNumbers (json_of_pairs row)
  pairs_numbers n end_of-Value-Map-0-2 h = tt
  pairs_numbers n (more_of-Value-Map-0-2 key value rest) h = (has_numbers value h.1, pairs_numbers _ rest h.2)

mutual
  pub no_deeper : (value : Value) → tree.depth (json_of value) ≤ depth value
  no_deeper (Text text) = omega arith
  no_deeper (Truth truth) = omega arith
  no_deeper (Number n) = omega arith
  no_deeper (Eight double) = omega arith
  no_deeper (Bytes held) = omega arith
  no_deeper (List' shape members) = omega (arith, each_no_deeper _ members)
  no_deeper (Map' shape members) = omega (arith, pairs_no_deeper _ members)
  no_deeper Nothing = omega arith

  each_no_deeper : (n : _) (row : Row_of-Value n) → tree.items_depth (json_of_each row) ≤ deepest row
  each_no_deeper n end_of-Value = omega arith
  each_no_deeper n (more_of-Value value rest) = omega (arith, no_deeper value, each_no_deeper _ rest)

  pairs_no_deeper : (n : _) (row : Row_of-Value-Map-0-2 n) → tree.members_depth (json_of_pairs row) ≤ deepest_of_pairs row
  pairs_no_deeper n end_of-Value-Map-0-2 = omega arith
  pairs_no_deeper n (more_of-Value-Map-0-2 key value rest) = omega (arith, no_deeper value, pairs_no_deeper _ rest)

pub read_back : (value : Value) → IsProperValue value → depth value ≤ most_levels → document (json_text value) ≡ Some (json_of value)
read_back value proper shallow = document-print (json_of value) (has_numbers value proper) (omega (arith, no_deeper value))
