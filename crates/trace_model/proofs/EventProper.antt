-- The event of a text in UTF-8 is proper.
use Rattle.std.proofs.Common.{◌≡◌, ℕ, List, [], ◌∷◌, ◌++◌, All, Some, option_map, IsUtf8, lit≤, subst}
use Rattle.std.proofs.lemmas.List.Elements.{All-nil, All-cons}
use Rattle.std.proofs.lemmas.Str.{IsUtf8-append, IsUtf8-nil}
use Rattle.serde_json.specs.Data.{Data, null, boolean, number, string, array, object, Items, no_items, item, Members, no_members, member}
use Rattle.serde_json.specs.Find.{as_i64}
use Rattle.trace_model.specs.EventExact.{EventTextsProper}
use Rattle.trace_model.specs.EventTexts.{IsEventText, in_braces, value_of_json, values_of_json, pairs_of_json}
use Rattle.trace_model.specs.Proper.{IsProperValue, IsProperPair, AreProper}
use Rattle.trace_model.specs.declared.value.Value.{Value, Text, Truth, Number, List as Several, Map as Named, Nothing}
use Rattle.trace_model.proofs.EventOptions.{map_some, then_some}
use Rattle.trace_model.proofs.JsonContent.{ascii_then}
use Rattle.trace_model.proofs.JsonData.{FineData, FineItems, FineMembers, number_fits, read_is_fine}
use Rattle.trace_model.proofs.ProperRows.{list_proper, map_proper}

mutual
  value_proper : (d : Data) (v : Value) → value_of_json d ≡ Some v → FineData d → IsProperValue v
  value_proper null v e fine = let is : Nothing ≡ v = cc in subst IsProperValue is tt
  value_proper (boolean b) v e fine = let is : Truth b ≡ v = cc in subst IsProperValue is tt
  value_proper (number n) v e fine =
      let i = map_some Number (as_i64 n) v e in
      subst IsProperValue i.2 (number_fits fine.0 n fine.1 i.0 i.1)
  value_proper (string t) v e fine = let is : Text t ≡ v = cc in subst IsProperValue is fine
  value_proper (array ds) v e fine =
      let i = map_some Several (values_of_json ds) v e in
      subst IsProperValue i.2 ((list_proper i.0).1 (values_proper ds i.0 i.1 fine))
  value_proper (object ms) v e fine =
      let i = map_some Named (pairs_of_json ms) v e in
      subst IsProperValue i.2 ((map_proper i.0).1 (pairs_proper ms i.0 i.1 fine))

  values_proper : (ds : Items) (vs : List Value) → values_of_json ds ≡ Some vs → FineItems ds → All IsProperValue vs
  values_proper no_items vs e fine = let is : [] ≡ vs = cc in subst (All IsProperValue) is (All-nil IsProperValue)
  values_proper (item d ds) vs e fine =
      let i = then_some (λ v. option_map (λ l. v ∷ l) (values_of_json ds)) (value_of_json d) vs e in
      let j = map_some (λ l. i.0 ∷ l) (values_of_json ds) vs i.2 in
      subst (All IsProperValue) j.2 (All-cons IsProperValue i.0 j.0 (value_proper d i.0 i.1 fine.0) (values_proper ds j.0 j.1 fine.1))

  pairs_proper : (ms : Members) (ps : List (List ℕ × Value)) → pairs_of_json ms ≡ Some ps → FineMembers ms → AreProper ps
  pairs_proper no_members ps e fine = let is : [] ≡ ps = cc in subst AreProper is (All-nil IsProperPair)
  pairs_proper (member k d ms) ps e fine =
      let i = then_some (λ v. option_map (λ l. (k, v) ∷ l) (pairs_of_json ms)) (value_of_json d) ps e in
      let j = map_some (λ l. (k, i.0) ∷ l) (pairs_of_json ms) ps i.2 in
      subst AreProper j.2 (All-cons IsProperPair (k, i.0) j.0 (record { key = fine.0; value = value_proper d i.0 i.1 fine.1 }) (pairs_proper ms j.0 j.1 fine.2))

braces_utf8 : (text : List ℕ) → IsUtf8 text → IsUtf8 (in_braces text)
braces_utf8 text utf8 = ascii_then 123 (text ++ 125 ∷ []) (lit≤ tt) (IsUtf8-append text (125 ∷ []) utf8 (ascii_then 125 [] (lit≤ tt) IsUtf8-nil))

by_event : (text name : List ℕ) (attributes : List (List ℕ × Value)) → (is : IsEventText text name attributes) → FineData is.json → IsUtf8 name × AreProper attributes
by_event text name attributes is fine =
    let one : FineData (object (member name (object is.event.members) no_members)) = subst FineData is.event.one fine in
    (one.0, pairs_proper is.event.members attributes is.event.values one.1)

pub texts_proper : EventTextsProper
texts_proper text name attributes is utf8 = by_event text name attributes is (read_is_fine (in_braces text) is.json (braces_utf8 text utf8) is.reading)
