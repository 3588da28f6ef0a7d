-- The text of a list or of a map by its members.
use Rattle.std.proofs.Common.{◌≡◌, ℕ, List, ◌++◌, sym, ap, ◌∙◌}
use mathlib.Core.Former.{Count}
use Rattle.trace_model.specs.declared.value.Value.{Value, List as Several, Map as Named, List', Map', Row_of-Value, end_of-Value, more_of-Value, Row_of-Value-Map-0-2, end_of-Value-Map-0-2, more_of-Value-Map-0-2, items-the_row-Value, items-the_row-Value-Map-0-2, items_hidden-the_row-Value-0, items_hidden-the_row-Value-Map-0-2-1}
use Rattle.otlp_proto.specs.Canonical.{bytes_field, list_text, value_text, members_text, entries_text, key_value_text, attributes_text}
use Rattle.otlp_proto.proofs.ListTexts.{list_none, list_first}

abbrev row_of : Value → (n : Count) × Row_of-Value n
row_of (List' _ row) = (_, row)
row_of _ = (_, end_of-Value)

abbrev pairs_of : Value → (n : Count) × Row_of-Value-Map-0-2 n
pairs_of (Map' _ row) = (_, row)
pairs_of _ = (_, end_of-Value-Map-0-2)

members_row : (n : _) (row : Row_of-Value n) → members_text row ≡ list_text 1 value_text (items-the_row-Value n row)
members_row n end_of-Value = sym (list_none 1 value_text)
members_row n (more_of-Value value rest) = ap (λ (l : List ℕ). bytes_field 1 (value_text value) ++ l) (members_row _ rest) ∙ sym (list_first 1 value_text value (items-the_row-Value _ rest))

entries_row : (n : _) (row : Row_of-Value-Map-0-2 n) → entries_text row ≡ list_text 1 key_value_text (items-the_row-Value-Map-0-2 n row)
entries_row n end_of-Value-Map-0-2 = sym (list_none 1 key_value_text)
entries_row n (more_of-Value-Map-0-2 key value rest) = ap (λ (l : List ℕ). bytes_field 1 (key_value_text (key, value)) ++ l) (entries_row _ rest) ∙ sym (list_first 1 key_value_text (key, value) (items-the_row-Value-Map-0-2 _ rest))

pub list_value : (members : List Value) → value_text (Several members) ≡ bytes_field 5 (list_text 1 value_text members)
list_value members =
    let row = row_of (Several members) in
    ap (bytes_field 5) (members_row row.0 row.1 ∙ ap (list_text 1 value_text) (items_hidden-the_row-Value-0 members))

pub map_value : (pairs : List (List ℕ × Value)) → value_text (Named pairs) ≡ bytes_field 6 (attributes_text 1 pairs)
map_value pairs =
    let row = pairs_of (Named pairs) in
    ap (bytes_field 6) (entries_row row.0 row.1 ∙ ap (list_text 1 key_value_text) (items_hidden-the_row-Value-Map-0-2-1 pairs))
