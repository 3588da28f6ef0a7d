-- The tokens of values.
use Rattle.std.proofs.Common.{◌≡◌, ℕ, List, [], ◌∷◌, ◌++◌, map, codes, refl, ap, ◌∙◌, append_assoc}
use mathlib.Core.Former.{Count}
use Rattle.json.specs.Token.{begin_object, end_object, key}
use Rattle.serde_json.specs.Data.{Data, array, item}
use Rattle.serde_json.specs.View.{items_of}
use Rattle.trace_model.specs.declared.value.Value.{Value, Text, Truth, Number, Eight, Bytes, List as Several, Map as Named, Nothing, List', Map', Row_of-Value, end_of-Value, more_of-Value, Row_of-Value-Map-0-2, end_of-Value-Map-0-2, more_of-Value-Map-0-2, items-the_row-Value, items-the_row-Value-Map-0-2, items_hidden-the_row-Value-0, items_hidden-the_row-Value-Map-0-2-1}
use Rattle.json_members.specs.Canonical.{text_data}
use Rattle.json_members.specs.Writing.{data_tokens, given_tokens}
use Rattle.json_members.proofs.WritingLaws.{member_rows_written}
use Rattle.otlp_json.specs.Canonical.{one_member, of_values, any_value_data, each_data, pairs_data, key_value_data, unless_bare, list_data, attributes_data}
use Rattle.otlp_json.specs.private.Writing.{value_tokens, key_value_tokens}

-- ---- the data of lists and maps, by their members

abbrev row_of : Value → (n : Count) × Row_of-Value n
row_of (List' _ row) = (_, row)
row_of _ = (_, end_of-Value)

abbrev pairs_of : Value → (n : Count) × Row_of-Value-Map-0-2 n
pairs_of (Map' _ row) = (_, row)
pairs_of _ = (_, end_of-Value-Map-0-2)

abbrev pair_data : List ℕ × Value → Data
pair_data pair = key_value_data pair.0 (any_value_data pair.1)

each_row : (n : _) (row : Row_of-Value n) → each_data row ≡ items_of (map any_value_data (items-the_row-Value n row))
each_row n end_of-Value = refl
each_row n (more_of-Value value rest) = ap (λ l. item (any_value_data value) l) (each_row _ rest)

pairs_row : (n : _) (row : Row_of-Value-Map-0-2 n) → pairs_data row ≡ items_of (map pair_data (items-the_row-Value-Map-0-2 n row))
pairs_row n end_of-Value-Map-0-2 = refl
pairs_row n (more_of-Value-Map-0-2 k value rest) = ap (λ l. item (key_value_data k (any_value_data value)) l) (pairs_row _ rest)

list_of_members : (members : List Value) → any_value_data (Several members) ≡ one_member (codes "arrayValue") (of_values (items_of (map any_value_data members)))
list_of_members members =
    let row = row_of (Several members) in
    ap (λ l. one_member (codes "arrayValue") (of_values l)) (each_row row.0 row.1 ∙ ap (λ (l : List Value). items_of (map any_value_data l)) (items_hidden-the_row-Value-0 members))

map_of_pairs : (pairs : List (List ℕ × Value)) → any_value_data (Named pairs) ≡ one_member (codes "kvlistValue") (of_values (items_of (map pair_data pairs)))
map_of_pairs pairs =
    let row = pairs_of (Named pairs) in
    ap (λ l. one_member (codes "kvlistValue") (of_values l)) (pairs_row row.0 row.1 ∙ ap (λ (l : List (List ℕ × Value)). items_of (map pair_data l)) (items_hidden-the_row-Value-Map-0-2-1 pairs))

-- ---- their tokens

held_tokens : {A : Type 0} (data_of : A → Data) (name : List ℕ) (list : List A) → data_tokens (one_member name (of_values (items_of (map data_of list))))
    ≡ begin_object ∷ key name ∷ begin_object ∷ (given_tokens (codes "values") (list_data data_of list) ++ end_object ∷ end_object ∷ [])
held_tokens data_of name [] = refl
held_tokens data_of name (x ∷ more) =
    ap (λ l. begin_object ∷ key name ∷ begin_object ∷ key (codes "values") ∷ l) (append_assoc (data_tokens (array (items_of (map data_of (x ∷ more))))) (end_object ∷ []) (end_object ∷ []))

pub list_tokens : (members : List Value) → value_tokens (Several members) ≡ begin_object ∷ key (codes "arrayValue") ∷ begin_object ∷ (given_tokens (codes "values") (list_data any_value_data members) ++ end_object ∷ end_object ∷ [])
unfolding value_tokens
list_tokens members = ap data_tokens (list_of_members members) ∙ held_tokens any_value_data (codes "arrayValue") members

pub map_tokens : (pairs : List (List ℕ × Value)) → value_tokens (Named pairs) ≡ begin_object ∷ key (codes "kvlistValue") ∷ begin_object ∷ (given_tokens (codes "values") (attributes_data pairs) ++ end_object ∷ end_object ∷ [])
unfolding value_tokens
map_tokens pairs = ap data_tokens (map_of_pairs pairs) ∙ held_tokens pair_data (codes "kvlistValue") pairs

-- a key with its value
pub pair_rows : (k : List ℕ) (value : Value) → key_value_tokens (k, value) ≡ begin_object ∷ (given_tokens (codes "key") (text_data k) ++ (given_tokens (codes "value") (unless_bare (any_value_data value)) ++ end_object ∷ []))
unfolding key_value_tokens
pair_rows k value = ap (λ l. begin_object ∷ l) (member_rows_written ((codes "key", text_data k) ∷ (codes "value", unless_bare (any_value_data value)) ∷ []))

-- the value of a key, if it is something
pub value_there : (value : Value) → (value ≡ Nothing → ⊥) → given_tokens (codes "value") (unless_bare (any_value_data value)) ≡ key (codes "value") ∷ value_tokens value
unfolding value_tokens
value_there (Text text) some = refl
value_there (Truth truth) some = refl
value_there (Number n) some = refl
value_there (Eight double) some = refl
value_there (List' shape members) some = refl
value_there (Map' shape members) some = refl
value_there (Bytes held) some = refl
value_there Nothing some = absurd (some refl)
