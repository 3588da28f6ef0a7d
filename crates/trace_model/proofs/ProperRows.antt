-- The members of a proper value as a list.
use Rattle.std.proofs.Common.{ℕ, List, All, sym, subst}
use Rattle.std.specs.Prelude.{◌↔◌}
use Rattle.std.proofs.lemmas.List.Elements.{All-nil, All-cons, All-head, All-tail}
use mathlib.Core.Former.{Count}
use Rattle.trace_model.specs.declared.value.Value.{Value, List as Several, Map as Named, List', Map', Row_of-Value, end_of-Value, more_of-Value, Row_of-Value-Map-0-2, end_of-Value-Map-0-2, more_of-Value-Map-0-2, items-the_row-Value, items-the_row-Value-Map-0-2, items_hidden-the_row-Value-0, items_hidden-the_row-Value-Map-0-2-1}
use Rattle.trace_model.specs.Proper.{IsProperValue, IsProperEach, IsProperEachPair, IsProperPair, AreProper}

abbrev row_of : Value → (n : Count) × Row_of-Value n
row_of (List' _ row) = (_, row)
row_of _ = (_, end_of-Value)

abbrev pairs_of : Value → (n : Count) × Row_of-Value-Map-0-2 n
pairs_of (Map' _ row) = (_, row)
pairs_of _ = (_, end_of-Value-Map-0-2)

each_row : (n : _) (row : Row_of-Value n) → IsProperEach row → All IsProperValue (items-the_row-Value n row)
each_row n end_of-Value h = All-nil IsProperValue
each_row n (more_of-Value value rest) h = All-cons IsProperValue value _ h.0 (each_row _ rest h.1)

each_to_row : (n : _) (row : Row_of-Value n) → All IsProperValue (items-the_row-Value n row) → IsProperEach row
each_to_row n end_of-Value h = tt
each_to_row n (more_of-Value value rest) h = (All-head IsProperValue value _ h, each_to_row _ rest (All-tail IsProperValue value _ h))

pub list_proper : (members : List Value) → IsProperValue (Several members) ↔ All IsProperValue members
list_proper members =
    let row = row_of (Several members) in
    let same = items_hidden-the_row-Value-0 members in
    (λ h. subst (All IsProperValue) same (each_row row.0 row.1 h), λ h. each_to_row row.0 row.1 (subst (All IsProperValue) (sym same) h))

pairs_row : (n : _) (row : Row_of-Value-Map-0-2 n) → IsProperEachPair row → AreProper (items-the_row-Value-Map-0-2 n row)
pairs_row n end_of-Value-Map-0-2 h = All-nil IsProperPair
pairs_row n (more_of-Value-Map-0-2 key value rest) h = All-cons IsProperPair (key, value) _ (record { key = h.0; value = h.1 }) (pairs_row _ rest h.2)

pairs_to_row : (n : _) (row : Row_of-Value-Map-0-2 n) → AreProper (items-the_row-Value-Map-0-2 n row) → IsProperEachPair row
pairs_to_row n end_of-Value-Map-0-2 h = tt
pairs_to_row n (more_of-Value-Map-0-2 key value rest) h =
    let one : IsProperPair (key, value) = All-head IsProperPair (key, value) _ h in (one.key, one.value, pairs_to_row _ rest (All-tail IsProperPair (key, value) _ h))

pub map_proper : (pairs : List (List ℕ × Value)) → IsProperValue (Named pairs) ↔ AreProper pairs
map_proper pairs =
    let row = pairs_of (Named pairs) in
    let same = items_hidden-the_row-Value-Map-0-2-1 pairs in
    (λ h. subst AreProper same (pairs_row row.0 row.1 h), λ h. pairs_to_row row.0 row.1 (subst AreProper (sym same) h))
