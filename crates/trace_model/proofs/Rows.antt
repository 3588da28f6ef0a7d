-- The members of a value as a list.
use Rattle.std.proofs.Common.{◌≡◌, ℕ, ◌+◌, ◌≤◌, List, ◌∷◌, All, refl, sym, ap, ◌∙◌, subst, arith}
use Rattle.std.specs.Prelude.{◌↔◌}
use Rattle.std.proofs.lemmas.List.Elements.{All-nil, All-cons, All-head, All-tail}
use mathlib.Core.Former.{Count}
use Rattle.trace_model.specs.declared.value.Value.{Value, List as Several, Map as Named, List', Map', Row_of-Value, end_of-Value, more_of-Value, Row_of-Value-Map-0-2, end_of-Value-Map-0-2, more_of-Value-Map-0-2, items-the_row-Value, items-the_row-Value-Map-0-2, items_hidden-the_row-Value-0, items_hidden-the_row-Value-Map-0-2-1}
use Rattle.trace_model.specs.Attributes.{Rise, keys}
use Rattle.trace_model.specs.Values.{depth, deepest, deepest_of_pairs, keys_of_row, MapsRise, MapsRiseInEach, MapsRiseInPairs}

abbrev row_of : Value → (n : Count) × Row_of-Value n
row_of (List' _ row) = (_, row)
row_of _ = (_, end_of-Value)

abbrev pairs_of : Value → (n : Count) × Row_of-Value-Map-0-2 n
pairs_of (Map' _ row) = (_, row)
pairs_of _ = (_, end_of-Value-Map-0-2)

module _ (d : ℕ) where
  abbrev Shallow : Value → Type 0
  Shallow value = depth value ≤ d

  abbrev ShallowPair : List ℕ × Value → Type 0
  ShallowPair pair = depth pair.1 ≤ d

  shallow_row : (n : _) (row : Row_of-Value n) → deepest row ≤ d → All Shallow (items-the_row-Value n row)
  shallow_row n end_of-Value h = All-nil Shallow
  shallow_row n (more_of-Value value rest) h = All-cons Shallow value _ (omega arith) (shallow_row _ rest (omega arith))

  shallow_to_row : (n : _) (row : Row_of-Value n) → All Shallow (items-the_row-Value n row) → deepest row ≤ d
  shallow_to_row n end_of-Value h = omega arith
  shallow_to_row n (more_of-Value value rest) h = omega (arith, All-head Shallow value _ h, shallow_to_row _ rest (All-tail Shallow value _ h))

  pub list_depth : (members : List Value) → (depth (Several members) ≤ d + 1) ↔ All (λ value. depth value ≤ d) members
  list_depth members =
      let row = row_of (Several members) in
      let same = items_hidden-the_row-Value-0 members in (
        λ (h : deepest row.1 + 1 ≤ d + 1). subst (All Shallow) same (shallow_row row.0 row.1 (omega arith)),
        λ h. let low : deepest row.1 ≤ d = shallow_to_row row.0 row.1 (subst (All Shallow) (sym same) h) in omega arith,
      )

  shallow_pairs : (n : _) (row : Row_of-Value-Map-0-2 n) → deepest_of_pairs row ≤ d → All ShallowPair (items-the_row-Value-Map-0-2 n row)
  shallow_pairs n end_of-Value-Map-0-2 h = All-nil ShallowPair
  shallow_pairs n (more_of-Value-Map-0-2 key value rest) h = All-cons ShallowPair (key, value) _ (omega arith) (shallow_pairs _ rest (omega arith))

  shallow_to_pairs : (n : _) (row : Row_of-Value-Map-0-2 n) → All ShallowPair (items-the_row-Value-Map-0-2 n row) → deepest_of_pairs row ≤ d
  shallow_to_pairs n end_of-Value-Map-0-2 h = omega arith
  shallow_to_pairs n (more_of-Value-Map-0-2 key value rest) h =
      omega (arith, All-head ShallowPair (key, value) _ h, shallow_to_pairs _ rest (All-tail ShallowPair (key, value) _ h))

  pub map_depth : (pairs : List (List ℕ × Value)) → (depth (Named pairs) ≤ d + 1) ↔ All (λ pair. depth pair.1 ≤ d) pairs
  map_depth pairs =
      let row = pairs_of (Named pairs) in
      let same = items_hidden-the_row-Value-Map-0-2-1 pairs in (
        λ (h : deepest_of_pairs row.1 + 1 ≤ d + 1). subst (All ShallowPair) same (shallow_pairs row.0 row.1 (omega arith)),
        λ h. let low : deepest_of_pairs row.1 ≤ d = shallow_to_pairs row.0 row.1 (subst (All ShallowPair) (sym same) h) in omega arith,
      )

rises_row : (n : _) (row : Row_of-Value n) → MapsRiseInEach row → All MapsRise (items-the_row-Value n row)
rises_row n end_of-Value h = All-nil MapsRise
rises_row n (more_of-Value value rest) h = All-cons MapsRise value _ h.0 (rises_row _ rest h.1)

rises_to_row : (n : _) (row : Row_of-Value n) → All MapsRise (items-the_row-Value n row) → MapsRiseInEach row
rises_to_row n end_of-Value h = tt
rises_to_row n (more_of-Value value rest) h = (All-head MapsRise value _ h, rises_to_row _ rest (All-tail MapsRise value _ h))

pub list_rises : (members : List Value) → MapsRise (Several members) ↔ All MapsRise members
list_rises members =
    let row = row_of (Several members) in
    let same = items_hidden-the_row-Value-0 members in
    (λ h. subst (All MapsRise) same (rises_row row.0 row.1 h), λ h. rises_to_row row.0 row.1 (subst (All MapsRise) (sym same) h))

abbrev RisesPair : List ℕ × Value → Type 0
RisesPair pair = MapsRise pair.1

rises_pairs : (n : _) (row : Row_of-Value-Map-0-2 n) → MapsRiseInPairs row → All RisesPair (items-the_row-Value-Map-0-2 n row)
rises_pairs n end_of-Value-Map-0-2 h = All-nil RisesPair
rises_pairs n (more_of-Value-Map-0-2 key value rest) h = All-cons RisesPair (key, value) _ h.0 (rises_pairs _ rest h.1)

rises_to_pairs : (n : _) (row : Row_of-Value-Map-0-2 n) → All RisesPair (items-the_row-Value-Map-0-2 n row) → MapsRiseInPairs row
rises_to_pairs n end_of-Value-Map-0-2 h = tt
rises_to_pairs n (more_of-Value-Map-0-2 key value rest) h =
    (All-head RisesPair (key, value) _ h, rises_to_pairs _ rest (All-tail RisesPair (key, value) _ h))

row_keys : (n : _) (row : Row_of-Value-Map-0-2 n) → keys_of_row row ≡ keys (items-the_row-Value-Map-0-2 n row)
row_keys n end_of-Value-Map-0-2 = refl
row_keys n (more_of-Value-Map-0-2 key value rest) = ap (λ l. key ∷ l) (row_keys _ rest)

pub map_rises : (pairs : List (List ℕ × Value)) → MapsRise (Named pairs) ↔ (Rise (keys pairs) × All (λ pair. MapsRise pair.1) pairs)
map_rises pairs =
    let row = pairs_of (Named pairs) in
    let same = items_hidden-the_row-Value-Map-0-2-1 pairs in
    let names : keys_of_row row.1 ≡ keys pairs = row_keys row.0 row.1 ∙ ap keys same in (
      λ h. (subst Rise names h.0, subst (All RisesPair) same (rises_pairs row.0 row.1 h.1)),
      λ h. (subst Rise (sym names) h.0, rises_to_pairs row.0 row.1 (subst (All RisesPair) (sym same) h.1)),
    )
