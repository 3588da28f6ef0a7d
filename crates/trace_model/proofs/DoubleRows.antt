-- Doubles in a list or map, by its members.
use Rattle.std.proofs.Common.{◌≡◌, ℕ, ◌+◌, ◌<◌, List, length, take, get_or, Bool, false, ◌||◌, refl, sym, ap, ◌∙◌}
use Rattle.std.specs.List.{list_any}
use Rattle.std.proofs.lemmas.List.Folds.{list_any_more}
use mathlib.Core.Former.{Count}
use Rattle.trace_model.specs.declared.value.Value.{Value, List as Several, Map as Named, List', Map', Row_of-Value, end_of-Value, more_of-Value, Row_of-Value-Map-0-2, end_of-Value-Map-0-2, more_of-Value-Map-0-2, items-the_row-Value, items-the_row-Value-Map-0-2, items_hidden-the_row-Value-0, items_hidden-the_row-Value-Map-0-2-1}
use Rattle.trace_model.specs.ValueTexts.{has_double, double_in_each, double_in_pairs}

abbrev row_of : Value → (n : Count) × Row_of-Value n
row_of (List' _ row) = (_, row)
row_of _ = (_, end_of-Value)

abbrev pairs_of : Value → (n : Count) × Row_of-Value-Map-0-2 n
pairs_of (Map' _ row) = (_, row)
pairs_of _ = (_, end_of-Value-Map-0-2)

abbrev pub pair_has_double : List ℕ × Value → Bool
pair_has_double pair = has_double pair.1

double_row : (n : _) (row : Row_of-Value n) → double_in_each row ≡ list_any has_double (items-the_row-Value n row)
double_row n end_of-Value = refl
double_row n (more_of-Value value rest) = ap (λ b. has_double value || b) (double_row _ rest)

double_pairs : (n : _) (row : Row_of-Value-Map-0-2 n) → double_in_pairs row ≡ list_any pair_has_double (items-the_row-Value-Map-0-2 n row)
double_pairs n end_of-Value-Map-0-2 = refl
double_pairs n (more_of-Value-Map-0-2 key value rest) = ap (λ b. has_double value || b) (double_pairs _ rest)

pub list_double : (members : List Value) → has_double (Several members) ≡ list_any has_double members
list_double members =
    let row = row_of (Several members) in
    double_row row.0 row.1 ∙ ap (list_any has_double) (items_hidden-the_row-Value-0 members)

pub map_double : (pairs : List (List ℕ × Value)) → has_double (Named pairs) ≡ list_any pair_has_double pairs
map_double pairs =
    let row = pairs_of (Named pairs) in
    double_pairs row.0 row.1 ∙ ap (list_any pair_has_double) (items_hidden-the_row-Value-Map-0-2-1 pairs)

-- one more element fails the test
pub none_more : {X : Type 0} (p : X → Bool) (xs : List X) (i : ℕ) (x : X) → i < length xs → x ≡ get_or xs i x → list_any p (take i xs) ≡ false → p x ≡ false → list_any p (take (i + 1) xs) ≡ false
none_more p xs i x lt is none fails =
    list_any_more p xs i x lt ∙ ap (λ b. b || p (get_or xs i x)) none ∙ ap p (sym is) ∙ fails
