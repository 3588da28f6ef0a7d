-- Bytes in a list or map, by its members; and a value in which none stand stays where texts are put in their place.
use Rattle.std.proofs.Common.{◌≡◌, ℕ, zero, suc, ◌≤◌, List, [], ◌∷◌, map, get_or, All, Bool, true, false, ◌||◌, refl, sym, ap, ◌∙◌, true≢false, arith}
use Rattle.std.specs.Prelude.{◌↔◌}
use Rattle.std.specs.List.{list_any}
use Rattle.std.proofs.lemmas.List.Elements.{All-head, All-tail}
use mathlib.Core.Former.{Count}
use Rattle.trace_model.specs.declared.value.Value.{Value, Text, Bytes, List as Several, Map as Named, List', Map', Row_of-Value, end_of-Value, more_of-Value, Row_of-Value-Map-0-2, end_of-Value-Map-0-2, more_of-Value-Map-0-2, items-the_row-Value, items-the_row-Value-Map-0-2, items_hidden-the_row-Value-0, items_hidden-the_row-Value-Map-0-2-1}
use Rattle.trace_model.specs.EventTexts.{has_bytes, bytes_in_each, bytes_in_pairs, bytes_as_texts, with_texts}
use Rattle.trace_model.proofs.PartLaws.{by_variant, some_depth}
use Rattle.trace_model.specs.Values.{depth}
use Rattle.trace_model.proofs.EventBytes.{list_texts, map_texts}
use Rattle.trace_model.proofs.Rows.{list_depth, map_depth}

abbrev row_of : Value → (n : Count) × Row_of-Value n
row_of (List' _ row) = (_, row)
row_of _ = (_, end_of-Value)

abbrev pairs_of : Value → (n : Count) × Row_of-Value-Map-0-2 n
pairs_of (Map' _ row) = (_, row)
pairs_of _ = (_, end_of-Value-Map-0-2)

abbrev pub pair_has_bytes : List ℕ × Value → Bool
pair_has_bytes pair = has_bytes pair.1

bytes_row : (n : _) (row : Row_of-Value n) → bytes_in_each row ≡ list_any has_bytes (items-the_row-Value n row)
bytes_row n end_of-Value = refl
bytes_row n (more_of-Value value rest) = ap (λ b. has_bytes value || b) (bytes_row _ rest)

bytes_pairs : (n : _) (row : Row_of-Value-Map-0-2 n) → bytes_in_pairs row ≡ list_any pair_has_bytes (items-the_row-Value-Map-0-2 n row)
bytes_pairs n end_of-Value-Map-0-2 = refl
bytes_pairs n (more_of-Value-Map-0-2 key value rest) = ap (λ b. has_bytes value || b) (bytes_pairs _ rest)

pub list_bytes : (members : List Value) → has_bytes (Several members) ≡ list_any has_bytes members
list_bytes members =
    let row = row_of (Several members) in
    bytes_row row.0 row.1 ∙ ap (list_any has_bytes) (items_hidden-the_row-Value-0 members)

pub map_bytes : (pairs : List (List ℕ × Value)) → has_bytes (Named pairs) ≡ list_any pair_has_bytes pairs
map_bytes pairs =
    let row = pairs_of (Named pairs) in
    bytes_pairs row.0 row.1 ∙ ap (list_any pair_has_bytes) (items_hidden-the_row-Value-Map-0-2-1 pairs)

-- ---- equal lists and maps have equal members

members_in : Value → List Value
members_in value = items-the_row-Value (row_of value).0 (row_of value).1

pairs_in : Value → List (List ℕ × Value)
pairs_in value = items-the_row-Value-Map-0-2 (pairs_of value).0 (pairs_of value).1

same_members : (xs ys : List Value) → Several xs ≡ Several ys → xs ≡ ys
unfolding members_in
same_members xs ys same = sym (items_hidden-the_row-Value-0 xs) ∙ ap members_in same ∙ items_hidden-the_row-Value-0 ys

same_named : (xs ys : List (List ℕ × Value)) → Named xs ≡ Named ys → xs ≡ ys
unfolding pairs_in
same_named xs ys same = sym (items_hidden-the_row-Value-Map-0-2-1 xs) ∙ ap pairs_in same ∙ items_hidden-the_row-Value-Map-0-2-1 ys

-- ---- values without bytes

abbrev Stays : Value → Type 0
Stays value = (has_bytes value ≡ false) ↔ (bytes_as_texts value ≡ value)

abbrev PairStays : List ℕ × Value → Type 0
PairStays pair = Stays pair.1

neither : (a b : Bool) → (a || b) ≡ false → (a ≡ false) × (b ≡ false)
neither true b e = absurd (true≢false e)
neither false b e = (refl, e)

none_of_two : (a b : Bool) → a ≡ false → b ≡ false → (a || b) ≡ false
none_of_two a b first second = ap (λ x. x || b) first ∙ second

each_stays : (values : List Value) → All Stays values → (list_any has_bytes values ≡ false) ↔ (map bytes_as_texts values ≡ values)
each_stays [] all = (λ e. refl, λ e. refl)
each_stays (value ∷ values) all =
    let here : Stays value = All-head Stays value values all in
    let rest = each_stays values (All-tail Stays value values all) in (
      λ e. let parts = neither (has_bytes value) (list_any has_bytes values) e in
          let first : bytes_as_texts value ≡ value = here.0 parts.0 in
          let others : map bytes_as_texts values ≡ values = rest.0 parts.1 in
          λ i. first i ∷ others i,
      λ same.
          let first : bytes_as_texts value ≡ value = cc in
          let others : map bytes_as_texts values ≡ values = cc in
          none_of_two (has_bytes value) (list_any has_bytes values) (here.1 first) (rest.1 others),
    )

pairs_stay : (pairs : List (List ℕ × Value)) → All PairStays pairs → (list_any pair_has_bytes pairs ≡ false) ↔ (with_texts pairs ≡ pairs)
pairs_stay [] all = (λ e. refl, λ e. refl)
pairs_stay (pair ∷ pairs) all =
    let here : Stays pair.1 = All-head PairStays pair pairs all in
    let rest = pairs_stay pairs (All-tail PairStays pair pairs all) in (
      λ e. let parts = neither (has_bytes pair.1) (list_any pair_has_bytes pairs) e in
          let first : bytes_as_texts pair.1 ≡ pair.1 = here.0 parts.0 in
          let others : with_texts pairs ≡ pairs = rest.0 parts.1 in
          λ i. (pair.0, first i) ∷ others i,
      λ same.
          let one : (pair.0, bytes_as_texts pair.1) ≡ pair = cc in
          let others : with_texts pairs ≡ pairs = cc in
          none_of_two (has_bytes pair.1) (list_any pair_has_bytes pairs) (here.1 (ap (λ (p : List ℕ × Value). p.1) one)) (rest.1 others),
    )

list_stays : (members : List Value) → All Stays members → Stays (Several members)
list_stays members all =
    let each = each_stays members all in (
      λ e. list_texts members ∙ ap Several (each.0 (sym (list_bytes members) ∙ e)),
      λ same. list_bytes members ∙ each.1 (same_members (map bytes_as_texts members) members (sym (list_texts members) ∙ same)),
    )

map_stays : (pairs : List (List ℕ × Value)) → All PairStays pairs → Stays (Named pairs)
map_stays pairs all =
    let each = pairs_stay pairs all in (
      λ e. map_texts pairs ∙ ap Named (each.0 (sym (map_bytes pairs) ∙ e)),
      λ same. map_bytes pairs ∙ each.1 (same_named (with_texts pairs) pairs (sym (map_texts pairs) ∙ same)),
    )

is_a_text : Value → Bool
is_a_text (Text text) = true
is_a_text value = false

text_no_bytes : (text held : List ℕ) → Text text ≡ Bytes held → ⊥
unfolding is_a_text
text_no_bytes text held same = true≢false (ap is_a_text same)

stays_in : (d : ℕ) (value : Value) → depth value ≤ d → Stays value
stays_in zero value low = absurd (omega (arith, some_depth value, low))
stays_in (suc d) value low = by_variant (λ v. depth v ≤ suc d → Stays v) (record {
  of_text = λ text low. (λ e. refl, λ e. refl);
  of_truth = λ truth low. (λ e. refl, λ e. refl);
  of_number = λ n low. (λ e. refl, λ e. refl);
  of_eight = λ double low. (λ e. refl, λ e. refl);
  of_bytes = λ held low. (λ e. absurd (true≢false e), λ same. absurd (text_no_bytes _ held same));
  of_list = λ members low.
      let shallow = (list_depth d members).0 (omega (arith, low)) in
      list_stays members (λ k v lt. stays_in d (get_or members k v) (shallow k v lt));
  of_map = λ pairs low.
      let shallow = (map_depth d pairs).0 (omega (arith, low)) in
      map_stays pairs (λ k p lt. stays_in d (get_or pairs k p).1 (shallow k p lt));
  of_nothing = λ low. (λ e. refl, λ e. refl);
}) value low

pub none_stay : (value : Value) → Stays value
none_stay value = stays_in (depth value) value (omega arith)
