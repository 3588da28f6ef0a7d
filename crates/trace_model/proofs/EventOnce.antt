-- A text is that of one event at most, in which stand neither bytes nor doubles.
use Rattle.std.proofs.Common.{◌≡◌, ℕ, List, [], ◌∷◌, map, false, ◌||◌, Some, option_map, refl, sym, ap, ap₂, ◌∙◌, subst}
use Rattle.std.specs.List.{list_any}
use Rattle.serde_json.specs.Data.{Data, null, boolean, number, string, array, object, Items, no_items, item, Members, no_members, member}
use Rattle.serde_json.specs.Find.{as_i64}
use Rattle.trace_model.specs.declared.value.Value.{Value, Text, Truth, Number, List as Several, Map as Named, Nothing}
use Rattle.trace_model.specs.EventTexts.{IsEventText, value_of_json, values_of_json, pairs_of_json, bytes_as_texts, with_texts, holds_double}
use Rattle.trace_model.specs.ValueTexts.{has_double}
use Rattle.trace_model.proofs.DoubleRows.{list_double, map_double}
use Rattle.trace_model.proofs.EventBytes.{list_texts, map_texts}
use Rattle.trace_model.proofs.EventOptions.{map_some, then_some}

abbrev Plain : Value → Type 0
Plain value = (bytes_as_texts value ≡ value) × (has_double value ≡ false)

mutual
  plain_value : (d : Data) (v : Value) → value_of_json d ≡ Some v → Plain v
  plain_value null v e = let s : Nothing ≡ v = cc in subst Plain s (refl, refl)
  plain_value (boolean b) v e = let s : Truth b ≡ v = cc in subst Plain s (refl, refl)
  plain_value (number n) v e = let i = map_some Number (as_i64 n) v e in subst Plain i.2 (refl, refl)
  plain_value (string t) v e = let s : Text t ≡ v = cc in subst Plain s (refl, refl)
  plain_value (array ds) v e =
      let i = map_some Several (values_of_json ds) v e in
      let p = plain_values ds i.0 i.1 in
      subst Plain i.2 (list_texts i.0 ∙ ap Several p.0, list_double i.0 ∙ p.1)
  plain_value (object ms) v e =
      let i = map_some Named (pairs_of_json ms) v e in
      let p = plain_pairs ms i.0 i.1 in
      subst Plain i.2 (map_texts i.0 ∙ ap Named p.0, map_double i.0 ∙ p.1)

  plain_values : (ds : Items) (vs : List Value) → values_of_json ds ≡ Some vs → (map bytes_as_texts vs ≡ vs) × (list_any has_double vs ≡ false)
  plain_values no_items vs e = let s : [] ≡ vs = cc in subst (λ (l : List Value). (map bytes_as_texts l ≡ l) × (list_any has_double l ≡ false)) s (refl, refl)
  plain_values (item d ds) vs e =
      let i = then_some (λ v. option_map (λ l. v ∷ l) (values_of_json ds)) (value_of_json d) vs e in
      let j = map_some (λ l. i.0 ∷ l) (values_of_json ds) vs i.2 in
      let p = plain_value d i.0 i.1 in
      let q = plain_values ds j.0 j.1 in
      subst (λ (l : List Value). (map bytes_as_texts l ≡ l) × (list_any has_double l ≡ false)) j.2 (ap₂ (λ v l. v ∷ l) p.0 q.0, ap₂ (λ a b. a || b) p.1 q.1)

  plain_pairs : (ms : Members) (ps : List (List ℕ × Value)) → pairs_of_json ms ≡ Some ps → (with_texts ps ≡ ps) × (holds_double ps ≡ false)
  plain_pairs no_members ps e = let s : [] ≡ ps = cc in subst (λ (l : List (List ℕ × Value)). (with_texts l ≡ l) × (holds_double l ≡ false)) s (refl, refl)
  plain_pairs (member k d ms) ps e =
      let i = then_some (λ v. option_map (λ l. (k, v) ∷ l) (pairs_of_json ms)) (value_of_json d) ps e in
      let j = map_some (λ l. (k, i.0) ∷ l) (pairs_of_json ms) ps i.2 in
      let p = plain_value d i.0 i.1 in
      let q = plain_pairs ms j.0 j.1 in
      subst (λ (l : List (List ℕ × Value)). (with_texts l ≡ l) × (holds_double l ≡ false)) j.2 (ap₂ (λ v l. (k, v) ∷ l) p.0 q.0, ap₂ (λ a b. a || b) p.1 q.1)

pub no_bytes : (text name : List ℕ) (attributes : List (List ℕ × Value)) → IsEventText text name attributes → with_texts attributes ≡ attributes
no_bytes text name attributes is = (plain_pairs is.event.members attributes is.event.values).0

pub no_double : (text name : List ℕ) (attributes : List (List ℕ × Value)) → IsEventText text name attributes → holds_double attributes ≡ false
no_double text name attributes is = (plain_pairs is.event.members attributes is.event.values).1

module _ (text name other : List ℕ) (attributes others : List (List ℕ × Value)) (is : IsEventText text name attributes) (too : IsEventText text other others) where
  same_member : object (member name (object is.event.members) no_members) ≡ object (member other (object too.event.members) no_members)
  same_member =
      let e : Some is.json ≡ Some too.json = sym is.reading ∙ too.reading in
      let same : is.json ≡ too.json = cc in
      sym is.event.one ∙ same ∙ too.event.one

  pub one_name : name ≡ other
  one_name = let e = same_member in cc

  pub one_list : attributes ≡ others
  one_list =
      let e = same_member in
      let same : is.event.members ≡ too.event.members = cc in
      let held : Some attributes ≡ Some others = sym is.event.values ∙ ap pairs_of_json same ∙ too.event.values in
      cc
