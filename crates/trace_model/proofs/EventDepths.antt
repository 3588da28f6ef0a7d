-- A value within so many levels is one that is at most so deep.
use Rattle.std.proofs.Common.{◌≡◌, ℕ, zero, suc, ◌+◌, ◌≤◌, List, [], ◌∷◌, All, Some, option_map, sym, ap, ◌∙◌, subst, arith}
use Rattle.std.proofs.lemmas.List.Elements.{All-nil, All-cons, All-head, All-tail}
use Rattle.serde_json.specs.Data.{Data, null, boolean, number, string, array, object, Items, no_items, item, Members, no_members, member}
use Rattle.serde_json.specs.Find.{as_i64}
use Rattle.trace_model.specs.declared.value.Value.{Value, Text, Truth, Number, List as Several, Map as Named, Nothing}
use Rattle.trace_model.specs.EventReading.{value_within, values_within, pairs_within}
use Rattle.trace_model.specs.EventTexts.{value_of_json, values_of_json, pairs_of_json}
use Rattle.trace_model.proofs.PartLaws.{some_depth}
use Rattle.trace_model.specs.Values.{depth}
use Rattle.trace_model.proofs.EventOptions.{map_some, then_some}
use Rattle.trace_model.proofs.Rows.{list_depth, map_depth}

abbrev Shallow : ℕ → Value → Type 0
Shallow n value = depth value ≤ n

abbrev ShallowPair : ℕ → List ℕ × Value → Type 0
ShallowPair n pair = depth pair.1 ≤ n

mutual
  pub value_sound : (n : ℕ) (d : Data) (v : Value) → value_within n d ≡ Some v → (value_of_json d ≡ Some v) × (depth v ≤ n)
  value_sound zero d v e = absurd (cc)
  value_sound (suc n) null v e = let s : Nothing ≡ v = cc in (e, subst (Shallow (suc n)) s (omega arith))
  value_sound (suc n) (boolean b) v e = let s : Truth b ≡ v = cc in (e, subst (Shallow (suc n)) s (omega arith))
  value_sound (suc n) (number m) v e = let i = map_some Number (as_i64 m) v e in (e, subst (Shallow (suc n)) i.2 (omega arith))
  value_sound (suc n) (string s) v e = let is : Text s ≡ v = cc in (e, subst (Shallow (suc n)) is (omega arith))
  value_sound (suc n) (array ds) v e =
      let i = map_some Several (values_within n ds) v e in
      let r = values_sound n ds i.0 i.1 in
      let low : depth (Several i.0) ≤ n + 1 = (list_depth n i.0).1 r.1 in
      (ap (option_map Several) r.0 ∙ ap Some i.2, subst (Shallow (suc n)) i.2 (omega arith))
  value_sound (suc n) (object ms) v e =
      let i = map_some Named (pairs_within n ms) v e in
      let r = pairs_sound n ms i.0 i.1 in
      let low : depth (Named i.0) ≤ n + 1 = (map_depth n i.0).1 r.1 in
      (ap (option_map Named) r.0 ∙ ap Some i.2, subst (Shallow (suc n)) i.2 (omega arith))

  pub values_sound : (n : ℕ) (ds : Items) (vs : List Value) → values_within n ds ≡ Some vs → (values_of_json ds ≡ Some vs) × All (λ v. depth v ≤ n) vs
  values_sound n no_items vs e = let s : [] ≡ vs = cc in (e, subst (All (Shallow n)) s (All-nil (Shallow n)))
  values_sound n (item d ds) vs e =
      let i = then_some (λ v. option_map (λ l. v ∷ l) (values_within n ds)) (value_within n d) vs e in
      let j = map_some (λ l. i.0 ∷ l) (values_within n ds) vs i.2 in
      let a = value_sound n d i.0 i.1 in
      let b = values_sound n ds j.0 j.1 in
      (rw (a.0, b.0) (ap Some j.2), subst (All (Shallow n)) j.2 (All-cons (Shallow n) i.0 j.0 a.1 b.1))

  pub pairs_sound : (n : ℕ) (ms : Members) (ps : List (List ℕ × Value)) → pairs_within n ms ≡ Some ps → (pairs_of_json ms ≡ Some ps) × All (λ p. depth p.1 ≤ n) ps
  pairs_sound n no_members ps e = let s : [] ≡ ps = cc in (e, subst (All (ShallowPair n)) s (All-nil (ShallowPair n)))
  pairs_sound n (member k d ms) ps e =
      let i = then_some (λ v. option_map (λ l. (k, v) ∷ l) (pairs_within n ms)) (value_within n d) ps e in
      let j = map_some (λ l. (k, i.0) ∷ l) (pairs_within n ms) ps i.2 in
      let a = value_sound n d i.0 i.1 in
      let b = pairs_sound n ms j.0 j.1 in
      (rw (a.0, b.0) (ap Some j.2), subst (All (ShallowPair n)) j.2 (All-cons (ShallowPair n) (k, i.0) j.0 a.1 b.1))

mutual
  pub value_complete : (n : ℕ) (d : Data) (v : Value) → value_of_json d ≡ Some v → depth v ≤ n → value_within n d ≡ Some v
  value_complete zero d v e low = absurd (omega (arith, some_depth v))
  value_complete (suc n) null v e low = e
  value_complete (suc n) (boolean b) v e low = e
  value_complete (suc n) (number m) v e low = e
  value_complete (suc n) (string s) v e low = e
  value_complete (suc n) (array ds) v e low =
      let i = map_some Several (values_of_json ds) v e in
      let shallow : depth (Several i.0) ≤ suc n = subst (Shallow (suc n)) (sym i.2) low in
      ap (option_map Several) (values_complete n ds i.0 i.1 ((list_depth n i.0).0 (omega arith))) ∙ ap Some i.2
  value_complete (suc n) (object ms) v e low =
      let i = map_some Named (pairs_of_json ms) v e in
      let shallow : depth (Named i.0) ≤ suc n = subst (Shallow (suc n)) (sym i.2) low in
      ap (option_map Named) (pairs_complete n ms i.0 i.1 ((map_depth n i.0).0 (omega arith))) ∙ ap Some i.2

  pub values_complete : (n : ℕ) (ds : Items) (vs : List Value) → values_of_json ds ≡ Some vs → All (λ v. depth v ≤ n) vs → values_within n ds ≡ Some vs
  values_complete n no_items vs e low = e
  values_complete n (item d ds) vs e low =
      let i = then_some (λ v. option_map (λ l. v ∷ l) (values_of_json ds)) (value_of_json d) vs e in
      let j = map_some (λ l. i.0 ∷ l) (values_of_json ds) vs i.2 in
      let all : All (Shallow n) (i.0 ∷ j.0) = subst (All (Shallow n)) (sym j.2) low in
      rw (value_complete n d i.0 i.1 (All-head (Shallow n) i.0 j.0 all), values_complete n ds j.0 j.1 (All-tail (Shallow n) i.0 j.0 all)) (ap Some j.2)

  pub pairs_complete : (n : ℕ) (ms : Members) (ps : List (List ℕ × Value)) → pairs_of_json ms ≡ Some ps → All (λ p. depth p.1 ≤ n) ps → pairs_within n ms ≡ Some ps
  pairs_complete n no_members ps e low = e
  pairs_complete n (member k d ms) ps e low =
      let i = then_some (λ v. option_map (λ l. (k, v) ∷ l) (pairs_of_json ms)) (value_of_json d) ps e in
      let j = map_some (λ l. (k, i.0) ∷ l) (pairs_of_json ms) ps i.2 in
      let all : All (ShallowPair n) ((k, i.0) ∷ j.0) = subst (All (ShallowPair n)) (sym j.2) low in
      rw (value_complete n d i.0 i.1 (All-head (ShallowPair n) (k, i.0) j.0 all), pairs_complete n ms j.0 j.1 (All-tail (ShallowPair n) (k, i.0) j.0 all)) (ap Some j.2)
