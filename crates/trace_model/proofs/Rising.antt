-- Two lists of the same elements are one list, where the keys of both rise.
use Rattle.std.proofs.Common.{◌≡◌, ℕ, List, [], ◌∷◌, All, refl, sym, subst, ⊎_elim}
use Rattle.std.specs.Prelude.{◌↔◌, Contains, map}
use Rattle.std.specs.Ordering.{nat_cmp}
use Rattle.std.specs.declared.cmp.Ordering.TheVariants.{Less}
use Rattle.std.specs.Cmp.Lexicographic.{slice_cmp}
use Rattle.std.proofs.lemmas.Cmp.{nat_list_cmp_total}
use Rattle.std.proofs.lemmas.Map.Keys.{sorted_head, sorted_tail}
use Rattle.std.proofs.lemmas.List.Elements.{All-head, All-tail, All-from_recursion}
use Rattle.trace_model.specs.Attributes.{Rise}
use Rattle.trace_model.proofs.Order.{never_below_itself}
use Rattle.trace_model.proofs.Places.{contains_here, contains_cons, contains_cases, contains_none}

module _ {X : Type 0} (key : X → List ℕ) where
  above_in : (k : List ℕ) (xs : List X) → All (λ q. slice_cmp nat_cmp k q ≡ Less) (map key xs) → (y : X) → Contains xs y → slice_cmp nat_cmp k (key y) ≡ Less
  above_in k [] all y there = absurd (contains_none y there)
  above_in k (x ∷ xs) all y there = ⊎_elim
      (λ (same : y ≡ x). subst (λ (z : X). slice_cmp nat_cmp k (key z) ≡ Less) (sym same) (All-head (λ q. slice_cmp nat_cmp k q ≡ Less) (key x) (map key xs) all))
      (λ (h : Contains xs y). above_in k xs (All-tail (λ q. slice_cmp nat_cmp k q ≡ Less) (key x) (map key xs) all) y h)
      (contains_cases x xs y there)

  pub above : (x : X) (xs : List X) → Rise (map key (x ∷ xs)) → (y : X) → Contains xs y → slice_cmp nat_cmp (key x) (key y) ≡ Less
  above x xs up = above_in (key x) xs
      (All-from_recursion (λ q. slice_cmp nat_cmp (key x) q ≡ Less) (map key xs) (sorted_head (slice_cmp nat_cmp) (key x) (map key xs) up))

  never : (x y : X) (xs ys : List X) → Rise (map key (x ∷ xs)) → Rise (map key (y ∷ ys)) → Contains ys x → Contains xs y → ⊥
  never x y xs ys up_x up_y x_there y_there = never_below_itself (key x)
      (nat_list_cmp_total.trans (key x) (key y) (key x) (above x xs up_x y y_there) (above y ys up_y x x_there))

  same_head : (x y : X) (xs ys : List X) → Rise (map key (x ∷ xs)) → Rise (map key (y ∷ ys)) →
      ((z : X) → Contains (x ∷ xs) z ↔ Contains (y ∷ ys) z) → x ≡ y
  same_head x y xs ys up_x up_y each = ⊎_elim
      (λ (same : x ≡ y). same)
      (λ (x_there : Contains ys x). ⊎_elim
      (λ (same : y ≡ x). sym same)
      (λ (y_there : Contains xs y). absurd (never x y xs ys up_x up_y x_there y_there))
      (contains_cases x xs y ((each y).1 (contains_here y ys))))
      (contains_cases y ys x ((each x).0 (contains_here x xs)))

  rest_in : (x : X) (xs ys : List X) → Rise (map key (x ∷ xs)) → ((z : X) → Contains (x ∷ xs) z → Contains (x ∷ ys) z) → (z : X) → Contains xs z → Contains ys z
  rest_in x xs ys up each z there = ⊎_elim
      (λ (same : z ≡ x). absurd (never_below_itself (key x) (subst (λ (w : X). slice_cmp nat_cmp (key x) (key w) ≡ Less) same (above x xs up z there))))
      (λ (h : Contains ys z). h)
      (contains_cases x ys z (each z (contains_cons x xs z there)))

  pub same_rising : (xs ys : List X) → Rise (map key xs) → Rise (map key ys) → ((z : X) → Contains xs z ↔ Contains ys z) → xs ≡ ys
  same_rising [] [] up_x up_y each = refl
  same_rising [] (y ∷ ys) up_x up_y each = absurd (contains_none y ((each y).1 (contains_here y ys)))
  same_rising (x ∷ xs) [] up_x up_y each = absurd (contains_none x ((each x).0 (contains_here x xs)))
  same_rising (x ∷ xs) (y ∷ ys) up_x up_y each =
      let same : x ≡ y = same_head x y xs ys up_x up_y each in
      let both : (z : X) → Contains (x ∷ xs) z ↔ Contains (x ∷ ys) z = subst (λ (w : X). (z : X) → Contains (x ∷ xs) z ↔ Contains (w ∷ ys) z) (sym same) each in
      let up : Rise (map key (x ∷ ys)) = subst (λ (w : X). Rise (map key (w ∷ ys))) (sym same) up_y in
      let rest : xs ≡ ys = same_rising xs ys (sorted_tail (slice_cmp nat_cmp) (key x) (map key xs) up_x) (sorted_tail (slice_cmp nat_cmp) (key x) (map key ys) up)
      (λ z. (rest_in x xs ys up_x (λ w. (both w).0) z, rest_in x ys xs up (λ w. (both w).1) z)) in
      cc
