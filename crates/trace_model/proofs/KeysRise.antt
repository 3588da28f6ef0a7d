-- Whether the keys of pairs rise, found from one pair to the next.
use Rattle.std.proofs.Common.{◌≡◌, ℕ, suc, List, [], ◌∷◌, get_or, drop, length, ◌+◌, ◌<◌, ◌≤◌, sym, ap, subst, ◌∙◌, add-one, drop-cons, arith}
use Rattle.std.specs.Cmp.Lexicographic.{slice_cmp}
use Rattle.std.specs.List.{AllByRecursion}
use Rattle.std.specs.List.Sorted.{IsStrictlySortedBy}
use Rattle.std.specs.Ordering.{nat_cmp}
use Rattle.std.specs.declared.cmp.Ordering.TheVariants.{Less}
use Rattle.std.proofs.Math.ListN.{drop_of_length-le}
use Rattle.std.proofs.lemmas.Cmp.{nat_list_cmp_total}
use Rattle.trace_model.specs.Attributes.{Rise, keys}
use Rattle.trace_model.specs.declared.value.Value.{Value}

abbrev Pairs : Type 0
Pairs = List (List ℕ × Value)

all_below : (x y : List ℕ) (ks : List (List ℕ)) → slice_cmp nat_cmp x y ≡ Less → AllByRecursion (λ k. slice_cmp nat_cmp y k ≡ Less) ks
    → AllByRecursion (λ k. slice_cmp nat_cmp x k ≡ Less) ks
all_below x y [] low all = tt
all_below x y (k ∷ ks) low all = (nat_list_cmp_total.trans x y k low all.0, all_below x y ks low all.1)

-- one key more, below the first
rise_more : (x y : List ℕ) (ks : List (List ℕ)) → slice_cmp nat_cmp x y ≡ Less → Rise (y ∷ ks) → Rise (x ∷ y ∷ ks)
unfolding IsStrictlySortedBy
rise_more x y ks low up = ((low, all_below x y ks low up.0), up)

rise_one : (x : List ℕ) → Rise (x ∷ [])
unfolding IsStrictlySortedBy
rise_one x = (tt, tt)

pub rise_nothing : (pairs : Pairs) → length pairs ≡ 0 → Rise (keys pairs)
unfolding IsStrictlySortedBy
rise_nothing [] none = tt
rise_nothing (pair ∷ pairs) none = absurd (omega (arith, none))

pub rise_step : (pairs others : Pairs) (i : ℕ) (last pair : List ℕ × Value) (a b : List ℕ) → i < length others → pair ≡ get_or others i pair
    → a ≡ last.0 → b ≡ pair.0 → Less ≡ slice_cmp nat_cmp a b → (Rise (last.0 ∷ keys (drop i others)) → Rise (keys pairs))
    → Rise (pair.0 ∷ keys (drop (i + 1) others)) → Rise (keys pairs)
rise_step pairs others i last pair a b within here first second less so_far up =
    let low : slice_cmp nat_cmp last.0 pair.0 ≡ Less = sym (less ∙ (ap (λ k. slice_cmp nat_cmp k b) first ∙ ap (slice_cmp nat_cmp last.0) second)) in
    let rest : drop i others ≡ pair ∷ drop (i + 1) others =
    rw (add-one i) (drop-cons others i pair within ∙ ap (λ y. y ∷ drop (suc i) others) (sym here)) in
    so_far (subst (λ l. Rise (last.0 ∷ keys l)) (sym rest) (rise_more last.0 pair.0 (keys (drop (i + 1) others)) low up))

pub rise_end : (pairs others : Pairs) (i : ℕ) (last : List ℕ × Value) → length others ≤ i
    → (Rise (last.0 ∷ keys (drop i others)) → Rise (keys pairs)) → Rise (keys pairs)
rise_end pairs others i last ended so_far =
    so_far (subst (λ l. Rise (last.0 ∷ keys l)) (sym (drop_of_length-le others ended)) (rise_one last.0))
