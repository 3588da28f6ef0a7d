-- Attributes whose keys rise make themselves, and no key of them is repeated.
use Rattle.std.proofs.Common.{◌≡◌, ℕ, List, [], ◌∷◌, ◌++◌, All, refl, sym, ap, subst, ⊎_elim}
use Rattle.std.specs.Prelude.{◌≢◌, Contains}
use Rattle.std.specs.Ordering.{nat_cmp}
use Rattle.std.specs.declared.cmp.Ordering.{Ordering}
use Rattle.std.specs.declared.cmp.Ordering.TheVariants.{Less}
use Rattle.std.specs.Cmp.Lexicographic.{slice_cmp}
use Rattle.std.specs.List.Sorted.{IsStrictlySortedBy}
use Rattle.std.proofs.lemmas.Map.Keys.{sorted_head, sorted_tail}
use Rattle.std.proofs.lemmas.List.Elements.{All-nil, All-cons, All-head, All-tail, All-from_recursion, Contains-append_right}
use Rattle.trace_model.specs.Attributes.{Rise, keys, IsLast, AreAttributes, AreRepeated}
use Rattle.trace_model.proofs.Order.{never_below_itself}
use Rattle.trace_model.proofs.Places.{contains_here, contains_cases, contains_none}

abbrev cmp : List ℕ → List ℕ → Ordering
cmp = slice_cmp nat_cmp

pub none_rise : Rise []
unfolding IsStrictlySortedBy
none_rise = tt

module _ {V : Type 0} where
  below_rest : (x : List ℕ × V) (xs : List (List ℕ × V)) → Rise (keys (x ∷ xs)) → All (λ q. cmp x.0 q ≡ Less) (keys xs)
  below_rest x xs up = All-from_recursion (λ q. cmp x.0 q ≡ Less) (keys xs) (sorted_head cmp x.0 (keys xs) up)

  apart_in : (k : List ℕ) (xs : List (List ℕ × V)) → All (λ q. cmp k q ≡ Less) (keys xs) → All (λ other. other.0 ≢ k) xs
  apart_in k [] all = All-nil (λ other. other.0 ≢ k)
  apart_in k (x ∷ xs) all = All-cons (λ other. other.0 ≢ k) x xs
      (λ same. never_below_itself k (subst (λ q. cmp k q ≡ Less) same (All-head (λ q. cmp k q ≡ Less) x.0 (keys xs) all)))
      (apart_in k xs (All-tail (λ q. cmp k q ≡ Less) x.0 (keys xs) all))

  last_of : (xs : List (List ℕ × V)) (pair : List ℕ × V) → Rise (keys xs) → Contains xs pair → IsLast pair xs
  last_of [] pair up there = absurd (contains_none pair there)
  last_of (x ∷ xs) pair up there = ⊎_elim
      (λ (same : pair ≡ x). subst (λ (p : List ℕ × V). IsLast p (x ∷ xs)) (sym same) (record { before = []; behind = xs; split = refl; last = apart_in x.0 xs (below_rest x xs up) }))
      (λ (h : Contains xs pair).
      let inner = last_of xs pair (sorted_tail cmp x.0 (keys xs) up) h in
      record { before = x ∷ inner.before; behind = inner.behind; split = ap (λ (l : List (List ℕ × V)). x ∷ l) inner.split; last = inner.last })
      (contains_cases x xs pair there)

  contains_last : (xs : List (List ℕ × V)) (pair : List ℕ × V) → IsLast pair xs → Contains xs pair
  contains_last xs pair is = subst (λ (l : List (List ℕ × V)). Contains l pair) (sym is.split) (Contains-append_right is.before (pair ∷ is.behind) pair (contains_here pair is.behind))

  in_behind : (P : List ℕ → Type 0) (between : List (List ℕ × V)) (z : List ℕ × V) (behind : List (List ℕ × V)) → All P (keys (between ++ z ∷ behind)) → P z.0
  in_behind P [] z behind all = All-head P z.0 (keys behind) all
  in_behind P (y ∷ between) z behind all = in_behind P between z behind (All-tail P y.0 (keys (between ++ z ∷ behind)) all)

  never_twice : (before : List (List ℕ × V)) (key : List ℕ) (one : V) (between : List (List ℕ × V)) (other : V) (behind : List (List ℕ × V))
      → Rise (keys (before ++ (key, one) ∷ (between ++ (key, other) ∷ behind))) → ⊥
  never_twice [] key one between other behind up =
      never_below_itself key (in_behind (λ q. cmp key q ≡ Less) between (key, other) behind (below_rest (key, one) (between ++ (key, other) ∷ behind) up))
  never_twice (x ∷ before) key one between other behind up =
      never_twice before key one between other behind (sorted_tail cmp x.0 (keys (before ++ (key, one) ∷ (between ++ (key, other) ∷ behind))) up)

  pub themselves : (attributes : List (List ℕ × V)) → Rise (keys attributes) → AreAttributes attributes attributes
  themselves attributes up = record { rising = up; last = λ pair. (last_of attributes pair up, contains_last attributes pair) }

  pub none_repeated : (attributes : List (List ℕ × V)) → Rise (keys attributes) → AreRepeated [] attributes
  none_repeated attributes up = record {
    rising = none_rise;
    twice = λ key. (
      λ there. absurd (contains_none key there),
      λ is. absurd (never_twice is.before key is.one is.between is.other is.behind (subst (λ (l : List (List ℕ × V)). Rise (keys l)) is.split up)),
    );
  }
