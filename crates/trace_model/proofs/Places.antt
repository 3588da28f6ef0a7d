-- Where pairs stand in a list.
use Rattle.std.proofs.Common.{◌≡◌, ℕ, List, [], ◌∷◌, ◌++◌, All, get_or, refl, sym, ap, subst, ⊎_elim, arith, zero, suc}
use Rattle.std.specs.Prelude.{◌≢◌, Contains}
use Rattle.std.proofs.lemmas.List.Elements.{All-head, All-tail, Contains-append_right, Contains-get_or}
use mathlib.Core.Logic.{◌⊎◌, inl, inr}
use Rattle.trace_model.specs.Attributes.{keys, IsLast, StandsTwice}

pub contains_here : {X : Type 0} (x : X) (xs : List X) → Contains (x ∷ xs) x
contains_here x xs = (0, omega arith, refl)

pub contains_cons : {X : Type 0} (x : X) (xs : List X) (y : X) → Contains xs y → Contains (x ∷ xs) y
contains_cons x xs y there = Contains-append_right (x ∷ []) xs y there

pub contains_cases : {X : Type 0} (x : X) (xs : List X) (y : X) → Contains (x ∷ xs) y → (y ≡ x) ⊎ Contains xs y
contains_cases x xs y (zero, lt, e) = inl (sym e)
contains_cases x xs y (suc k, lt, e) = inr (k, omega arith, e)

pub contains_none : {X : Type 0} (y : X) → Contains [] y → ⊥
contains_none y there = omega (arith, there.1)

pub All-from_contains : {X : Type 0} (P : X → Type 0) (xs : List X) → ((x : X) → Contains xs x → P x) → All P xs
All-from_contains P xs each = λ k d lt. each (get_or xs k d) (Contains-get_or xs k d lt)

module _ {V : Type 0} where
  pub key_in : (pairs : List (List ℕ × V)) (pair : List ℕ × V) → Contains pairs pair → Contains (keys pairs) pair.0
  key_in [] pair there = absurd (contains_none pair there)
  key_in (p ∷ pairs) pair there = ⊎_elim
      (λ (same : pair ≡ p). subst (λ k. Contains (p.0 ∷ keys pairs) k) (sym (ap (λ (q : List ℕ × V). q.0) same)) (contains_here p.0 (keys pairs)))
      (λ (h : Contains pairs pair). contains_cons p.0 (keys pairs) pair.0 (key_in pairs pair h))
      (contains_cases p pairs pair there)

  -- a key that stands in no pair
  pub absent : (pairs : List (List ℕ × V)) (key : List ℕ) → (Contains (keys pairs) key → ⊥) → All (λ other. other.0 ≢ key) pairs
  absent pairs key none = All-from_contains (λ other. other.0 ≢ key) pairs
      (λ (other : List ℕ × V) there (same : other.0 ≡ key). none (subst (Contains (keys pairs)) same (key_in pairs other there)))

  pub not_in : (pairs : List (List ℕ × V)) (key : List ℕ) → All (λ other. other.0 ≢ key) pairs → Contains (keys pairs) key → ⊥
  not_in [] key none there = contains_none key there
  not_in (p ∷ pairs) key none there = ⊎_elim
      (λ (same : key ≡ p.0). All-head (λ other. other.0 ≢ key) p pairs none (sym same))
      (λ (h : Contains (keys pairs) key). not_in pairs key (All-tail (λ other. other.0 ≢ key) p pairs none) h)
      (contains_cases p.0 (keys pairs) key there)

  pub key_at : (before : List (List ℕ × V)) (pair : List ℕ × V) (behind : List (List ℕ × V)) → Contains (keys (before ++ pair ∷ behind)) pair.0
  key_at before pair behind = key_in (before ++ pair ∷ behind) pair
      (Contains-append_right before (pair ∷ behind) pair (contains_here pair behind))

  pub last_cons : (p pair : List ℕ × V) (pairs : List (List ℕ × V)) → IsLast pair pairs → IsLast pair (p ∷ pairs)
  last_cons p pair pairs is = record { before = p ∷ is.before; behind = is.behind; split = ap (λ l. p ∷ l) is.split; last = is.last }

  pub last_here : (pair : List ℕ × V) (pairs : List (List ℕ × V)) → All (λ other. other.0 ≢ pair.0) pairs → IsLast pair (pair ∷ pairs)
  last_here pair pairs none = record { before = []; behind = pairs; split = refl; last = none }

  last_cases_at : (p pair : List ℕ × V) (pairs before behind : List (List ℕ × V)) → p ∷ pairs ≡ before ++ pair ∷ behind → All (λ other. other.0 ≢ pair.0) behind →
      IsLast pair pairs ⊎ ((pair ≡ p) × All (λ other. other.0 ≢ p.0) pairs)
  last_cases_at p pair pairs [] behind e none =
      let same : pair ≡ p = cc in
      let rest : behind ≡ pairs = cc in
      inr (
        same,
        subst (λ (l : List (List ℕ × V)). All (λ other. other.0 ≢ p.0) l) rest
            (subst (λ (q : List ℕ × V). All (λ other. other.0 ≢ q.0) behind) same none),
      )
  last_cases_at p pair pairs (b ∷ before) behind e none =
      inl (record { before = before; behind = behind; split = cc; last = none })

  pub last_cases : (p pair : List ℕ × V) (pairs : List (List ℕ × V)) → IsLast pair (p ∷ pairs) →
      IsLast pair pairs ⊎ ((pair ≡ p) × All (λ other. other.0 ≢ p.0) pairs)
  last_cases p pair pairs is = last_cases_at p pair pairs is.before is.behind is.split is.last

  pub last_is_in : (pair : List ℕ × V) (pairs : List (List ℕ × V)) → IsLast pair pairs → Contains pairs pair
  last_is_in pair pairs is = subst (λ (l : List (List ℕ × V)). Contains l pair) (sym is.split)
      (Contains-append_right is.before (pair ∷ is.behind) pair (contains_here pair is.behind))

  pub twice_cons : (p : List ℕ × V) (key : List ℕ) (pairs : List (List ℕ × V)) → StandsTwice key pairs → StandsTwice key (p ∷ pairs)
  twice_cons p key pairs is = record {
    before = p ∷ is.before;
    one = is.one;
    between = is.between;
    other = is.other;
    behind = is.behind;
    split = ap (λ l. p ∷ l) is.split;
  }

  record Split (key : List ℕ) (pairs : List (List ℕ × V)) : Type 0 where
    before : List (List ℕ × V)
    value : V
    behind : List (List ℕ × V)
    split : pairs ≡ before ++ (key, value) ∷ behind

  split_at : (key : List ℕ) (pairs : List (List ℕ × V)) → Contains (keys pairs) key → Split key pairs
  split_at key [] there = absurd (contains_none key there)
  split_at key (p ∷ pairs) there = ⊎_elim
      (λ (same : key ≡ p.0). record { before = []; value = p.1; behind = pairs; split = ap (λ k. (k, p.1) ∷ pairs) (sym same) })
      (λ (h : Contains (keys pairs) key).
      let rest = split_at key pairs h in
      record { before = p ∷ rest.before; value = rest.value; behind = rest.behind; split = ap (λ l. p ∷ l) rest.split })
      (contains_cases p.0 (keys pairs) key there)

  -- some pair has each of the keys
  pub pair_of_key : (key : List ℕ) (pairs : List (List ℕ × V)) → Contains (keys pairs) key → (value : V) × Contains pairs (key, value)
  pair_of_key key pairs there =
      let at = split_at key pairs there in (
        at.value,
        subst (λ (l : List (List ℕ × V)). Contains l (key, at.value)) (sym at.split)
            (Contains-append_right at.before ((key, at.value) ∷ at.behind) (key, at.value) (contains_here (key, at.value) at.behind)),
      )

  pub twice_here : (p : List ℕ × V) (pairs : List (List ℕ × V)) → Contains (keys pairs) p.0 → StandsTwice p.0 (p ∷ pairs)
  twice_here p pairs there =
      let rest = split_at p.0 pairs there in
      record { before = []; one = p.1; between = rest.before; other = rest.value; behind = rest.behind; split = ap (λ l. p ∷ l) rest.split }

  twice_cases_at : (p : List ℕ × V) (key : List ℕ) (pairs before : List (List ℕ × V)) (one : V) (between : List (List ℕ × V)) (other : V) (behind : List (List ℕ × V)) →
      p ∷ pairs ≡ before ++ (key, one) ∷ (between ++ (key, other) ∷ behind) →
      StandsTwice key pairs ⊎ ((key ≡ p.0) × Contains (keys pairs) key)
  twice_cases_at p key pairs [] one between other behind e =
      let head : (key, one) ≡ p = cc in
      let rest : between ++ (key, other) ∷ behind ≡ pairs = cc in
      inr (ap (λ (q : List ℕ × V). q.0) head, subst (λ (l : List (List ℕ × V)). Contains (keys l) key) rest (key_at between (key, other) behind))
  twice_cases_at p key pairs (b ∷ before) one between other behind e =
      inl (record { before = before; one = one; between = between; other = other; behind = behind; split = cc })

  pub twice_cases : (p : List ℕ × V) (key : List ℕ) (pairs : List (List ℕ × V)) → StandsTwice key (p ∷ pairs) →
      StandsTwice key pairs ⊎ ((key ≡ p.0) × Contains (keys pairs) key)
  twice_cases p key pairs is = twice_cases_at p key pairs is.before is.one is.between is.other is.behind is.split

  pub twice_is_in : (key : List ℕ) (pairs : List (List ℕ × V)) → StandsTwice key pairs → Contains (keys pairs) key
  twice_is_in key pairs is = subst (λ (l : List (List ℕ × V)). Contains (keys l) key) (sym is.split)
      (key_at is.before (key, is.one) (is.between ++ (key, is.other) ∷ is.behind))
