-- The least of what is told, and the least key.
use Rattle.std.proofs.Common.{◌≡◌, ℕ, Bool, true, false, cond, List, [], ◌∷◌, Option, Some, None, option_map, find, refl, sym, ap, ◌∙◌, subst, ⊎_elim, inl, inr, zero, suc, true≢false, arith}
use Rattle.std.specs.Prelude.{◌⊎◌, Any, Contains}
use Rattle.std.specs.Bool.{Decides}
use Rattle.std.specs.List.{list_any, AllByRecursion}
use Rattle.std.specs.Ordering.{nat_cmp, is_eq}
use Rattle.std.specs.declared.cmp.Ordering.{Ordering}
use Rattle.std.specs.declared.cmp.Ordering.TheVariants.{Less, Greater}
use Rattle.std.specs.Cmp.Lexicographic.{slice_cmp}
use Rattle.std.specs.List.Sorted.{IsStrictlySortedBy}
use Rattle.std.proofs.lemmas.List.Elements.{Contains-append_right}
use Rattle.std.proofs.lemmas.List.Folds.{Any-from_list_any, list_any-from_Any}
use Rattle.std.proofs.lemmas.Map.Keys.{sorted_head, sorted_tail}
use Rattle.std.proofs.lemmas.Map.Text.{is_eq-slice_cmp}
use Rattle.std.proofs.lemmas.Slice.Eq.{bytes_eq-Decides}
use Rattle.trace_model.specs.LeastOf.{IsLeastOf}
use Rattle.span_tags.specs.FaultTables.{if_so}
use Rattle.span_tags.specs.PlacedFaults.{KeyAtMost}

module _ {X : Type 0} (AtMost : X → X → Type 0) (First Second : X → Type 0) where
  -- what is told in other words
  pub least_same : ((x : X) → First x → Second x) → ((x : X) → Second x → First x) → (found : Option X) → IsLeastOf AtMost First found → IsLeastOf AtMost Second found
  least_same to from None none = λ x h. none x (from x h)
  least_same to from (Some y) least = (to y least.0, λ x h. least.1 x (from x h))

-- one alone, where a test says so
pub least_if : {X : Type 0} (AtMost : X → X → Type 0) → ((x : X) → AtMost x x) → (found : X) (P : Type 0) (so : Bool) → Decides so P
    → IsLeastOf AtMost (λ x. (x ≡ found) × P) (if_so so found)
least_if AtMost itself found P true d = ((refl, d.0 refl), λ x h. subst (AtMost found) (sym h.0) (itself found))
least_if AtMost itself found P false d = λ x h. true≢false (sym (d.1 h.1))

-- ---- keys

abbrev cmp : List ℕ → List ℕ → Ordering
cmp = slice_cmp nat_cmp

pub not_above_itself : (k : List ℕ) → KeyAtMost k k
not_above_itself k e =
    let same : is_eq (cmp k k) ≡ true = is_eq-slice_cmp k k ∙ (bytes_eq-Decides k k).1 refl in
    let differs : is_eq (cmp k k) ≡ false = ap is_eq e in
    true≢false (sym same ∙ differs)

below_is_at_most : (a b : List ℕ) → cmp a b ≡ Less → KeyAtMost a b
below_is_at_most a b less greater = let never : Less ≡ Greater = sym less ∙ greater in cc

-- ---- tests

any_like : {X : Type 0} (P Q : X → Type 0) (xs : List X) → ((x : X) → P x → Q x) → Any P xs → Any Q xs
any_like P Q xs to (k, x, lt, is, p) = (k, x, lt, is, to x p)

-- some of a list are such where one passes the test
pub any_decides : {X : Type 0} (test : X → Bool) (P : X → Type 0) → ((x : X) → Decides (test x) (P x)) → (xs : List X) → Decides (list_any test xs) (Any P xs)
any_decides test P each xs = (
  λ e. any_like (λ x. test x ≡ true) P xs (λ x. (each x).0) (Any-from_list_any test xs e),
  λ h. list_any-from_Any test xs (any_like P (λ x. test x ≡ true) xs (λ x. (each x).1) h),
)

pub any_none : {X : Type 0} (P : X → Type 0) → Any P [] → ⊥
any_none P (k, x, lt, e, p) = omega (arith, lt)

pub any_here : {X : Type 0} (P : X → Type 0) (x : X) (xs : List X) → P x → Any P (x ∷ xs)
any_here P x xs p = (0, x, omega arith, refl, p)

pub any_behind : {X : Type 0} (P : X → Type 0) (x : X) (xs : List X) → Any P xs → Any P (x ∷ xs)
any_behind P x xs (k, y, lt, e, p) = (suc k, y, omega (arith, lt), e, p)

pub any_cases : {X : Type 0} (P : X → Type 0) (x : X) (xs : List X) → Any P (x ∷ xs) → P x ⊎ Any P xs
any_cases P x xs (zero, y, lt, e, p) = inl (subst P (sym e) p)
any_cases P x xs (suc k, y, lt, e, p) = inr (k, y, omega (arith, lt), e, p)

pub itself : (b : Bool) → Decides b (b ≡ true)
itself b = (λ e. e, λ e. e)

pub never : Decides false ⊥
never = (λ e. true≢false (sym e), λ h. absurd h)

-- ---- members

contains_here : {X : Type 0} (x : X) (xs : List X) → Contains (x ∷ xs) x
contains_here x xs = (0, omega arith, refl)

contains_behind : {X : Type 0} (x : X) (xs : List X) (y : X) → Contains xs y → Contains (x ∷ xs) y
contains_behind x xs y there = Contains-append_right (x ∷ []) xs y there

contains_cases : {X : Type 0} (x : X) (xs : List X) (y : X) → Contains (x ∷ xs) y → (y ≡ x) ⊎ Contains xs y
contains_cases x xs y (zero, lt, e) = inl (sym e)
contains_cases x xs y (suc k, lt, e) = inr (k, omega arith, e)

contains_none : {X : Type 0} (y : X) → Contains [] y → ⊥
contains_none y there = omega (arith, there.1)

-- ---- members with rising keys

module _ {X : Type 0} (key_of : X → List ℕ) where
  abbrev by_key : X → X → Ordering
  by_key x y = cmp (key_of x) (key_of y)

  abbrev pub Rising : List X → Type 0
  Rising xs = IsStrictlySortedBy by_key xs

  abbrev pub ByKey : X → X → Type 0
  ByKey x y = KeyAtMost (key_of x) (key_of y)

  above_first : (x : X) (xs : List X) → AllByRecursion (λ y. by_key x y ≡ Less) xs → (y : X) → Contains xs y → by_key x y ≡ Less
  above_first x [] all y there = absurd (contains_none y there)
  above_first x (z ∷ xs) all y there = ⊎_elim
      (λ (same : y ≡ z). subst (λ (w : X). by_key x w ≡ Less) (sym same) all.0)
      (λ (h : Contains xs y). above_first x xs all.1 y h)
      (contains_cases z xs y there)

  -- the first that passes a test has the least key
  module _ (test : X → Bool) where
    abbrev Passes : List X → X → Type 0
    Passes xs x = (test x ≡ true) × Contains xs x

    first_passes : (x : X) (xs : List X) → Rising (x ∷ xs) → IsLeastOf ByKey (Passes xs) (find test xs)
        → (b : Bool) → test x ≡ b → IsLeastOf ByKey (Passes (x ∷ xs)) (cond b (Some x) (find test xs))
    first_passes x xs up rest true e = (
      (e, contains_here x xs),
      λ y h. ⊎_elim
          (λ (same : y ≡ x). subst (ByKey x) (sym same) (not_above_itself (key_of x)))
          (λ (there : Contains xs y). below_is_at_most (key_of x) (key_of y) (above_first x xs (sorted_head by_key x xs up) y there))
          (contains_cases x xs y h.1),
    )
    first_passes x xs up rest false e = least_same ByKey (Passes xs) (Passes (x ∷ xs))
        (λ y h. (h.0, contains_behind x xs y h.1))
        (λ y h. (h.0, ⊎_elim (λ (same : y ≡ x). absurd (true≢false (sym h.0 ∙ ap test same ∙ e))) (λ (there : Contains xs y). there) (contains_cases x xs y h.1)))
        (find test xs) rest

    pub least_found : (xs : List X) → Rising xs → IsLeastOf ByKey (Passes xs) (find test xs)
    least_found [] up = λ x h. contains_none x h.1
    least_found (x ∷ xs) up = first_passes x xs up (least_found xs (sorted_tail by_key x xs up)) (test x) refl

  -- and its key is the least
  pub least_key_of : (P : X → Type 0) (found : Option X) → IsLeastOf ByKey P found → IsLeastOf KeyAtMost (λ key. (x : X) × (key ≡ key_of x) × P x) (option_map key_of found)
  least_key_of P None none = λ key h. none h.0 h.2
  least_key_of P (Some x) least = ((x, refl, least.0), λ key h. subst (KeyAtMost (key_of x)) (sym h.1) (least.1 h.0 h.2))
