-- The order of keys, and lists that rise by it.
use Rattle.std.proofs.Common.{◌≡◌, ℕ, Bool, true, false, List, [], ◌∷◌, ◌++◌, length, All, Some, ◌-◌, zero, suc, not, refl, sym, ap, ◌∙◌, arith}
use Rattle.std.specs.Prelude.{◌≢◌, ◌&&◌, slice_get}
use Rattle.std.specs.Ordering.{nat_cmp, is_lt, is_eq, ordering_reverse}
use Rattle.std.specs.declared.cmp.Ordering.{Ordering}
use Rattle.std.specs.declared.cmp.Ordering.TheVariants.{Less, Equal, Greater}
use Rattle.std.specs.Cmp.Lexicographic.{slice_cmp}
use Rattle.std.specs.List.Sorted.{IsStrictlySortedBy, ties}
use Rattle.std.specs.Str.{bytes_eq}
use Rattle.std.proofs.lemmas.Cmp.{nat_list_cmp_total}
use Rattle.std.proofs.lemmas.Map.Text.{is_eq-slice_cmp}
use Rattle.std.proofs.lemmas.Map.Keys.{sorted_head, sorted_tail}
use Rattle.std.proofs.lemmas.List.{length-map}
use Rattle.std.proofs.lemmas.List.Elements.{All-nil, All-cons, All-head, All-tail, All-from_recursion, All-push, recursion_from_All}
use Rattle.std.proofs.lemmas.Slice.Eq.{bytes_eq-Decides}
use Rattle.trace_model.specs.Attributes.{Rise, keys}
use Rattle.trace_model.specs.private.Gathering.{ends_with, key_above}

abbrev cmp : List ℕ → List ℕ → Ordering
cmp = slice_cmp nat_cmp

pub same_key : (x y : List ℕ) → bytes_eq x y ≡ true → x ≡ y
same_key x y e = (bytes_eq-Decides x y).0 e

pub key_itself : (x : List ℕ) → bytes_eq x x ≡ true
key_itself x = (bytes_eq-Decides x x).1 refl

pub other_key : (x y : List ℕ) → bytes_eq x y ≡ false → x ≢ y
other_key x y e same = let known : bytes_eq x y ≡ true = (bytes_eq-Decides x y).1 same in cc

pub same_from_Equal : (x y : List ℕ) → cmp x y ≡ Equal → x ≡ y
same_from_Equal x y e = same_key x y (sym (is_eq-slice_cmp x y) ∙ ap is_eq e)

pub flipped : (x y : List ℕ) → cmp x y ≡ ordering_reverse (cmp y x)
flipped x y = nat_list_cmp_total.antisymm x y

apart_from : (x y : List ℕ) (b : Bool) → bytes_eq x y ≡ b → y ≢ x → bytes_eq x y ≡ false
apart_from x y false e apart = e
apart_from x y true e apart = absurd (apart (sym (same_key x y e)))

pub apart_keys : (x y : List ℕ) → y ≢ x → bytes_eq x y ≡ false
apart_keys x y = apart_from x y (bytes_eq x y) refl

below_from : (x k : List ℕ) (o : Ordering) → cmp x k ≡ o → is_lt (cmp k x) ≡ false → x ≢ k → cmp x k ≡ Less
below_from x k Less e low apart = e
below_from x k Equal e low apart = absurd (apart (same_from_Equal x k e))
below_from x k Greater e low apart =
    let never : is_lt (cmp k x) ≡ true = ap is_lt (flipped k x ∙ ap ordering_reverse e) in cc

-- a key that is no higher and differs is below
pub below : (x k : List ℕ) → is_lt (cmp k x) ≡ false → x ≢ k → cmp x k ≡ Less
below x k = below_from x k (cmp x k) refl

pub never_below_itself : (x : List ℕ) → cmp x x ≡ Less → ⊥
never_below_itself x e =
    let equal : is_eq (cmp x x) ≡ true = is_eq-slice_cmp x x ∙ key_itself x in
    let known : is_eq (cmp x x) ≡ false = ap is_eq e in cc

ties_from : (o : Ordering) → (not (is_lt (ordering_reverse o)) && not (is_lt o)) ≡ is_eq o
ties_from Less = refl
ties_from Equal = refl
ties_from Greater = refl

pub ties_is : {V : Type 0} → (x y : List ℕ × V) → ties key_above x y ≡ bytes_eq x.0 y.0
ties_is x y = ap (λ o. not (is_lt o) && not (is_lt (cmp x.0 y.0))) (flipped y.0 x.0) ∙ ties_from (cmp x.0 y.0) ∙ is_eq-slice_cmp x.0 y.0

-- no key is higher
abbrev pub AllUpTo : List ℕ → List (List ℕ) → Type 0
AllUpTo k xs = All (λ x. is_lt (cmp k x) ≡ false) xs

abbrev pub AllBelow : List ℕ → List (List ℕ) → Type 0
AllBelow k xs = All (λ x. cmp x k ≡ Less) xs

-- rising keys of which the last one isn't k, and none is higher, are all below k
pub all_below : (xs : List (List ℕ)) (k : List ℕ) → Rise xs → AllUpTo k xs → ends_with xs k ≡ false → AllBelow k xs
all_below [] k up most last = All-nil (λ x. cmp x k ≡ Less)
all_below (x ∷ []) k up most last =
    All-cons (λ x. cmp x k ≡ Less) x [] (below x k (All-head (λ x. is_lt (cmp k x) ≡ false) x [] most) (other_key x k last)) (All-nil (λ x. cmp x k ≡ Less))
all_below (x ∷ y ∷ ys) k up most last =
    let rest : AllBelow k (y ∷ ys) = all_below (y ∷ ys) k (sorted_tail cmp x (y ∷ ys) up) (All-tail (λ x. is_lt (cmp k x) ≡ false) x (y ∷ ys) most) last in
    let next : cmp x y ≡ Less = All-head (λ q. cmp x q ≡ Less) y ys (All-from_recursion (λ q. cmp x q ≡ Less) (y ∷ ys) (sorted_head cmp x (y ∷ ys) up)) in
    All-cons (λ x. cmp x k ≡ Less) x (y ∷ ys) (nat_list_cmp_total.trans x y k next (All-head (λ x. cmp x k ≡ Less) y ys rest)) rest

pub Rise-push : (xs : List (List ℕ)) (k : List ℕ) → Rise xs → AllBelow k xs → Rise (xs ++ k ∷ [])
unfolding IsStrictlySortedBy
Rise-push [] k up all = (tt, tt)
Rise-push (x ∷ xs) k up all = (
  recursion_from_All (λ q. cmp x q ≡ Less) (xs ++ k ∷ [])
      (All-push (λ q. cmp x q ≡ Less) xs k (All-from_recursion (λ q. cmp x q ≡ Less) xs up.0) (All-head (λ x. cmp x k ≡ Less) x xs all)),
  Rise-push xs k up.1 (All-tail (λ x. cmp x k ≡ Less) x xs all),
)

-- what `last` lends is what the names end with
pub ends_with-last : (names : List (List ℕ)) (name key : List ℕ) → Some name ≡ slice_get names (length names - 1) → ends_with names key ≡ bytes_eq name key
ends_with-last [] name key e = cc
ends_with-last (x ∷ []) name key e = let same : name ≡ x = cc in ap (λ k. bytes_eq k key) (sym same)
ends_with-last (x ∷ y ∷ names) name key e =
    let next : length (x ∷ y ∷ names) - 1 ≡ suc (length (y ∷ names) - 1) = omega arith in
    ends_with-last (y ∷ names) name key (e ∙ ap (slice_get (x ∷ y ∷ names)) next)

slice_get-keys : {V : Type 0} → (pairs : List (List ℕ × V)) (pair : List ℕ × V) (i : ℕ) → Some pair ≡ slice_get pairs i → Some pair.0 ≡ slice_get (keys pairs) i
slice_get-keys [] pair i e = cc
slice_get-keys (p ∷ pairs) pair zero e = let same : pair ≡ p = cc in ap (λ q. Some q.0) same
slice_get-keys (p ∷ pairs) pair (suc i) e = slice_get-keys pairs pair i e

pub keys_end : {V : Type 0} → (pairs : List (List ℕ × V)) (pair : List ℕ × V) (key : List ℕ) → Some pair ≡ slice_get pairs (length pairs - 1) → ends_with (keys pairs) key ≡ bytes_eq pair.0 key
keys_end pairs pair key e = ends_with-last (keys pairs) pair.0 key
    (slice_get-keys pairs pair (length pairs - 1) e ∙ ap (λ n. slice_get (keys pairs) (n - 1)) (sym (length-map pairs (λ p. p.0))))
