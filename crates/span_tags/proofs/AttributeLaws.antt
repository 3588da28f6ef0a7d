-- What is known of pairs whose keys rise, taken as finite maps: what stands at a key of attributes, of a part of them and of several lists,
-- and that rising pairs are equal where the same stands at each key.
--     last_at key pairs      the value of the last pair of the key
use Rattle.std.proofs.Common.{◌≡◌, ℕ, zero, suc, Bool, true, false, cond, List, [], ◌∷◌, ◌++◌, map, All, Contains, filter, Option, Some, None, option_map, is_some, refl, sym, ap, ◌∙◌, subst, true≢false, arith}
use Rattle.std.specs.Cmp.Lexicographic.{slice_cmp}
use Rattle.std.specs.List.{AllByRecursion}
use Rattle.std.specs.List.Sorted.{IsStrictlySortedBy}
use Rattle.std.specs.Option.{option_or}
use Rattle.std.specs.Ordering.{nat_cmp, is_eq, ordering_reverse}
use Rattle.std.specs.Str.{bytes_eq}
use Rattle.std.specs.declared.cmp.Ordering.{Ordering}
use Rattle.std.specs.declared.cmp.Ordering.TheVariants.{Less, Equal, Greater}
use Rattle.std.proofs.lemmas.Cmp.{nat_list_cmp_total}
use Rattle.std.proofs.lemmas.List.Elements.{All-nil, All-cons, All-head, All-tail}
use Rattle.std.proofs.lemmas.List.Kept.{IsStrictlySortedBy-filter}
use Rattle.std.proofs.lemmas.Map.Entries.{lookup-filter-keys}
use Rattle.std.proofs.lemmas.Map.Made.{lookup-map_values, keys_of-map_values}
use Rattle.std.proofs.lemmas.Map.Text.{is_eq-slice_cmp}
use Rattle.std.proofs.lemmas.Slice.Eq.{bytes_eq-Decides}
use Rattle.trace_model.specs.Attributes.{Rise, keys, by_order, placed, attrs, at}

-- ---- keys

abbrev cmp : List ℕ → List ℕ → Ordering
cmp = slice_cmp nat_cmp

pub same_key : (x y : List ℕ) → bytes_eq x y ≡ true → x ≡ y
same_key x y e = (bytes_eq-Decides x y).0 e

pub key_itself : (x : List ℕ) → bytes_eq x x ≡ true
key_itself x = (bytes_eq-Decides x x).1 refl

other_by : (x y : List ℕ) (same : Bool) → bytes_eq y x ≡ same → bytes_eq x y ≡ false → bytes_eq y x ≡ false
other_by x y true e apart = absurd (true≢false (sym (key_itself x) ∙ ap (bytes_eq x) (sym (same_key y x e)) ∙ apart))
other_by x y false e apart = e

-- keys that differ do so both ways
pub other_way : (x y : List ℕ) → bytes_eq x y ≡ false → bytes_eq y x ≡ false
other_way x y apart = other_by x y (bytes_eq y x) refl apart

same_from_Equal : (x y : List ℕ) → cmp x y ≡ Equal → x ≡ y
same_from_Equal x y e = same_key x y (sym (is_eq-slice_cmp x y) ∙ ap is_eq e)

flipped : (x y : List ℕ) → cmp x y ≡ ordering_reverse (cmp y x)
flipped x y = nat_list_cmp_total.antisymm x y

apart_from_Less : (x y : List ℕ) → cmp x y ≡ Less → bytes_eq x y ≡ false
apart_from_Less x y e = sym (is_eq-slice_cmp x y) ∙ ap is_eq e

-- ---- options

pub option_or-none : {X : Type 0} → (o : Option X) → option_or o None ≡ o
option_or-none None = refl
option_or-none (Some x) = refl

pub option_or-assoc : {X : Type 0} → (a b c : Option X) → option_or (option_or a b) c ≡ option_or a (option_or b c)
option_or-assoc None b c = refl
option_or-assoc (Some x) b c = refl

-- ---- all keys

all_keys : (P Q : List ℕ → Type 0) → ((k : List ℕ) → P k → Q k) → (ks : List (List ℕ)) → AllByRecursion P ks → AllByRecursion Q ks
all_keys P Q each [] all = tt
all_keys P Q each (k ∷ ks) all = (each k all.0, all_keys P Q each ks all.1)

pub below_all : (k q : List ℕ) (qs : List (List ℕ)) → cmp k q ≡ Less → AllByRecursion (λ x. cmp q x ≡ Less) qs → AllByRecursion (λ x. cmp k x ≡ Less) qs
below_all k q qs e = all_keys (λ x. cmp q x ≡ Less) (λ x. cmp k x ≡ Less) (λ x. nat_list_cmp_total.trans k q x e) qs

module _ {V : Type 0} where
  -- ---- what stands at a key

  abbrev pub last_at : List ℕ → List (List ℕ × V) → Option V
  last_at key [] = None
  last_at key (pair ∷ pairs) = option_or (last_at key pairs) (cond (bytes_eq key pair.0) (Some pair.1) None)

  -- nothing at a key that is below all
  pub at_below : (k : List ℕ) (l : List (List ℕ × V)) → AllByRecursion (λ q. cmp k q ≡ Less) (keys l) → at k l ≡ None
  at_below k [] all = refl
  at_below k (q ∷ qs) all = rw (apart_from_Less k q.0 all.0) (at_below k qs all.1)

  -- nothing at a key that isn't there
  pub at_absent : (k : List ℕ) (l : List (List ℕ × V)) → (Contains (keys l) k → ⊥) → at k l ≡ None
  at_absent k [] absent = refl
  at_absent k (q ∷ qs) absent = by (bytes_eq k q.0) refl (at_absent k qs (λ there. absent (suc there.0, omega (arith, there.1), there.2)))
    where
      by : (b : Bool) → bytes_eq k q.0 ≡ b → at k qs ≡ None → cond b (Some q.1) (at k qs) ≡ None
      by true e rest = absurd (absent (0, omega arith, sym (same_key k q.0 e)))
      by false e rest = rest

  -- something at a key that is
  pub at_there : (k : List ℕ) (l : List (List ℕ × V)) → Contains (keys l) k → at k l ≡ None → ⊥
  at_there k [] there none = absurd (omega (arith, there.1))
  at_there k (q ∷ qs) there none = by (at_there k qs) (bytes_eq k q.0) refl none there
    where
      by : (Contains (keys qs) k → at k qs ≡ None → ⊥) → (b : Bool) → bytes_eq k q.0 ≡ b → cond b (Some q.1) (at k qs) ≡ None → Contains (keys (q ∷ qs)) k → ⊥
      by rest true e none there = true≢false (ap is_some none)
      by rest false e none (zero, lt, same) = true≢false (sym (key_itself k) ∙ ap (bytes_eq k) (sym same) ∙ e)
      by rest false e none (suc i, lt, same) = rest (i, omega (arith, lt), same) none

  pub key_of_at : (k : List ℕ) (l : List (List ℕ × V)) (v : V) → at k l ≡ Some v → Contains (keys l) k
  key_of_at k [] v e = absurd (true≢false (sym (ap is_some e)))
  key_of_at k (q ∷ qs) v e = by (key_of_at k qs v) (bytes_eq k q.0) refl e
    where
      by : (at k qs ≡ Some v → Contains (keys qs) k) → (b : Bool) → bytes_eq k q.0 ≡ b → cond b (Some q.1) (at k qs) ≡ Some v → Contains (keys (q ∷ qs)) k
      by later true same e = (0, omega arith, sym (same_key k q.0 same))
      by later false apart e = let rest = later e in (suc rest.0, omega (arith, rest.1), rest.2)

  some_by : (k : List ℕ) (l : List (List ℕ × V)) (o : Option V) → at k l ≡ o → is_some o ≡ true → Contains (keys l) k
  some_by k l None e is = absurd (true≢false (sym is))
  some_by k l (Some v) e is = key_of_at k l v e

  pub key_of_some : (k : List ℕ) (l : List (List ℕ × V)) → is_some (at k l) ≡ true → Contains (keys l) k
  key_of_some k l is = some_by k l (at k l) refl is

  is_some_by : (k : List ℕ) (l : List (List ℕ × V)) (o : Option V) → at k l ≡ o → Contains (keys l) k → is_some o ≡ true
  is_some_by k l None e there = absurd (at_there k l there e)
  is_some_by k l (Some v) e there = refl

  pub some_of_key : (k : List ℕ) (l : List (List ℕ × V)) → Contains (keys l) k → is_some (at k l) ≡ true
  some_of_key k l there = is_some_by k l (at k l) refl there

  -- ---- one pair more

  grown : (b : Bool) (v : V) (y z : Option V) → cond b (Some v) (option_or y z) ≡ option_or (cond b (Some v) y) z
  grown true v y z = refl
  grown false v y z = refl

  pub at_append : (k : List ℕ) (a b : List (List ℕ × V)) → at k (a ++ b) ≡ option_or (at k a) (at k b)
  at_append k [] b = refl
  at_append k (p ∷ a) b = ap (cond (bytes_eq k p.0) (Some p.1)) (at_append k a b) ∙ grown (bytes_eq k p.0) p.1 (at k a) (at k b)

  at_first : (b : Bool) (v : V) (rest : Option V) → (b ≡ true → rest ≡ None) → cond b (Some v) rest ≡ option_or rest (cond b (Some v) None)
  at_first true v rest none = rw (none refl) refl
  at_first false v rest none = sym (option_or-none rest)

  at_known : (b c : Bool) (v w : V) (rest : Option V) → b ≡ c → cond b (Some v) rest ≡ option_or (cond b (Some v) rest) (cond c (Some w) None)
  at_known true c v w rest e = refl
  at_known false true v w rest e = absurd (true≢false (sym e))
  at_known false false v w rest e = sym (option_or-none rest)

  at_placed : (k : List ℕ) (p : List ℕ × V) (l : List (List ℕ × V)) → Rise (keys l) → at k (placed p l) ≡ option_or (at k l) (cond (bytes_eq k p.0) (Some p.1) None)
  unfolding IsStrictlySortedBy
  at_placed k p [] up = refl
  at_placed k p (q ∷ qs) up = by (at_placed k p qs up.1) (cmp p.0 q.0) refl
    where
      by : at k (placed p qs) ≡ option_or (at k qs) (cond (bytes_eq k p.0) (Some p.1) None) → (o : Ordering) → cmp p.0 q.0 ≡ o → at k (by_order o (p ∷ q ∷ qs) (q ∷ qs) (q ∷ placed p qs)) ≡ option_or (at k (q ∷ qs)) (cond (bytes_eq k p.0) (Some p.1) None)
      by later Less e = at_first (bytes_eq k p.0) p.1 (at k (q ∷ qs)) (λ same. at_below k (q ∷ qs)
          (subst (λ x. cmp x q.0 ≡ Less) (sym (same_key k p.0 same)) e, below_all k q.0 (keys qs) (subst (λ x. cmp x q.0 ≡ Less) (sym (same_key k p.0 same)) e) up.0))
      by later Equal e = at_known (bytes_eq k q.0) (bytes_eq k p.0) q.1 p.1 (at k qs) (ap (bytes_eq k) (sym (same_from_Equal p.0 q.0 e)))
      by later Greater e = ap (cond (bytes_eq k q.0) (Some q.1)) later ∙ grown (bytes_eq k q.0) q.1 (at k qs) (cond (bytes_eq k p.0) (Some p.1) None)

  all_placed : (P : List ℕ → Type 0) (p : List ℕ × V) (l : List (List ℕ × V)) → P p.0 → AllByRecursion P (keys l) → AllByRecursion P (keys (placed p l))
  all_placed P p [] here all = (here, tt)
  all_placed P p (q ∷ qs) here all = by (all_placed P p qs here all.1) (cmp p.0 q.0)
    where
      by : AllByRecursion P (keys (placed p qs)) → (o : Ordering) → AllByRecursion P (keys (by_order o (p ∷ q ∷ qs) (q ∷ qs) (q ∷ placed p qs)))
      by later Less = (here, all)
      by later Equal = all
      by later Greater = (all.0, later)

  placed_rise : (p : List ℕ × V) (l : List (List ℕ × V)) → Rise (keys l) → Rise (keys (placed p l))
  unfolding IsStrictlySortedBy
  placed_rise p [] up = (tt, tt)
  placed_rise p (q ∷ qs) up = by (placed_rise p qs up.1) (cmp p.0 q.0) refl
    where
      by : Rise (keys (placed p qs)) → (o : Ordering) → cmp p.0 q.0 ≡ o → Rise (keys (by_order o (p ∷ q ∷ qs) (q ∷ qs) (q ∷ placed p qs)))
      by later Less e = ((e, below_all p.0 q.0 (keys qs) e up.0), up)
      by later Equal e = up
      by later Greater e = (all_placed (λ x. cmp q.0 x ≡ Less) p qs (flipped q.0 p.0 ∙ ap ordering_reverse e) up.0, later)

  -- ---- attributes

  pub attrs_rise : (l : List (List ℕ × V)) → Rise (keys (attrs l))
  unfolding IsStrictlySortedBy
  attrs_rise [] = tt
  attrs_rise (p ∷ l) = placed_rise p (attrs l) (attrs_rise l)

  -- at a key of attributes stands the last of it
  pub at_attrs : (k : List ℕ) (l : List (List ℕ × V)) → at k (attrs l) ≡ last_at k l
  at_attrs k [] = refl
  at_attrs k (p ∷ l) = at_placed k p (attrs l) (attrs_rise l) ∙ ap (λ o. option_or o (cond (bytes_eq k p.0) (Some p.1) None)) (at_attrs k l)

  placed_first : (p : List ℕ × V) (l : List (List ℕ × V)) → AllByRecursion (λ x. cmp p.0 x ≡ Less) (keys l) → placed p l ≡ p ∷ l
  placed_first p [] all = refl
  placed_first p (q ∷ qs) all = ap (λ o. by_order o (p ∷ q ∷ qs) (q ∷ qs) (q ∷ placed p qs)) all.0

  -- those whose keys rise are their own attributes
  pub attrs_itself : (l : List (List ℕ × V)) → Rise (keys l) → attrs l ≡ l
  unfolding IsStrictlySortedBy
  attrs_itself [] up = refl
  attrs_itself (p ∷ l) up = ap (placed p) (attrs_itself l up.1) ∙ placed_first p l up.0

  pub attrs_twice : (l : List (List ℕ × V)) → attrs (attrs l) ≡ attrs l
  attrs_twice l = attrs_itself (attrs l) (attrs_rise l)

  pub last_at-rising : (k : List ℕ) (l : List (List ℕ × V)) → Rise (keys l) → last_at k l ≡ at k l
  last_at-rising k l up = sym (at_attrs k l) ∙ ap (at k) (attrs_itself l up)

  pub last_at-append : (k : List ℕ) (a b : List (List ℕ × V)) → last_at k (a ++ b) ≡ option_or (last_at k b) (last_at k a)
  last_at-append k [] b = sym (option_or-none (last_at k b))
  last_at-append k (p ∷ a) b =
      ap (λ o. option_or o (cond (bytes_eq k p.0) (Some p.1) None)) (last_at-append k a b)
      ∙ option_or-assoc (last_at k b) (last_at k a) (cond (bytes_eq k p.0) (Some p.1) None)

  -- at a key of pairs before rising ones
  pub at_attrs-append : (k : List ℕ) (a b : List (List ℕ × V)) → Rise (keys b) → at k (attrs (a ++ b)) ≡ option_or (at k b) (last_at k a)
  at_attrs-append k a b up = at_attrs k (a ++ b) ∙ last_at-append k a b ∙ ap (λ o. option_or o (last_at k a)) (last_at-rising k b up)

  all_put : (P : List ℕ × V → Type 0) (p : List ℕ × V) (l : List (List ℕ × V)) → P p → All P l → All P (placed p l)
  all_put P p [] here all = All-cons P p [] here all
  all_put P p (q ∷ qs) here all = by (all_put P p qs here (All-tail P q qs all)) (cmp p.0 q.0)
    where
      by : All P (placed p qs) → (o : Ordering) → All P (by_order o (p ∷ q ∷ qs) (q ∷ qs) (q ∷ placed p qs))
      by later Less = All-cons P p (q ∷ qs) here all
      by later Equal = all
      by later Greater = All-cons P q (placed p qs) (All-head P q qs all) later

  pub all_attrs : (P : List ℕ × V → Type 0) (l : List (List ℕ × V)) → All P l → All P (attrs l)
  all_attrs P [] all = All-nil P
  all_attrs P (p ∷ l) all = all_put P p (attrs l) (All-head P p l all) (all_attrs P l (All-tail P p l all))

  -- ---- equal look-ups

  -- rising pairs at which the same stands under each key are equal
  pub same_pairs : (a b : List (List ℕ × V)) → Rise (keys a) → Rise (keys b) → ((k : List ℕ) → at k a ≡ at k b) → a ≡ b
  unfolding IsStrictlySortedBy
  same_pairs [] [] up_a up_b same = refl
  same_pairs [] (y ∷ ys) up_a up_b same =
      absurd (true≢false (sym (ap is_some (same y.0 ∙ ap (λ b. cond b (Some y.1) (at y.0 ys)) (key_itself y.0)))))
  same_pairs (x ∷ xs) [] up_a up_b same =
      absurd (true≢false (ap is_some (ap (λ b. cond b (Some x.1) (at x.0 xs)) (sym (key_itself x.0)) ∙ same x.0)))
  same_pairs (x ∷ xs) (y ∷ ys) up_a up_b same = by (same_pairs xs ys up_a.1 up_b.1) (cmp x.0 y.0) refl
    where
      here_a : at x.0 (x ∷ xs) ≡ Some x.1
      here_a = ap (λ b. cond b (Some x.1) (at x.0 xs)) (key_itself x.0)

      here_b : at y.0 (y ∷ ys) ≡ Some y.1
      here_b = ap (λ b. cond b (Some y.1) (at y.0 ys)) (key_itself y.0)

      rest : x.0 ≡ y.0 → (k : List ℕ) → (b : Bool) → bytes_eq k x.0 ≡ b → at k xs ≡ at k ys
      rest e k true is =
          let at_x = subst (λ z. AllByRecursion (λ q. cmp z q ≡ Less) (keys xs)) (sym (same_key k x.0 is)) up_a.0 in
          let at_y = subst (λ z. AllByRecursion (λ q. cmp z q ≡ Less) (keys ys)) (sym (same_key k x.0 is ∙ e)) up_b.0 in
          at_below k xs at_x ∙ sym (at_below k ys at_y)
      rest e k false is =
          ap (λ b. cond b (Some x.1) (at k xs)) (sym is) ∙ same k ∙ ap (λ b. cond b (Some y.1) (at k ys)) (ap (bytes_eq k) (sym e) ∙ is)

      by : (((k : List ℕ) → at k xs ≡ at k ys) → xs ≡ ys) → (o : Ordering) → cmp x.0 y.0 ≡ o → x ∷ xs ≡ y ∷ ys
      by later Less e = absurd (true≢false (ap is_some (sym here_a ∙ same x.0 ∙ at_below x.0 (y ∷ ys) (e, below_all x.0 y.0 (keys ys) e up_b.0))))
      by later Greater e =
          let low : cmp y.0 x.0 ≡ Less = flipped y.0 x.0 ∙ ap ordering_reverse e in
          absurd (true≢false (ap is_some (sym here_b ∙ sym (same y.0) ∙ at_below y.0 (x ∷ xs) (low, below_all y.0 x.0 (keys xs) low up_a.0))))
      by later Equal e =
          let key : x.0 ≡ y.0 = same_from_Equal x.0 y.0 e in
          let value : Some x.1 ≡ Some y.1 = sym here_a ∙ same x.0 ∙ ap (λ k. at k (y ∷ ys)) key ∙ here_b in
          let value_too : x.1 ≡ y.1 = cc in
          let others : xs ≡ ys = later (λ k. rest key k (bytes_eq k x.0) refl) in
          λ i. (key i, value_too i) ∷ others i

  -- lists of which no key stands in both
  abbrev pub AreApart : List (List ℕ × V) → List (List ℕ × V) → Type 0
  AreApart a b = (k : List ℕ) → is_some (at k a) ≡ true → at k b ≡ None

  either_way : (x y : Option V) → (is_some x ≡ true → y ≡ None) → option_or y x ≡ option_or x y
  either_way None y apart = option_or-none y
  either_way (Some v) y apart = ap (λ o. option_or o (Some v)) (apart refl)

  -- such lists make the same attributes in either order
  pub attrs_apart : (a b : List (List ℕ × V)) → Rise (keys a) → Rise (keys b) → AreApart a b → attrs (a ++ b) ≡ attrs (b ++ a)
  attrs_apart a b up_a up_b apart = same_pairs (attrs (a ++ b)) (attrs (b ++ a)) (attrs_rise (a ++ b)) (attrs_rise (b ++ a)) (λ k.
      at_attrs-append k a b up_b
      ∙ ap (option_or (at k b)) (last_at-rising k a up_a)
      ∙ either_way (at k a) (at k b) (apart k)
      ∙ sym (at_attrs-append k b a up_a ∙ ap (option_or (at k a)) (last_at-rising k b up_b)))

  -- ---- parts by their keys

  pub at_filter : (k : List ℕ) (f : List ℕ → Bool) (l : List (List ℕ × V)) → at k (filter (λ pair. f pair.0) l) ≡ cond (f k) (at k l) None
  at_filter k f l = lookup-filter-keys (bytes_eq k) f (f k) (λ q e. ap f (sym (same_key k q e))) l

  keys_filter : (f : List ℕ → Bool) (l : List (List ℕ × V)) → keys (filter (λ pair. f pair.0) l) ≡ filter f (keys l)
  keys_filter f [] = refl
  keys_filter f (p ∷ l) = by (f p.0) (keys_filter f l)
    where
      by : (b : Bool) → keys (filter (λ pair. f pair.0) l) ≡ filter f (keys l) → keys (cond b (p ∷ filter (λ pair. f pair.0) l) (filter (λ pair. f pair.0) l)) ≡ cond b (p.0 ∷ filter f (keys l)) (filter f (keys l))
      by true e = ap (λ ks. p.0 ∷ ks) e
      by false e = e

  pub filter_rise : (f : List ℕ → Bool) (l : List (List ℕ × V)) → Rise (keys l) → Rise (keys (filter (λ pair. f pair.0) l))
  filter_rise f l up = subst Rise (sym (keys_filter f l)) (IsStrictlySortedBy-filter cmp f (keys l) up)

-- ---- other values under the same keys

abbrev pub on_values : {V W : Type 0} → (V → W) → List (List ℕ × V) → List (List ℕ × W)
on_values g l = map (λ pair. (pair.0, g pair.1)) l

module _ {V W : Type 0} (g : V → W) where
  pub at_map : (k : List ℕ) (l : List (List ℕ × V)) → at k (on_values g l) ≡ option_map g (at k l)
  at_map k l = lookup-map_values g (bytes_eq k) l

  pub keys_map : (l : List (List ℕ × V)) → keys (on_values g l) ≡ keys l
  keys_map l = keys_of-map_values g l

  pub map_rise : (l : List (List ℕ × V)) → Rise (keys l) → Rise (keys (on_values g l))
  map_rise l up = subst Rise (sym (keys_map l)) up

  map_placed : (p : List ℕ × V) (l : List (List ℕ × V)) → on_values g (placed p l) ≡ placed (p.0, g p.1) (on_values g l)
  map_placed p [] = refl
  map_placed p (q ∷ qs) = by (map_placed p qs) (cmp p.0 q.0)
    where
      by : on_values g (placed p qs) ≡ placed (p.0, g p.1) (on_values g qs) → (o : Ordering) → on_values g (by_order o (p ∷ q ∷ qs) (q ∷ qs) (q ∷ placed p qs))
          ≡ by_order o ((p.0, g p.1) ∷ (q.0, g q.1) ∷ on_values g qs) ((q.0, g q.1) ∷ on_values g qs) ((q.0, g q.1) ∷ placed (p.0, g p.1) (on_values g qs))
      by later Less = refl
      by later Equal = refl
      by later Greater = ap (λ l. (q.0, g q.1) ∷ l) later

  pub map_attrs : (l : List (List ℕ × V)) → on_values g (attrs l) ≡ attrs (on_values g l)
  map_attrs [] = refl
  map_attrs (p ∷ l) = map_placed p (attrs l) ∙ ap (placed (p.0, g p.1)) (map_attrs l)
