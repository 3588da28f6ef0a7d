-- The attributes of a list of pairs, made pair by pair, each put in its place.
use Rattle.std.proofs.Common.{◌≡◌, ℕ, List, [], ◌∷◌, refl, sym, ap, ◌∙◌, subst, ⊎_elim, inl, inr}
use Rattle.std.specs.Prelude.{◌↔◌, ◌⊎◌, Contains}
use Rattle.std.specs.Ordering.{nat_cmp, ordering_reverse}
use Rattle.std.specs.declared.cmp.Ordering.{Ordering}
use Rattle.std.specs.declared.cmp.Ordering.TheVariants.{Less, Equal, Greater}
use Rattle.std.specs.Cmp.Lexicographic.{slice_cmp}
use Rattle.std.proofs.lemmas.Cmp.{nat_list_cmp_total}
use Rattle.std.proofs.lemmas.Map.Keys.{sorted_tail}
use Rattle.trace_model.specs.Attributes.{Rise, keys, IsLast, AreAttributes, by_order, placed, attrs}
use Rattle.trace_model.proofs.Existence.{has, in_front, behind, With}
use Rattle.trace_model.proofs.Order.{same_from_Equal, flipped, never_below_itself}
use Rattle.trace_model.proofs.Places.{contains_here, contains_cons, contains_cases, contains_none, key_in, absent, not_in, pair_of_key, last_cons, last_here, last_cases, last_is_in}
use Rattle.trace_model.proofs.Rising.{above, same_rising}
use Rattle.trace_model.proofs.RisingAttributes.{none_rise}

abbrev cmp : List ℕ → List ℕ → Ordering
cmp = slice_cmp nat_cmp

abbrev key : {V : Type 0} → List ℕ × V → List ℕ
key pair = pair.0

module _ {V : Type 0} where
  -- a key among those behind the first is above it
  above_first : (y : List ℕ × V) (ys : List (List ℕ × V)) → Rise (keys (y ∷ ys)) → (k : List ℕ) → Contains (keys ys) k → cmp y.0 k ≡ Less
  above_first y ys up k there =
      let held = pair_of_key k ys there in above key y ys up (k, held.0) held.1

  -- a pair whose key stands already
  stays : (x : List ℕ × V) (xs : List (List ℕ × V)) → Rise (keys xs) → Contains (keys xs) x.0 → placed x xs ≡ xs
  stays x [] up there = absurd (contains_none x.0 there)
  stays x (y ∷ ys) up there = at (λ h. stays x ys (sorted_tail cmp y.0 (keys ys) up) h) (cmp x.0 y.0) refl
    where
      at : (Contains (keys ys) x.0 → placed x ys ≡ ys) → (o : Ordering) → cmp x.0 y.0 ≡ o → by_order o (x ∷ y ∷ ys) (y ∷ ys) (y ∷ placed x ys) ≡ y ∷ ys
      at rest Less e = absurd (⊎_elim
          (λ (same : x.0 ≡ y.0). never_below_itself x.0 (subst (λ (k : List ℕ). cmp x.0 k ≡ Less) (sym same) e))
          (λ (h : Contains (keys ys) x.0). never_below_itself x.0 (nat_list_cmp_total.trans x.0 y.0 x.0 e (above_first y ys up x.0 h)))
          (contains_cases y.0 (keys ys) x.0 there))
      at rest Equal e = refl
      at rest Greater e =
          let low : cmp y.0 x.0 ≡ Less = flipped y.0 x.0 ∙ ap ordering_reverse e in
          ⊎_elim
          (λ (same : x.0 ≡ y.0). absurd (never_below_itself x.0 (subst (λ (k : List ℕ). cmp k x.0 ≡ Less) (sym same) low)))
          (λ (h : Contains (keys ys) x.0). ap (λ (l : List (List ℕ × V)). y ∷ l) (rest h))
          (contains_cases y.0 (keys ys) x.0 there)

  -- these pairs and one more, by rising key
  record Holds (x : List ℕ × V) (xs list : List (List ℕ × V)) : Type 0 where
    rising : Rise (keys list)
    holds : (z : List ℕ × V) → Contains list z ↔ ((z ≡ x) ⊎ Contains xs z)

  held_by : (x : List ℕ × V) (xs : List (List ℕ × V)) (one : With key x xs) → Holds x xs one.list
  held_by x xs one = record { rising = one.rising; holds = one.holds }

  -- a pair of a new key
  comes : (x : List ℕ × V) (xs : List (List ℕ × V)) → Rise (keys xs) → (Contains (keys xs) x.0 → ⊥) → Holds x xs (placed x xs)
  comes x [] up new = held_by x [] (in_front key x [] up (λ z there. absurd (contains_none z there)))
  comes x (y ∷ ys) up new = at
      (comes x ys (sorted_tail cmp y.0 (keys ys) up) (λ there. new (contains_cons y.0 (keys ys) x.0 there)))
      (cmp x.0 y.0) refl
    where
      at : Holds x ys (placed x ys) → (o : Ordering) → cmp x.0 y.0 ≡ o → Holds x (y ∷ ys) (by_order o (x ∷ y ∷ ys) (y ∷ ys) (y ∷ placed x ys))
      at rest Less e = held_by x (y ∷ ys) (in_front key x (y ∷ ys) up (λ z there. ⊎_elim
          (λ (same : z ≡ y). subst (λ (w : List ℕ × V). cmp x.0 w.0 ≡ Less) (sym same) e)
          (λ (h : Contains ys z). nat_list_cmp_total.trans x.0 y.0 z.0 e (above key y ys up z h))
          (contains_cases y ys z there)))
      at rest Equal e = absurd (new (subst (λ (k : List ℕ). Contains (keys (y ∷ ys)) k) (sym (same_from_Equal x.0 y.0 e)) (contains_here y.0 (keys ys))))
      at rest Greater e = held_by x (y ∷ ys) (behind key x y ys up (flipped y.0 x.0 ∙ ap ordering_reverse e)
          (record { list = placed x ys; rising = rest.rising; holds = rest.holds }))

  -- each key has a last pair
  last_of : (k : List ℕ) (pairs : List (List ℕ × V)) → Contains (keys pairs) k → (value : V) × IsLast (k, value) pairs
  last_of k [] there = absurd (contains_none k there)
  last_of k ((q, v) ∷ pairs) there = at (λ h. last_of k pairs h) (has (keys pairs) k)
    where
      at : (Contains (keys pairs) k → (value : V) × IsLast (k, value) pairs) → Contains (keys pairs) k ⊎ (Contains (keys pairs) k → ⊥) → (value : V) × IsLast (k, value) ((q, v) ∷ pairs)
      at earlier (inl later) = let rest = earlier later in (rest.0, last_cons (q, v) (k, rest.0) pairs rest.1)
      at earlier (inr none) = ⊎_elim
          (λ (same : k ≡ q). (
            v,
            subst (λ (j : List ℕ). IsLast (j, v) ((q, v) ∷ pairs)) (sym same)
                (last_here (q, v) pairs (absent pairs q (λ h. none (subst (Contains (keys pairs)) (sym same) h)))),
          ))
          (λ (h : Contains (keys pairs) k). absurd (none h))
          (contains_cases q (keys pairs) k there)

  pub attrs_are : (pairs : List (List ℕ × V)) → AreAttributes (attrs pairs) pairs
  attrs_are [] = record { rising = none_rise; last = λ pair. (λ there. absurd (contains_none pair there), λ is. last_is_in pair [] is) }
  attrs_are (p ∷ pairs) = at (attrs_are pairs) (has (keys pairs) p.0)
    where
      known_in : AreAttributes (attrs pairs) pairs → Contains (keys (attrs pairs)) p.0 → Contains (keys pairs) p.0
      known_in are there =
          let held = pair_of_key p.0 (attrs pairs) there in key_in pairs (p.0, held.0) (last_is_in (p.0, held.0) pairs ((are.last (p.0, held.0)).0 held.1))

      at : AreAttributes (attrs pairs) pairs → Contains (keys pairs) p.0 ⊎ (Contains (keys pairs) p.0 → ⊥) → AreAttributes (placed p (attrs pairs)) (p ∷ pairs)
      at are (inl known) =
          let held = last_of p.0 pairs known in
          let there : Contains (keys (attrs pairs)) p.0 = key_in (attrs pairs) (p.0, held.0) ((are.last (p.0, held.0)).1 held.1) in
          subst (λ (l : List (List ℕ × V)). AreAttributes l (p ∷ pairs)) (sym (stays p (attrs pairs) are.rising there)) (record {
            rising = are.rising;
            last = λ pair. (
              λ h. last_cons p pair pairs ((are.last pair).0 h),
              λ is. ⊎_elim
                  (λ (h : IsLast pair pairs). (are.last pair).1 h)
                  (λ h. absurd (not_in pairs p.0 h.1 known))
                  (last_cases p pair pairs is),
            );
          })
      at are (inr new) =
          let one = comes p (attrs pairs) are.rising (λ there. new (known_in are there)) in record {
            rising = one.rising;
            last = λ pair. (
              λ there. ⊎_elim
                  (λ (same : pair ≡ p). subst (λ (q : List ℕ × V). IsLast q (p ∷ pairs)) (sym same) (last_here p pairs (absent pairs p.0 new)))
                  (λ (h : Contains (attrs pairs) pair). last_cons p pair pairs ((are.last pair).0 h))
                  ((one.holds pair).0 there),
              λ is. (one.holds pair).1 (⊎_elim
                  (λ (h : IsLast pair pairs). inr ((are.last pair).1 h))
                  (λ h. inl h.0)
                  (last_cases p pair pairs is)),
            );
          }

  -- what is the attributes of the pairs is their value under the function
  pub same_attrs : (attributes pairs : List (List ℕ × V)) → AreAttributes attributes pairs → attributes ≡ attrs pairs
  same_attrs attributes pairs are =
      let made = attrs_are pairs in
      same_rising key attributes (attrs pairs) are.rising made.rising
      (λ z. (λ there. (made.last z).1 ((are.last z).0 there), λ there. (are.last z).1 ((made.last z).0 there)))
