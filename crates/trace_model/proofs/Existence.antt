-- Each list of pairs has repeated keys, and each list of keys has its order: element by element, put in its place.
use Rattle.std.proofs.Common.{◌≡◌, ℕ, Bool, true, false, List, [], ◌∷◌, refl, sym, ap, ◌∙◌, subst, ⊎_elim, inl, inr}
use Rattle.std.specs.Prelude.{◌↔◌, ◌⊎◌, Contains, map}
use Rattle.std.specs.Ordering.{nat_cmp, ordering_reverse}
use Rattle.std.specs.declared.cmp.Ordering.{Ordering}
use Rattle.std.specs.declared.cmp.Ordering.TheVariants.{Less, Equal, Greater}
use Rattle.std.specs.Cmp.Lexicographic.{slice_cmp}
use Rattle.std.specs.List.Sorted.{IsStrictlySortedBy}
use Rattle.std.specs.Str.{bytes_eq}
use Rattle.std.proofs.lemmas.Cmp.{nat_list_cmp_total}
use Rattle.std.proofs.lemmas.List.{map-id}
use Rattle.std.proofs.lemmas.List.Elements.{All-map, recursion_from_All}
use Rattle.std.proofs.lemmas.Map.Keys.{sorted_tail}
use Rattle.trace_model.specs.Attributes.{Rise, keys, StandsTwice, AreKeysInOrder, AreRepeated}
use Rattle.trace_model.proofs.Order.{same_key, other_key, same_from_Equal, flipped}
use Rattle.trace_model.proofs.Places.{contains_here, contains_cons, contains_cases, contains_none, All-from_contains, twice_cons, twice_here, twice_cases, twice_is_in}
use Rattle.trace_model.proofs.Rising.{above}
use Rattle.trace_model.proofs.RisingAttributes.{none_rise}

abbrev cmp : List ℕ → List ℕ → Ordering
cmp = slice_cmp nat_cmp

pub contains_from : {X : Type 0} (x : X) (xs : List X) (z : X) → (z ≡ x) ⊎ Contains xs z → Contains (x ∷ xs) z
contains_from x xs z h = ⊎_elim
    (λ (same : z ≡ x). subst (Contains (x ∷ xs)) (sym same) (contains_here x xs))
    (λ (there : Contains xs z). contains_cons x xs z there)
    h

pub has : (names : List (List ℕ)) (key : List ℕ) → Contains names key ⊎ (Contains names key → ⊥)
has [] key = inr (contains_none key)
has (name ∷ names) key = at (has names key) (bytes_eq key name) refl
  where
    at : Contains names key ⊎ (Contains names key → ⊥) → (b : Bool) → bytes_eq key name ≡ b → Contains (name ∷ names) key ⊎ (Contains (name ∷ names) key → ⊥)
    at rest true e = inl (subst (Contains (name ∷ names)) (sym (same_key key name e)) (contains_here name names))
    at (inl there) false e = inl (contains_cons name names key there)
    at (inr none) false e = inr (λ there. ⊎_elim (other_key key name e) none (contains_cases name names key there))

module _ {X : Type 0} (key : X → List ℕ) where
  -- these elements and one more, by rising key
  pub record With (x : X) (xs : List X) : Type 0 where
    pub list : List X
    pub rising : Rise (map key list)
    pub holds : (z : X) → Contains list z ↔ ((z ≡ x) ⊎ Contains xs z)

  pub rise_cons : (x : X) (xs : List X) → ((z : X) → Contains xs z → cmp (key x) (key z) ≡ Less) → Rise (map key xs) → Rise (map key (x ∷ xs))
  unfolding IsStrictlySortedBy
  rise_cons x xs each up = (
    recursion_from_All (λ q. cmp (key x) q ≡ Less) (map key xs)
        (All-map (λ q. cmp (key x) q ≡ Less) key xs (All-from_contains (λ z. cmp (key x) (key z) ≡ Less) xs each)),
    up,
  )

  abbrev pub in_front : (x : X) (xs : List X) → Rise (map key xs) → ((z : X) → Contains xs z → cmp (key x) (key z) ≡ Less) → With x xs
  in_front x xs up each = record { list = x ∷ xs; rising = rise_cons x xs each up; holds = λ z. (contains_cases x xs z, contains_from x xs z) }

  -- behind y
  abbrev pub behind : (x y : X) (ys : List X) → Rise (map key (y ∷ ys)) → cmp (key y) (key x) ≡ Less → With x ys → With x (y ∷ ys)
  behind x y ys up low rest = record {
    list = y ∷ rest.list;
    rising = rise_cons y rest.list
        (λ z there. ⊎_elim
        (λ (same : z ≡ x). subst (λ (w : X). cmp (key y) (key w) ≡ Less) (sym same) low)
        (λ (h : Contains ys z). above key y ys up z h)
        ((rest.holds z).0 there))
        rest.rising;
    holds = λ z. (
      λ there. ⊎_elim
          (λ (same : z ≡ y). inr (contains_from y ys z (inl same)))
          (λ (h : Contains rest.list z). ⊎_elim (λ (same : z ≡ x). inl same) (λ (in_ys : Contains ys z). inr (contains_cons y ys z in_ys)) ((rest.holds z).0 h))
          (contains_cases y rest.list z there),
      λ h. ⊎_elim
          (λ (same : z ≡ x). contains_cons y rest.list z ((rest.holds z).1 (inl same)))
          (λ (there : Contains (y ∷ ys) z). ⊎_elim
          (λ (same : z ≡ y). contains_from y rest.list z (inl same))
          (λ (in_ys : Contains ys z). contains_cons y rest.list z ((rest.holds z).1 (inr in_ys)))
          (contains_cases y ys z there))
          h,
    );
  }

  insert : (x : X) (xs : List X) → Rise (map key xs) → (Contains (map key xs) (key x) → ⊥) → With x xs
  insert x [] up new = in_front x [] up (λ z there. absurd (contains_none z there))
  insert x (y ∷ ys) up new = place
      (insert x ys (sorted_tail cmp (key y) (map key ys) up) (λ there. new (contains_cons (key y) (map key ys) (key x) there)))
      (cmp (key x) (key y)) refl
    where
      place : With x ys → (o : Ordering) → cmp (key x) (key y) ≡ o → With x (y ∷ ys)
      place rest Less e = in_front x (y ∷ ys) up (λ z there. ⊎_elim
          (λ (same : z ≡ y). subst (λ (w : X). cmp (key x) (key w) ≡ Less) (sym same) e)
          (λ (h : Contains ys z). nat_list_cmp_total.trans (key x) (key y) (key z) e (above key y ys up z h))
          (contains_cases y ys z there))
      place rest Equal e = absurd (new (contains_from (key y) (map key ys) (key x) (inl (same_from_Equal (key x) (key y) e))))
      place rest Greater e = behind x y ys up (flipped (key y) (key x) ∙ ap ordering_reverse e) rest

-- these keys and one more, by rising key
record WithKey (name : List ℕ) (names : List (List ℕ)) : Type 0 where
  list : List (List ℕ)
  rising : Rise list
  holds : (key : List ℕ) → Contains list key ↔ ((key ≡ name) ⊎ Contains names key)

with_key : (name : List ℕ) (names : List (List ℕ)) → Rise names → WithKey name names
with_key name names up = at (has names name)
  where
    at : Contains names name ⊎ (Contains names name → ⊥) → WithKey name names
    at (inl there) = record {
      list = names;
      rising = up;
      holds = λ key. (
        λ h. inr h,
        λ h. ⊎_elim (λ (same : key ≡ name). subst (Contains names) (sym same) there) (λ (known : Contains names key). known) h,
      );
    }
    at (inr none) =
        let all = insert (λ (k : List ℕ). k) name names (subst Rise (sym (map-id names)) up) (λ there. none (subst (λ (l : List (List ℕ)). Contains l name) (map-id names) there)) in
        record { list = all.list; rising = subst Rise (map-id all.list) all.rising; holds = all.holds }

pub in_order : (all : List (List ℕ)) → (names : List (List ℕ)) × AreKeysInOrder names all
in_order [] = ([], record { rising = none_rise; same = λ key. (λ there. there, λ there. there) })
in_order (name ∷ all) = more (in_order all).0 (in_order all).1
  where
    more : (names : List (List ℕ)) → AreKeysInOrder names all → (names : List (List ℕ)) × AreKeysInOrder names (name ∷ all)
    more names are =
        let one = with_key name names are.rising in (
          one.list,
          record {
            rising = one.rising;
            same = λ key. (
              λ there. contains_from name all key (⊎_elim (λ (same : key ≡ name). inl same) (λ (h : Contains names key). inr ((are.same key).0 h)) ((one.holds key).0 there)),
              λ there. (one.holds key).1 (⊎_elim (λ (same : key ≡ name). inl same) (λ (h : Contains all key). inr ((are.same key).1 h)) (contains_cases name all key there)),
            );
          },
        )

module _ {V : Type 0} where
  pub repeated_keys : (pairs : List (List ℕ × V)) → (names : List (List ℕ)) × AreRepeated names pairs
  repeated_keys [] = ([], record { rising = none_rise; twice = λ key. (λ there. absurd (contains_none key there), λ is. twice_is_in key [] is) })
  repeated_keys (p ∷ pairs) = more (repeated_keys pairs).0 (repeated_keys pairs).1 (has (keys pairs) p.0)
    where
      more : (names : List (List ℕ)) → AreRepeated names pairs → Contains (keys pairs) p.0 ⊎ (Contains (keys pairs) p.0 → ⊥) →
          (names : List (List ℕ)) × AreRepeated names (p ∷ pairs)
      more names are (inl known) =
          let one = with_key p.0 names are.rising in (
            one.list,
            record {
              rising = one.rising;
              twice = λ key. (
                λ there. ⊎_elim
                    (λ (same : key ≡ p.0). subst (λ (k : List ℕ). StandsTwice k (p ∷ pairs)) (sym same) (twice_here p pairs known))
                    (λ (h : Contains names key). twice_cons p key pairs ((are.twice key).0 h))
                    ((one.holds key).0 there),
                λ is. (one.holds key).1 (⊎_elim
                    (λ (h : StandsTwice key pairs). inr ((are.twice key).1 h))
                    (λ h. inl h.0)
                    (twice_cases p key pairs is)),
              );
            },
          )
      more names are (inr new) = (
        names,
        record {
          rising = are.rising;
          twice = λ key. (
            λ there. twice_cons p key pairs ((are.twice key).0 there),
            λ is. ⊎_elim
                (λ (h : StandsTwice key pairs). (are.twice key).1 h)
                (λ h. absurd (new (subst (Contains (keys pairs)) h.0 h.1)))
                (twice_cases p key pairs is),
          );
        },
      )
