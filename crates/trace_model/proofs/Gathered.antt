-- What the pairs of a list make that stands by falling key.
use Rattle.std.proofs.Common.{◌≡◌, ℕ, ◌<◌, ◌≤◌, Bool, true, false, List, [], ◌∷◌, ◌++◌, length, All, get_or, cond, refl, sym, ap, ◌∙◌, subst, ⊎_elim, arith, length-append, suc}
use Rattle.std.specs.Prelude.{◌≢◌, ◌↔◌, Contains, filter, IsSortedBy}
use Rattle.std.specs.Ordering.{nat_cmp, is_lt}
use Rattle.std.specs.declared.cmp.Ordering.TheVariants.{Less}
use Rattle.std.specs.Cmp.Lexicographic.{slice_cmp}
use Rattle.std.specs.List.Sorted.{IsStableBy, IsStrictlySortedBy, ties}
use Rattle.std.specs.Cmp.{IsStrictWeakOrder}
use Rattle.std.specs.Str.{bytes_eq}
use Rattle.std.proofs.lemmas.Cmp.{nat_list_cmp_total}
use Rattle.std.proofs.lemmas.List.{map-append}
use Rattle.std.proofs.lemmas.List.Elements.{All-head, All-tail, All-contains, All-map, Contains-append_left, Contains-push, Contains-push_cases, filter-append, filter_agree}
use Rattle.std.proofs.lemmas.List.Sorted.{IsStrictWeakOrder-flip, ranks_by, sorted_far}
use Rattle.trace_model.specs.Attributes.{Rise, keys, IsLast, StandsTwice, AreAttributes, AreRepeated}
use Rattle.trace_model.specs.private.Gathering.{ends_with, key_above, kept_with, repeated_with}
use Rattle.trace_model.proofs.Order.{apart_keys, same_key, key_itself, other_key, never_below_itself, ties_is, AllUpTo, AllBelow, all_below, Rise-push}
use Rattle.trace_model.proofs.Places.{contains_here, contains_cons, contains_cases, contains_none, All-from_contains, absent, not_in, last_cons, last_here, last_cases, last_is_in, twice_cons, twice_here, twice_cases, twice_is_in}

-- the last name is among them
ends_is_in : (names : List (List ℕ)) (key : List ℕ) → ends_with names key ≡ true → Contains names key
ends_is_in [] key e = cc
ends_is_in (name ∷ []) key e = subst (Contains (name ∷ [])) (same_key name key e) (contains_here name [])
ends_is_in (name ∷ next ∷ names) key e = contains_cons name (next ∷ names) key (ends_is_in (next ∷ names) key e)

module _ {V : Type 0} where
  abbrev pub kept_of : List (List ℕ × V) → List (List ℕ × V)
  kept_of [] = []
  kept_of (p ∷ pairs) = kept_with (kept_of pairs) p

  abbrev pub repeated_of : List (List ℕ × V) → List (List ℕ)
  repeated_of [] = []
  repeated_of (p ∷ pairs) = repeated_with (kept_of pairs) (repeated_of pairs) p

  -- no key is higher than the one before it
  abbrev Falls : List (List ℕ × V) → Type 0
  Falls [] = Unit {0}
  Falls (p ∷ pairs) = AllUpTo p.0 (keys pairs) × Falls pairs

  record Gathered (pairs kept : List (List ℕ × V)) (repeated : List (List ℕ)) : Type 0 where
    rising : Rise (keys kept)
    last : (pair : List ℕ × V) → Contains kept pair ↔ IsLast pair pairs
    same : (key : List ℕ) → Contains (keys kept) key ↔ Contains (keys pairs) key
    rising_too : Rise repeated
    twice : (key : List ℕ) → Contains repeated key ↔ StandsTwice key pairs

  none_gathered : Gathered [] [] []
  unfolding IsStrictlySortedBy
  none_gathered = record {
    rising = tt;
    last = λ pair. (λ there. absurd (contains_none pair there), λ is. last_is_in pair [] is);
    same = λ key. (λ there. there, λ there. there);
    rising_too = tt;
    twice = λ key. (λ there. absurd (contains_none key there), λ is. twice_is_in key [] is);
  }

  -- one more key that is known already: the last pairs stay, and it stands twice
  module _ (p : List ℕ × V) (pairs kept : List (List ℕ × V)) (repeated : List (List ℕ)) (so : Gathered pairs kept repeated) (known : Contains (keys pairs) p.0) where
    last_stays : (pair : List ℕ × V) → Contains kept pair ↔ IsLast pair (p ∷ pairs)
    last_stays pair = (
      λ there. last_cons p pair pairs ((so.last pair).0 there),
      λ is. ⊎_elim
          (λ (h : IsLast pair pairs). (so.last pair).1 h)
          (λ h. absurd (not_in pairs p.0 h.1 known))
          (last_cases p pair pairs is),
    )

    same_stays : (key : List ℕ) → Contains (keys kept) key ↔ Contains (p.0 ∷ keys pairs) key
    same_stays key = (
      λ there. contains_cons p.0 (keys pairs) key ((so.same key).0 there),
      λ there. (so.same key).1 (⊎_elim
          (λ (e : key ≡ p.0). subst (Contains (keys pairs)) (sym e) known)
          (λ (h : Contains (keys pairs) key). h)
          (contains_cases p.0 (keys pairs) key there)),
    )

    again : (c : Bool) → ends_with repeated p.0 ≡ c → AllUpTo p.0 (keys pairs) → Gathered (p ∷ pairs) kept (cond c repeated (repeated ++ p.0 ∷ []))
    again true ec most = record {
      rising = so.rising;
      last = last_stays;
      same = same_stays;
      rising_too = so.rising_too;
      twice = λ key. (
        λ there. twice_cons p key pairs ((so.twice key).0 there),
        λ is. ⊎_elim
            (λ (h : StandsTwice key pairs). (so.twice key).1 h)
            (λ h. subst (Contains repeated) (sym h.0) (ends_is_in repeated p.0 ec))
            (twice_cases p key pairs is),
      );
    }
    again false ec most =
        let repeated_most : AllUpTo p.0 repeated = All-from_contains (λ x. is_lt (slice_cmp nat_cmp p.0 x) ≡ false) repeated
        (λ x there. All-contains (λ x. is_lt (slice_cmp nat_cmp p.0 x) ≡ false) (keys pairs) x most (twice_is_in x pairs ((so.twice x).0 there))) in
        record {
          rising = so.rising;
          last = last_stays;
          same = same_stays;
          rising_too = Rise-push repeated p.0 so.rising_too (all_below repeated p.0 so.rising_too repeated_most ec);
          twice = λ key. (
            λ there. ⊎_elim
                (λ (h : Contains repeated key). twice_cons p key pairs ((so.twice key).0 h))
                (λ (e : p.0 ≡ key). subst (λ k. StandsTwice k (p ∷ pairs)) e (twice_here p pairs known))
                (Contains-push_cases repeated p.0 key there),
            λ is. ⊎_elim
                (λ (h : StandsTwice key pairs). Contains-append_left repeated (p.0 ∷ []) key ((so.twice key).1 h))
                (λ h. subst (Contains (repeated ++ p.0 ∷ [])) (sym h.0) (Contains-push repeated p.0))
                (twice_cases p key pairs is),
          );
        }

  step : (p : List ℕ × V) (pairs kept : List (List ℕ × V)) (repeated : List (List ℕ)) (b c : Bool) →
      ends_with (keys kept) p.0 ≡ b → ends_with repeated p.0 ≡ c → AllUpTo p.0 (keys pairs) → Gathered pairs kept repeated →
      Gathered (p ∷ pairs) (cond b kept (kept ++ p ∷ [])) (cond b (cond c repeated (repeated ++ p.0 ∷ [])) repeated)
  step p pairs kept repeated false c eb ec most so =
      let kept_most : AllUpTo p.0 (keys kept) = All-from_contains (λ x. is_lt (slice_cmp nat_cmp p.0 x) ≡ false) (keys kept)
      (λ x there. All-contains (λ x. is_lt (slice_cmp nat_cmp p.0 x) ≡ false) (keys pairs) x most ((so.same x).0 there)) in
      let lower : AllBelow p.0 (keys kept) = all_below (keys kept) p.0 so.rising kept_most eb in
      let new_key : Contains (keys pairs) p.0 → ⊥ = λ there. never_below_itself p.0
      (All-contains (λ x. slice_cmp nat_cmp x p.0 ≡ Less) (keys kept) p.0 lower ((so.same p.0).1 there)) in
      let more : keys (kept ++ p ∷ []) ≡ keys kept ++ p.0 ∷ [] = map-append (λ (pair : List ℕ × V). pair.0) kept (p ∷ []) in
      record {
        rising = subst Rise (sym more) (Rise-push (keys kept) p.0 so.rising lower);
        last = λ pair. (
          λ there. ⊎_elim
              (λ (h : Contains kept pair). last_cons p pair pairs ((so.last pair).0 h))
              (λ (e : p ≡ pair). subst (λ (q : List ℕ × V). IsLast q (p ∷ pairs)) e (last_here p pairs (absent pairs p.0 new_key)))
              (Contains-push_cases kept p pair there),
          λ is. ⊎_elim
              (λ (h : IsLast pair pairs). Contains-append_left kept (p ∷ []) pair ((so.last pair).1 h))
              (λ h. subst (λ (q : List ℕ × V). Contains (kept ++ p ∷ []) q) (sym h.0) (Contains-push kept p))
              (last_cases p pair pairs is),
        );
        same = λ key. (
          λ there. ⊎_elim
              (λ (h : Contains (keys kept) key). contains_cons p.0 (keys pairs) key ((so.same key).0 h))
              (λ (e : p.0 ≡ key). subst (Contains (p.0 ∷ keys pairs)) e (contains_here p.0 (keys pairs)))
              (Contains-push_cases (keys kept) p.0 key (subst (λ l. Contains l key) more there)),
          λ there. subst (λ l. Contains l key) (sym more) (⊎_elim
              (λ (e : key ≡ p.0). subst (Contains (keys kept ++ p.0 ∷ [])) (sym e) (Contains-push (keys kept) p.0))
              (λ (h : Contains (keys pairs) key). Contains-append_left (keys kept) (p.0 ∷ []) key ((so.same key).1 h))
              (contains_cases p.0 (keys pairs) key there)),
        );
        rising_too = so.rising_too;
        twice = λ key. (
          λ there. twice_cons p key pairs ((so.twice key).0 there),
          λ is. ⊎_elim
              (λ (h : StandsTwice key pairs). (so.twice key).1 h)
              (λ h. absurd (new_key (subst (Contains (keys pairs)) h.0 h.1)))
              (twice_cases p key pairs is),
        );
      }
  step p pairs kept repeated true c eb ec most so =
      again p pairs kept repeated so ((so.same p.0).0 (ends_is_in (keys kept) p.0 eb)) c ec most

  gathered : (pairs : List (List ℕ × V)) → Falls pairs → Gathered pairs (kept_of pairs) (repeated_of pairs)
  gathered [] down = none_gathered
  gathered (p ∷ pairs) down =
      step p pairs (kept_of pairs) (repeated_of pairs) (ends_with (keys (kept_of pairs)) p.0) (ends_with (repeated_of pairs) p.0) refl refl down.0 (gathered pairs down.1)

  falls_from : (pairs : List (List ℕ × V)) → ((i j : ℕ) (d : List ℕ × V) → i ≤ j → j < length pairs → key_above (get_or pairs j d) (get_or pairs i d) ≡ false) → Falls pairs
  falls_from [] down = tt
  falls_from (p ∷ pairs) down = (
    All-map (λ x. is_lt (slice_cmp nat_cmp p.0 x) ≡ false) (λ (pair : List ℕ × V). pair.0) pairs (λ k d lt. down 0 (suc k) d (omega arith) (omega arith)),
    falls_from pairs (λ i j d le lt. down (suc i) (suc j) d (omega arith) (omega arith)),
  )

  pub falling_order : IsStrictWeakOrder (key_above {V = V})
  falling_order = IsStrictWeakOrder-flip (λ x y. is_lt (slice_cmp nat_cmp x.0 y.0)) (ranks_by nat_list_cmp_total (λ (pair : List ℕ × V). pair.0))

  falls_sorted : (pairs : List (List ℕ × V)) → IsSortedBy key_above pairs → Falls pairs
  falls_sorted pairs up = falls_from pairs (sorted_far key_above falling_order pairs up)

  -- the pairs of a key, in their order
  abbrev of_key : List ℕ → List (List ℕ × V) → List (List ℕ × V)
  of_key key pairs = filter (λ pair. bytes_eq key pair.0) pairs

  same_of_key : (list pairs : List (List ℕ × V)) → IsStableBy key_above list pairs → (x : List ℕ × V) → of_key x.0 pairs ≡ of_key x.0 list
  same_of_key list pairs stable x =
      sym (filter_agree (ties key_above x) (λ pair. bytes_eq x.0 pair.0) (ties_is x) pairs) ∙ stable x ∙ filter_agree (ties key_above x) (λ pair. bytes_eq x.0 pair.0) (ties_is x) list

  none_of_key : (key : List ℕ) (pairs : List (List ℕ × V)) → All (λ other. other.0 ≢ key) pairs → of_key key pairs ≡ []
  none_of_key key [] none = refl
  none_of_key key (p ∷ pairs) none =
      let apart : bytes_eq key p.0 ≡ false = apart_keys key p.0 (All-head (λ other. other.0 ≢ key) p pairs none) in
      rw apart (none_of_key key pairs (All-tail (λ other. other.0 ≢ key) p pairs none))

  key_apart : (key : List ℕ) (pairs : List (List ℕ × V)) → of_key key pairs ≡ [] → Contains (keys pairs) key → ⊥
  key_apart key [] none there = contains_none key there
  key_apart key (p ∷ pairs) none there = at (λ none h. key_apart key pairs none h) (bytes_eq key p.0) refl none
    where
      at : (of_key key pairs ≡ [] → Contains (keys pairs) key → ⊥) → (b : Bool) → bytes_eq key p.0 ≡ b → cond b (p ∷ of_key key pairs) (of_key key pairs) ≡ [] → ⊥
      at deeper true e none = cc
      at deeper false e none = ⊎_elim
          (λ (same : key ≡ p.0). other_key key p.0 e same)
          (λ (h : Contains (keys pairs) key). deeper none h)
          (contains_cases p.0 (keys pairs) key there)

  -- the last pair of a key is the last of the key's pairs
  record EndsOfKey (pair : List ℕ × V) (pairs : List (List ℕ × V)) : Type 0 where
    front : List (List ℕ × V)
    is : of_key pair.0 pairs ≡ front ++ pair ∷ []

  ends_of_key : (pair : List ℕ × V) (pairs : List (List ℕ × V)) → IsLast pair pairs → EndsOfKey pair pairs
  ends_of_key pair pairs is =
      let whole : of_key pair.0 (is.before ++ pair ∷ is.behind) ≡ of_key pair.0 is.before ++ of_key pair.0 (pair ∷ is.behind) =
      filter-append (λ other. bytes_eq pair.0 other.0) is.before (pair ∷ is.behind) in
      let here : of_key pair.0 (pair ∷ is.behind) ≡ pair ∷ [] =
      rw (key_itself pair.0) (ap (λ l. pair ∷ l) (none_of_key pair.0 is.behind is.last)) in
      record { front = of_key pair.0 is.before; is = ap (of_key pair.0) is.split ∙ whole ∙ ap (λ l. of_key pair.0 is.before ++ l) here }

  last_of_key : (pair : List ℕ × V) (pairs front : List (List ℕ × V)) → of_key pair.0 pairs ≡ front ++ pair ∷ [] → IsLast pair pairs
  last_of_key pair [] front is = absurd (omega (arith, ap length is, length-append front (pair ∷ [])))
  last_of_key pair (p ∷ pairs) front is = at (last_of_key pair pairs) (bytes_eq pair.0 p.0) front is
    where
      at : ((front : List (List ℕ × V)) → of_key pair.0 pairs ≡ front ++ pair ∷ [] → IsLast pair pairs) →
          (b : Bool) (front : List (List ℕ × V)) → cond b (p ∷ of_key pair.0 pairs) (of_key pair.0 pairs) ≡ front ++ pair ∷ [] → IsLast pair (p ∷ pairs)
      at deeper true [] is =
          let same : p ≡ pair = cc in
          let rest : of_key pair.0 pairs ≡ [] = cc in
          subst (λ (q : List ℕ × V). IsLast pair (q ∷ pairs)) (sym same) (last_here pair pairs (absent pairs pair.0 (key_apart pair.0 pairs rest)))
      at deeper true (f ∷ front) is = let rest : of_key pair.0 pairs ≡ front ++ pair ∷ [] = cc in last_cons p pair pairs (deeper front rest)
      at deeper false front is = last_cons p pair pairs (deeper front is)

  last_moves : (list pairs : List (List ℕ × V)) (pair : List ℕ × V) → of_key pair.0 pairs ≡ of_key pair.0 list → IsLast pair pairs → IsLast pair list
  last_moves list pairs pair same is =
      let ends = ends_of_key pair pairs is in
      last_of_key pair list ends.front (sym same ∙ ends.is)

  -- a key stands twice where it has two pairs or more
  two_of_key : (key : List ℕ) (pairs : List (List ℕ × V)) → StandsTwice key pairs → 2 ≤ length (of_key key pairs)
  two_of_key key pairs is =
      let behind : of_key key ((key, is.other) ∷ is.behind) ≡ (key, is.other) ∷ of_key key is.behind = rw (key_itself key) refl in
      let there : of_key key ((key, is.one) ∷ (is.between ++ (key, is.other) ∷ is.behind)) ≡ (key, is.one) ∷ of_key key (is.between ++ (key, is.other) ∷ is.behind) =
      rw (key_itself key) refl in
      let inner : of_key key (is.between ++ (key, is.other) ∷ is.behind) ≡ of_key key is.between ++ of_key key ((key, is.other) ∷ is.behind) =
      filter-append (λ other. bytes_eq key other.0) is.between ((key, is.other) ∷ is.behind) in
      let whole : of_key key (is.before ++ (key, is.one) ∷ (is.between ++ (key, is.other) ∷ is.behind)) ≡
      of_key key is.before ++ of_key key ((key, is.one) ∷ (is.between ++ (key, is.other) ∷ is.behind)) =
      filter-append (λ other. bytes_eq key other.0) is.before ((key, is.one) ∷ (is.between ++ (key, is.other) ∷ is.behind)) in
      omega (
        arith,
        ap (λ l. length (of_key key l)) is.split,
        ap length whole,
        ap length inner,
        ap length there,
        ap length behind,
        length-append (of_key key is.before) (of_key key ((key, is.one) ∷ (is.between ++ (key, is.other) ∷ is.behind))),
        length-append (of_key key is.between) (of_key key ((key, is.other) ∷ is.behind)),
      )

  one_of_key : (key : List ℕ) (pairs : List (List ℕ × V)) → 1 ≤ length (of_key key pairs) → Contains (keys pairs) key
  one_of_key key [] h = absurd (omega arith)
  one_of_key key (p ∷ pairs) h = at (one_of_key key pairs) (bytes_eq key p.0) refl h
    where
      at : (1 ≤ length (of_key key pairs) → Contains (keys pairs) key) →
          (b : Bool) → bytes_eq key p.0 ≡ b → 1 ≤ length (cond b (p ∷ of_key key pairs) (of_key key pairs)) → Contains (p.0 ∷ keys pairs) key
      at deeper true e h = subst (Contains (p.0 ∷ keys pairs)) (sym (same_key key p.0 e)) (contains_here p.0 (keys pairs))
      at deeper false e h = contains_cons p.0 (keys pairs) key (deeper h)

  twice_of_key : (key : List ℕ) (pairs : List (List ℕ × V)) → 2 ≤ length (of_key key pairs) → StandsTwice key pairs
  twice_of_key key [] h = absurd (omega arith)
  twice_of_key key (p ∷ pairs) h = at (twice_of_key key pairs) (bytes_eq key p.0) refl h
    where
      at : (2 ≤ length (of_key key pairs) → StandsTwice key pairs) →
          (b : Bool) → bytes_eq key p.0 ≡ b → 2 ≤ length (cond b (p ∷ of_key key pairs) (of_key key pairs)) → StandsTwice key (p ∷ pairs)
      at deeper true e h =
          let same : key ≡ p.0 = same_key key p.0 e in
          subst (λ k. StandsTwice k (p ∷ pairs)) (sym same) (twice_here p pairs (subst (Contains (keys pairs)) same (one_of_key key pairs (omega arith))))
      at deeper false e h = twice_cons p key pairs (deeper h)

  twice_moves : (list pairs : List (List ℕ × V)) (key : List ℕ) (value : V) → ((x : List ℕ × V) → of_key x.0 pairs ≡ of_key x.0 list) →
      StandsTwice key pairs → StandsTwice key list
  twice_moves list pairs key value same is = twice_of_key key list (subst (λ (l : List (List ℕ × V)). 2 ≤ length l) (same (key, value)) (two_of_key key pairs is))

  module _ (list pairs : List (List ℕ × V)) (sorted : IsSortedBy key_above pairs) (stable : IsStableBy key_above list pairs) where
    known : Gathered pairs (kept_of pairs) (repeated_of pairs)
    known = gathered pairs (falls_sorted pairs sorted)

    pub attributes_from : AreAttributes (kept_of pairs) list
    attributes_from = record {
      rising = known.rising;
      last = λ pair. (
        λ there. last_moves list pairs pair (same_of_key list pairs stable pair) ((known.last pair).0 there),
        λ is. (known.last pair).1 (last_moves pairs list pair (sym (same_of_key list pairs stable pair)) is),
      );
    }

    pub repeated_from : AreRepeated (repeated_of pairs) list
    repeated_from = record {
      rising = known.rising_too;
      twice = λ key. (
        λ there. let is : StandsTwice key pairs = (known.twice key).0 there in twice_moves list pairs key is.one (same_of_key list pairs stable) is,
        λ is. (known.twice key).1 (twice_moves pairs list key is.one (λ x. sym (same_of_key list pairs stable x)) is),
      );
    }
