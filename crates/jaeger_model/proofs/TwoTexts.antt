-- Two texts of one message, in two wire formats, whose items correspond one by one but for free ones: the offences that count in them
-- have one number.
use Rattle.std.proofs.Common.{◌≡◌, ℕ, zero, suc, ◌<◌, ◌≤◌, ◌⊎◌, inl, inr, List, [], ◌∷◌, ◌++◌, refl, subst, arith}
use Rattle.std.specs.Prelude.{◌↔◌}
use Rattle.std.proofs.lemmas.List.{append-nil}
use Rattle.std.proofs.lemmas.Bool.{cases_lt}
use Rattle.span_io.proofs.FreeItemLaws.{SameOffence}
use Rattle.span_io.specs.Offences.{FormatLaws, RulesLaws}
use Rattle.span_io.proofs.OffenceLaws.{Walked, Stands, not_read, in_next, ends_here, behind_next, ends_behind, stands, walked_start, walked_step, least_item, one_cause}
use Rattle.span_io.specs.Offences.{Format, Rules, Offence, at_end, Least, ItemOffends}
use Rattle.span_io.specs.Tables.{Whole}

-- ---- what can't be otherwise

abbrev pub Surely : Type 0 → Type 0
Surely A = (A → ⊥) → ⊥

-- numbers are the same or they aren't
pub surely_same : (n m : ℕ) → Surely (n ≡ m) → n ≡ m
surely_same n m sure = of (cases_lt n m) (cases_lt m n)
  where
    of : (n < m) ⊎ (m ≤ n) → (m < n) ⊎ (n ≤ m) → n ≡ m
    of (inl less) other = absurd (sure (λ e. omega (arith, less, e)))
    of (inr a) (inl less) = absurd (sure (λ e. omega (arith, less, e)))
    of (inr a) (inr b) = omega (arith, a, b)

not_less : (n m : ℕ) → (n < m → ⊥) → (n < m) ⊎ (m ≤ n) → m ≤ n
not_less n m never (inl less) = absurd (never less)
not_less n m never (inr k) = k

-- where numbers offend one of them is the least
module _ (Offends : ℕ → Type 0) where
  abbrev pub NoneOrFirst : Type 0
  NoneOrFirst = ((n : ℕ) → Offends n → ⊥) ⊎ ((n : ℕ) × Offends n × ((m : ℕ) → Offends m → n ≤ m))

  none_below : (NoneOrFirst → ⊥) → (n m : ℕ) → m < n → Offends m → ⊥
  none_below not zero m less offends = absurd (omega (arith, less))
  none_below not (suc n) m less offends = not (inr (m, offends, λ k o. not_less k m (λ lower. none_below not n k (omega (arith, less, lower)) o) (cases_lt k m)))

  pub none_or_first : Surely NoneOrFirst
  none_or_first not = not (inl (λ n offends. none_below not (suc n) n (omega arith) offends))

-- ---- the end of a message none of whose items offends

module _ (F : Format) (L : FormatLaws F) (K : Rules F.Item) (text : F.Rest) (n : ℕ) (least : Least (Offence F K text) n) (seen : List F.Item) (rest : F.Rest) (walked : Walked F K text seen rest) (is_end : F.IsEnd rest) where
  ended_there : K.ends seen n × (least.place ≡ F.size text)
  ended_there = of (stands F L K text seen rest least.place n walked least.offence)
    where
      of : Stands F K text seen rest least.place n → K.ends seen n × (least.place ≡ F.size text)
      of (not_read o placed) = absurd (L.unended rest n is_end o)
      of (in_next r after begins q o placed) = absurd (L.ended r rest after is_end begins)
      of (ends_here e o placed) = (o, placed)
      of (behind_next r after begins less) = absurd (L.ended r rest after is_end begins)
      of (ends_behind r after begins more end cut e all o placed) = absurd (L.ended r rest after is_end begins)

  -- what counts is what offends there
  pub end_offends : K.ends seen n
  end_offends = ended_there.0

  pub end_first : (m : ℕ) → K.ends seen m → n ≤ m
  end_first m offends = of (least.least (F.size text) m (at_end (record { seen = seen; rest = rest; cut = walked.cut; is_end = is_end; offends = offends; placed = refl })))
    where
      of : (least.place < F.size text) ⊎ ((least.place ≡ F.size text) × (n ≤ m)) → n ≤ m
      of (inl less) = absurd (omega (arith, less, ended_there.1))
      of (inr first) = first.1

-- ---- items that correspond, but for free ones

pub data Beside {I J : Type 0} (Twins : I → J → Type 0) (FreeHere : I → Type 0) (FreeThere : J → Type 0) : List I → List J → Type 0 where
  no_items : Beside Twins FreeHere FreeThere [] []
  twins_then : (this : I) (twin : J) (items : List I) (others : List J) → Twins this twin → Beside Twins FreeHere FreeThere items others → Beside Twins FreeHere FreeThere (this ∷ items) (twin ∷ others)
  free_here : (free : I) (items : List I) (others : List J) → FreeHere free → Beside Twins FreeHere FreeThere items others → Beside Twins FreeHere FreeThere (free ∷ items) others
  free_there : (free : J) (items : List I) (others : List J) → FreeThere free → Beside Twins FreeHere FreeThere items others → Beside Twins FreeHere FreeThere items (free ∷ others)

module _ {I J : Type 0} (Twins : I → J → Type 0) (FreeHere : I → Type 0) (FreeThere : J → Type 0) where
  -- with more behind them
  beside_more : (items more : List I) (others rest : List J) → Beside Twins FreeHere FreeThere items others → Beside Twins FreeHere FreeThere more rest → Beside Twins FreeHere FreeThere (items ++ more) (others ++ rest)
  beside_more _ more _ rest no_items behind = behind
  beside_more _ more _ rest (twins_then this twin items others is each) behind = twins_then this twin (items ++ more) (others ++ rest) is (beside_more items more others rest each behind)
  beside_more _ more _ rest (free_here free items others is each) behind = free_here free (items ++ more) (others ++ rest) is (beside_more items more others rest each behind)
  beside_more _ more _ rest (free_there free items others is each) behind = free_there free (items ++ more) (others ++ rest) is (beside_more items more others rest each behind)

-- ---- item by item, in both

module _ (F G : Format) (L : FormatLaws F) (M : FormatLaws G) (K : Rules F.Item) (J : Rules G.Item) (O : RulesLaws F K) (N : RulesLaws G J) (Twins : F.Item → G.Item → Type 0) (FreeHere : F.Item → Type 0) (FreeThere : G.Item → Type 0)
    (fine_here : (seen : List F.Item) (free : F.Item) → FreeHere free → (p k : ℕ) → ItemOffends F.Item K seen free p k → ⊥)
    (fine_there : (past : List G.Item) (free : G.Item) → FreeThere free → (p k : ℕ) → ItemOffends G.Item J past free p k → ⊥)
    (of_items : (seen : List F.Item) (past : List G.Item) → Beside Twins FreeHere FreeThere seen past → (this : F.Item) (twin : G.Item) → Twins this twin
    → Surely (SameOffence (λ p k. ItemOffends F.Item K seen this p k) (λ p k. ItemOffends G.Item J past twin p k)))
    (of_ends : (seen : List F.Item) (past : List G.Item) → Beside Twins FreeHere FreeThere seen past → (k : ℕ) → K.ends seen k ↔ J.ends past k)
    (text : F.Rest) (other : G.Rest) (n m : ℕ) (least : Least (Offence F K text) n) (least_other : Least (Offence G J other) m) where
  abbrev Both : List F.Item → List G.Item → Type 0
  Both items others = Beside Twins FreeHere FreeThere items others

  at_ends : (rest : F.Rest) (there : G.Rest) (seen : List F.Item) (past : List G.Item) → Walked F K text seen rest → Walked G J other past there → Both seen past → F.IsEnd rest → G.IsEnd there → n ≡ m
  at_ends rest there seen past walked along before is_end over =
      let low = end_first F L K text n least seen rest walked is_end m ((of_ends seen past before m).1 (end_offends G M J other m least_other past there along over)) in
      let high = end_first G M J other m least_other past there along over n ((of_ends seen past before n).0 (end_offends F L K text n least seen rest walked is_end)) in
      omega (arith, low, high)

  walk : (items : List F.Item) (others : List G.Item) → Both items others → (rest : F.Rest) (there : G.Rest) (seen : List F.Item) (past : List G.Item) → Walked F K text seen rest → Walked G J other past there → Both seen past
      → Whole F items rest → Whole G others there → Surely (n ≡ m)
  unfolding Whole
  walk _ _ no_items rest there seen past walked along before whole over not = not (at_ends rest there seen past walked along before whole over)
  walk _ _ (free_here free items others is each) rest there seen past walked along before whole over not =
      walk items others each whole.0 there (seen ++ free ∷ []) past (walked_step F L K text rest whole.0 seen free walked whole.1 (fine_here seen free is)) along
      (subst (λ (l : List G.Item). Both (seen ++ free ∷ []) l) (append-nil past) (beside_more Twins FreeHere FreeThere seen (free ∷ []) past [] before (free_here free [] [] is no_items))) whole.2 over not
  walk _ _ (free_there free items others is each) rest there seen past walked along before whole over not =
      walk items others each rest over.0 seen (past ++ free ∷ []) walked (walked_step G M J other there over.0 past free along over.1 (fine_there past free is))
      (subst (λ (l : List F.Item). Both l (past ++ free ∷ [])) (append-nil seen) (beside_more Twins FreeHere FreeThere seen [] past (free ∷ []) before (free_there free [] [] is no_items))) whole over.2 not
  walk _ _ (twins_then this twin items others is each) rest there seen past walked along before whole over not =
      of_items seen past before this twin is
      (λ same. of same (λ a b. walk items others each whole.0 over.0 (seen ++ this ∷ []) (past ++ twin ∷ []) a b
      (beside_more Twins FreeHere FreeThere seen (this ∷ []) past (twin ∷ []) before (twins_then this twin [] [] is no_items)) whole.2 over.2 not))
    where
      of : SameOffence (λ p k. ItemOffends F.Item K seen this p k) (λ p k. ItemOffends G.Item J past twin p k) → (Walked F K text (seen ++ this ∷ []) whole.0 → Walked G J other (past ++ twin ∷ []) over.0 → ⊥) → ⊥
      of (inl none) on = on (walked_step F L K text rest whole.0 seen this walked whole.1 none.0) (walked_step G M J other there over.0 past twin along over.1 none.1)
      of (inr (k, first, same)) on =
          let here = one_cause (Offence F K text) n k least (least_item F L K O text seen rest whole.0 this walked whole.1 k first) in
          let beside = one_cause (Offence G J other) m k least_other (least_item G M J N other past there over.0 twin along over.1 k same) in
          not (omega (arith, here, beside))

  pub one_number : (items : List F.Item) (others : List G.Item) → Both items others → Whole F items text → Whole G others other → n ≡ m
  one_number items others both whole over = surely_same n m (λ not. walk items others both text other [] [] (walked_start F L K text) (walked_start G M J other) no_items whole over not)
