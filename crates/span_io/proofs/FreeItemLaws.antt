-- What follows for a message to which free items were added: it means the same, or the offence that counts has the same number.
use Rattle.std.proofs.Common.{◌≡◌, ℕ, zero, suc, ◌<◌, ◌⊎◌, inl, inr, List, [], ◌∷◌, ◌++◌, refl, sym, ap, subst, ◌∙◌, arith}
use Rattle.std.specs.Prelude.{◌↔◌}
use Rattle.std.specs.List.{AllZip, flat_map}
use Rattle.std.proofs.lemmas.List.{append-nil}
use Rattle.std.proofs.lemmas.List.Concat.{flat_map-cons}
use Rattle.span_io.specs.Causes.{cause_number}
use Rattle.span_io.specs.Offences.{Format, Offence, Cut, Least, HereOrInside, FormatLaws, RulesLaws}
use Rattle.span_io.proofs.OffenceLaws.{Walked, walked_start, walked_step, least_here, least_inside, none_in_item, least_unread, least_end, none_at_end, least_item}
use Rattle.span_io.specs.Tables.{Row, OfFirst, table_here, table_inside, rules_by, IsFree, givens, Values, Mean, Whole, Next, ended, stopped, begun}
use Rattle.span_io.proofs.RowLaws.{all_zip_append, all_zip_equal, all_zip_self}
use Rattle.span_io.proofs.TableLaws.{cut_whole, flat_more, free_here, free_inside}
use Rattle.span_io.proofs.TableDecisions.{Decided, DecidedHere, RowDecides, TableDecides}
use Rattle.span_io.specs.FreeItems.{Paddings, GivenPadded, ItemPadded, ItemsPadded, no_more, one_free, one_same, TextPadded}

-- nothing offends in either, or the offences that count have the same number
abbrev pub SameOffence : (ℕ → ℕ → Type 0) → (ℕ → ℕ → Type 0) → Type 0
SameOffence Offends Others =
    (((place n : ℕ) → Offends place n → ⊥) × ((place n : ℕ) → Others place n → ⊥)) ⊎ ((n : ℕ) × Least Offends n × Least Others n)

-- What a row keeps, whose things may have free items added inside.
pub record RowPadding {Item : Type 0} (row : Row Item) (Padded : row.Given → row.Given → Type 0) : Type 0 where
  -- nothing need be added
  pub none : (x : row.Given) → Padded x x
  pub here : (earlier others : List row.Given) → AllZip Padded earlier others → (x y : row.Given) → Padded x y → (n : ℕ) → row.here earlier x n ↔ row.here others y n
  pub inside : (x y : row.Given) → Padded x y → SameOffence (λ p n. row.inside x p n) (λ p n. row.inside y p n)
  pub means : (xs ys : List row.Given) → AllZip Padded xs ys → (v : row.Value) → row.Means xs v → row.Means ys v

abbrev pub TablePadding : {Item : Type 0} (table : List (Row Item)) → Paddings table → Type 0
TablePadding [] padded = Unit {0}
TablePadding (row ∷ table) padded = RowPadding row padded.0 × TablePadding table padded.1

-- ---- rows

-- a row in whose things nothing is added
pub equal_padding : {Item : Type 0} (row : Row Item) → RowDecides row → RowPadding row (λ x y. x ≡ y)
equal_padding row decides = record {
  none = λ x. refl;
  here = λ earlier others each x y e n.
      let same = all_zip_equal earlier others each in (
        λ h. subst (λ (l : List row.Given). row.here l y n) same (subst (λ (z : row.Given). row.here earlier z n) e h),
        λ h. subst (λ (z : row.Given). row.here earlier z n) (sym e) (subst (λ (l : List row.Given). row.here l y n) (sym same) h),
      );
  inside = λ x y e. of x y e (decides.inside x);
  means = λ xs ys each v means. subst (λ (l : List row.Given). row.Means l v) (all_zip_equal xs ys each) means;
}
  where
    of : (x y : row.Given) → x ≡ y → Decided (λ p n. row.inside x p n) → SameOffence (λ p n. row.inside x p n) (λ p n. row.inside y p n)
    of x y e (inl none) = inl (none, λ p n h. none p n (subst (λ (z : row.Given). row.inside z p n) (sym e) h))
    of x y e (inr (cause, least)) = inr (cause_number cause, least, subst (λ (z : row.Given). Least (λ p n. row.inside z p n) (cause_number cause)) e least)

-- a message means the same
pub means_padded : {Item : Type 0} (table : List (Row Item)) (padded : Paddings table) → TablePadding table padded → (items others : List Item) → GivenPadded table padded items others
    → (v : Values table) → Mean table (givens table items) v → Mean table (givens table others) v
means_padded [] padded pads items others given v mean = tt
means_padded (row ∷ table) padded pads items others given v mean =
    (pads.0.means (flat_map row.given items) (flat_map row.given others) given.0 v.0 mean.0, means_padded table padded.1 pads.1 items others given.1 v.1 mean.1)

-- ---- what is given by more items

module _ {Item : Type 0} where
  none_given : (table : List (Row Item)) (padded : Paddings table) → GivenPadded table padded [] []
  none_given [] padded = tt
  none_given (row ∷ table) padded = (tt, none_given table padded.1)

  free_before : (table : List (Row Item)) (padded : Paddings table) (free : Item) (items others : List Item) → IsFree table free → GivenPadded table padded items others → GivenPadded table padded items (free ∷ others)
  free_before [] padded free items others is given = tt
  free_before (row ∷ table) padded free items others is given = (
    subst (λ (l : List row.Given). AllZip padded.0 (flat_map row.given items) l) (sym (flat_map-cons row.given free others ∙ ap (λ l. l ++ flat_map row.given others) is.0)) given.0,
    free_before table padded.1 free items others is.1 given.1,
  )

  same_before : (table : List (Row Item)) (padded : Paddings table) (this other : Item) (items others : List Item) → ItemPadded table padded this other → GivenPadded table padded items others → GivenPadded table padded (this ∷ items) (other ∷ others)
  same_before [] padded this other items others is given = tt
  same_before (row ∷ table) padded this other items others is given = (
    subst (λ (l : List row.Given). AllZip padded.0 l (flat_map row.given (other ∷ others))) (sym (flat_map-cons row.given this items))
        (subst (λ (l : List row.Given). AllZip padded.0 (row.given this ++ flat_map row.given items) l) (sym (flat_map-cons row.given other others))
        (all_zip_append padded.0 (row.given this) (flat_map row.given items) (row.given other) (flat_map row.given others) is.0 given.0)),
    same_before table padded.1 this other items others is.1 given.1,
  )

  free_behind : (table : List (Row Item)) (padded : Paddings table) (free : Item) (items others : List Item) → IsFree table free → GivenPadded table padded items others → GivenPadded table padded items (others ++ free ∷ [])
  free_behind [] padded free items others is given = tt
  free_behind (row ∷ table) padded free items others is given = (
    subst (λ (l : List row.Given). AllZip padded.0 (flat_map row.given items) l)
        (sym (flat_more row.given others free ∙ (ap (λ l. flat_map row.given others ++ l) is.0 ∙ append-nil (flat_map row.given others)))) given.0,
    free_behind table padded.1 free items others is.1 given.1,
  )

  same_behind : (table : List (Row Item)) (padded : Paddings table) (this other : Item) (items others : List Item) → ItemPadded table padded this other → GivenPadded table padded items others
      → GivenPadded table padded (items ++ this ∷ []) (others ++ other ∷ [])
  same_behind [] padded this other items others is given = tt
  same_behind (row ∷ table) padded this other items others is given = (
    subst (λ (l : List row.Given). AllZip padded.0 l (flat_map row.given (others ++ other ∷ []))) (sym (flat_more row.given items this))
        (subst (λ (l : List row.Given). AllZip padded.0 (flat_map row.given items ++ row.given this) l) (sym (flat_more row.given others other))
        (all_zip_append padded.0 (flat_map row.given items) (row.given this) (flat_map row.given others) (row.given other) given.0 is.0)),
    same_behind table padded.1 this other items others is.1 given.1,
  )

  pub items_given : (table : List (Row Item)) (padded : Paddings table) (items others : List Item) → ItemsPadded table padded items others → GivenPadded table padded items others
  items_given table padded _ _ no_more = none_given table padded
  items_given table padded _ _ (one_free free items others is more) = free_before table padded free items others is (items_given table padded items others more)
  items_given table padded _ _ (one_same this other items others is more) = same_before table padded this other items others is (items_given table padded items others more)

  -- ---- what offends in one item

  row_pair : (row : Row Item) (Padded : row.Given → row.Given → Type 0) → RowDecides row → RowPadding row Padded → (earlier others : List row.Given) → AllZip Padded earlier others
      → (x y : row.Given) → Padded x y → SameOffence (HereOrInside (λ n. row.here earlier x n) (λ p n. row.inside x p n)) (HereOrInside (λ n. row.here others y n) (λ p n. row.inside y p n))
  row_pair row Padded decides pads earlier others each x y is = at_here (decides.here earlier x)
    where
      at_inside : ((n : ℕ) → row.here earlier x n → ⊥) → SameOffence (λ p n. row.inside x p n) (λ p n. row.inside y p n)
          → SameOffence (HereOrInside (λ n. row.here earlier x n) (λ p n. row.inside x p n)) (HereOrInside (λ n. row.here others y n) (λ p n. row.inside y p n))
      at_inside fine (inl none) =
          inl (
            none_in_item (λ n. row.here earlier x n) (λ p n. row.inside x p n) fine none.0,
            none_in_item (λ n. row.here others y n) (λ p n. row.inside y p n) (λ n h. fine n ((pads.here earlier others each x y is n).1 h)) none.1,
          )
      at_inside fine (inr (n, least, same)) =
          inr (
            n,
            least_inside (λ m. row.here earlier x m) (λ p m. row.inside x p m) n fine least,
            least_inside (λ m. row.here others y m) (λ p m. row.inside y p m) n (λ m h. fine m ((pads.here earlier others each x y is m).1 h)) same,
          )

      at_here : DecidedHere (λ n. row.here earlier x n)
          → SameOffence (HereOrInside (λ n. row.here earlier x n) (λ p n. row.inside x p n)) (HereOrInside (λ n. row.here others y n) (λ p n. row.inside y p n))
      at_here (inl none) = at_inside none (pads.inside x y is)
      at_here (inr (cause, offends, first)) =
          inr (
            cause_number cause,
            least_here (λ n. row.here earlier x n) (λ p n. row.inside x p n) (cause_number cause) offends first,
            least_here (λ n. row.here others y n) (λ p n. row.inside y p n) (cause_number cause) ((pads.here earlier others each x y is (cause_number cause)).0 offends)
                (λ m h. first m ((pads.here earlier others each x y is m).1 h)),
          )

  item_pair : (table : List (Row Item)) (padded : Paddings table) → TableDecides table → TablePadding table padded → (seen past : List Item) → GivenPadded table padded seen past
      → (this other : Item) → ItemPadded table padded this other
      → SameOffence (HereOrInside (λ n. table_here table seen this n) (λ p n. table_inside table this p n)) (HereOrInside (λ n. table_here table past other n) (λ p n. table_inside table other p n))
  item_pair [] padded decides pads seen past given this other is = inl (none_in_item (λ n. ⊥) (λ p n. ⊥) (λ n h. h) (λ p n h. h), none_in_item (λ n. ⊥) (λ p n. ⊥) (λ n h. h) (λ p n h. h))
  item_pair (row ∷ table) padded decides pads seen past given this other is =
      of (row.given this) (row.given other) is.0 (item_pair table padded.1 decides.1 pads.1 seen past given.1 this other is.1)
    where
      of : (xs ys : List row.Given) → AllZip padded.0 xs ys
          → SameOffence (HereOrInside (λ n. table_here table seen this n) (λ p n. table_inside table this p n)) (HereOrInside (λ n. table_here table past other n) (λ p n. table_inside table other p n))
          → SameOffence (HereOrInside (λ n. OfFirst xs (λ x. row.here (flat_map row.given seen) x n) (table_here table seen this n)) (λ p n. OfFirst xs (λ x. row.inside x p n) (table_inside table this p n)))
          (HereOrInside (λ n. OfFirst ys (λ y. row.here (flat_map row.given past) y n) (table_here table past other n)) (λ p n. OfFirst ys (λ y. row.inside y p n) (table_inside table other p n)))
      of [] [] each rest = rest
      of [] (y ∷ ys) each rest = absurd each
      of (x ∷ xs) [] each rest = absurd each
      of (x ∷ xs) (y ∷ ys) each rest = row_pair row padded.0 decides.0 pads.0 (flat_map row.given seen) (flat_map row.given past) given.0 x y each.0

-- ---- a message

module _ (F : Format) (L : FormatLaws F) where
  whole_cut : (text rest : F.Rest) (items seen : List F.Item) → Whole F items text → Cut F text seen rest → F.IsEnd rest ⊎ ((n : ℕ) × F.Unread rest n) → (items ≡ seen) × F.IsEnd rest
  unfolding Whole Cut
  whole_cut text rest [] [] whole cut stops = (refl, subst (λ (x : F.Rest). F.IsEnd x) cut whole)
  whole_cut text rest (s ∷ items) [] whole cut (inl is_end) = absurd (L.ended s text whole.0 (subst (λ (x : F.Rest). F.IsEnd x) (sym cut) is_end) whole.1)
  whole_cut text rest (s ∷ items) [] whole cut (inr (n, unread)) = absurd (L.stuck s text whole.0 n (subst (λ (x : F.Rest). F.Unread x n) (sym cut) unread) whole.1)
  whole_cut text rest [] (q ∷ seen) whole cut stops = absurd (L.ended q text cut.0 whole cut.1)
  whole_cut text rest (s ∷ items) (q ∷ seen) whole cut stops =
      let one = L.only s q text whole.0 cut.0 whole.1 cut.1 in
      let more = whole_cut cut.0 rest items seen (subst (λ (x : F.Rest). Whole F items x) one.1 whole.2) cut.2 stops in
      let first = one.0 in
      let others = more.0 in
      (λ i. first i ∷ others i, more.1)

  module _ (table : List (Row F.Item)) (padded : Paddings table) where
    -- a message that is whole stays so
    pub padded_whole : (text other : F.Rest) (t : TextPadded F table padded text other) (items : List F.Item) → Whole F items text → (items ≡ t.items) × Whole F t.others other
    padded_whole text other t items whole =
        let both = whole_cut text t.rest items t.items whole t.cut t.stops in
        (both.0, cut_whole F other t.rest t.others t.cut_other both.1)

    module _ (decides : TableDecides table) (pads : TablePadding table padded) (ends : List F.Item → ℕ → Type 0) (last : RulesLaws F (rules_by table ends))
        (ends_decided : (seen : List F.Item) → DecidedHere (λ n. ends seen n)) (ends_padded : (items others : List F.Item) → GivenPadded table padded items others → (n : ℕ) → ends items n ↔ ends others n)
        (text other : F.Rest) where
      -- what the two texts have alike
      abbrev Same : Type 0
      Same = SameOffence (λ p n. Offence F (rules_by table ends) text p n) (λ p n. Offence F (rules_by table ends) other p n)

      at_end : (rest there : F.Rest) (seen past : List F.Item) → Walked F (rules_by table ends) text seen rest → Walked F (rules_by table ends) other past there → GivenPadded table padded seen past
          → F.IsEnd rest → F.IsEnd there → DecidedHere (λ n. ends seen n) → Same
      at_end rest there seen past walked along given is_end over (inl none) =
          inl (
            none_at_end F L (rules_by table ends) text seen rest walked is_end none,
            none_at_end F L (rules_by table ends) other past there along over (λ m h. none m ((ends_padded seen past given m).1 h)),
          )
      at_end rest there seen past walked along given is_end over (inr (cause, offends, first)) =
          inr (
            cause_number cause,
            least_end F L (rules_by table ends) text seen rest (cause_number cause) walked is_end offends first,
            least_end F L (rules_by table ends) other past there (cause_number cause) along over ((ends_padded seen past given (cause_number cause)).0 offends)
                (λ m h. first m ((ends_padded seen past given m).1 h)),
          )

      at_stop : (rest there stop : F.Rest) (seen past : List F.Item) → Walked F (rules_by table ends) text seen rest → Walked F (rules_by table ends) other past there → GivenPadded table padded seen past
          → rest ≡ stop → there ≡ stop → F.IsEnd stop ⊎ ((n : ℕ) × F.Unread stop n) → Same
      at_stop rest there stop seen past walked along given here same (inl is_end) =
          at_end rest there seen past walked along given (subst (λ (x : F.Rest). F.IsEnd x) (sym here) is_end) (subst (λ (x : F.Rest). F.IsEnd x) (sym same) is_end) (ends_decided seen)
      at_stop rest there stop seen past walked along given here same (inr (n, unread)) =
          inr (
            n,
            least_unread F L (rules_by table ends) text seen rest n walked (subst (λ (x : F.Rest). F.Unread x n) (sym here) unread),
            least_unread F L (rules_by table ends) other past there n along (subst (λ (x : F.Rest). F.Unread x n) (sym same) unread),
          )

      walk : (items others : List F.Item) → ItemsPadded table padded items others → (rest there stop : F.Rest) (seen past : List F.Item) → Walked F (rules_by table ends) text seen rest → Walked F (rules_by table ends) other past there
          → GivenPadded table padded seen past → Cut F rest items stop → Cut F there others stop → F.IsEnd stop ⊎ ((n : ℕ) × F.Unread stop n) → Same
      unfolding Cut
      walk _ _ no_more rest there stop seen past walked along given cut cut_other stops = at_stop rest there stop seen past walked along given cut cut_other stops
      walk _ _ (one_free free items others is more) rest there stop seen past walked along given cut cut_other stops =
          walk items others more rest cut_other.0 stop seen (past ++ free ∷ []) walked
          (walked_step F L (rules_by table ends) other there cut_other.0 past free along cut_other.1 (none_in_item (λ n. table_here table past free n) (λ p n. table_inside table free p n) (free_here table past free is) (free_inside table free is)))
          (free_behind table padded free seen past is given) cut cut_other.2 stops
      walk _ _ (one_same this twin items others is more) rest there stop seen past walked along given cut cut_other stops =
          of (item_pair table padded decides pads seen past given this twin is) (λ a b. walk items others more cut.0 cut_other.0 stop (seen ++ this ∷ []) (past ++ twin ∷ []) a b (same_behind table padded this twin seen past is given) cut.2 cut_other.2 stops)
        where
          of : SameOffence (HereOrInside (λ n. table_here table seen this n) (λ p n. table_inside table this p n)) (HereOrInside (λ n. table_here table past twin n) (λ p n. table_inside table twin p n))
              → (Walked F (rules_by table ends) text (seen ++ this ∷ []) cut.0 → Walked F (rules_by table ends) other (past ++ twin ∷ []) cut_other.0 → Same) → Same
          of (inl none) on =
              on (walked_step F L (rules_by table ends) text rest cut.0 seen this walked cut.1 none.0) (walked_step F L (rules_by table ends) other there cut_other.0 past twin along cut_other.1 none.1)
          of (inr (n, least, same)) on =
              inr (n, least_item F L (rules_by table ends) last text seen rest cut.0 this walked cut.1 n least, least_item F L (rules_by table ends) last other past there cut_other.0 twin along cut_other.1 n same)

      pub same_offence : TextPadded F table padded text other → Same
      same_offence t =
          walk t.items t.others t.same text other t.rest [] [] (walked_start F L (rules_by table ends) text) (walked_start F L (rules_by table ends) other) (none_given table padded) t.cut t.cut_other t.stops

-- ---- nothing need be added

item_self : {Item : Type 0} (table : List (Row Item)) (padded : Paddings table) → TablePadding table padded → (this : Item) → ItemPadded table padded this this
item_self [] padded pads this = tt
item_self (row ∷ table) padded pads this = (all_zip_self padded.0 pads.0.none (row.given this), item_self table padded.1 pads.1 this)

items_self : {Item : Type 0} (table : List (Row Item)) (padded : Paddings table) → TablePadding table padded → (items : List Item) → ItemsPadded table padded items items
items_self table padded pads [] = no_more
items_self table padded pads (this ∷ items) = one_same this this items items (item_self table padded pads this) (items_self table padded pads items)

module _ (F : Format) (L : FormatLaws F) (next : (rest : F.Rest) → Next F rest) where
  -- the items of a text, up to its end or to where no item stands
  record AllItems (text : F.Rest) : Type 0 where
    items : List F.Item
    rest : F.Rest
    cut : Cut F text items rest
    stops : F.IsEnd rest ⊎ ((n : ℕ) × F.Unread rest n)

  all_items : (fuel : ℕ) (text : F.Rest) → F.size text < fuel → AllItems text
  unfolding Cut
  all_items zero text less = absurd (omega arith)
  all_items (suc fuel) text less = of (next text) (λ after smaller. all_items fuel after smaller)
    where
      of : Next F text → ((after : F.Rest) → F.size after < fuel → AllItems after) → AllItems text
      of (ended is_end) on = record { items = []; rest = text; cut = refl; stops = inl is_end }
      of (stopped cause unread) on = record { items = []; rest = text; cut = refl; stops = inr (cause_number cause, unread) }
      of (begun this after begins) on =
          let more = on after (omega (arith, L.room this text after begins, L.some_beside)) in
          record { items = this ∷ more.items; rest = more.rest; cut = (after, begins, more.cut); stops = more.stops }

  pub text_self : (table : List (Row F.Item)) (padded : Paddings table) → TablePadding table padded → (text : F.Rest) → TextPadded F table padded text text
  text_self table padded pads text =
      let all = all_items (suc (F.size text)) text (omega arith) in
      record { items = all.items; others = all.items; rest = all.rest; cut = all.cut; cut_other = all.cut; stops = all.stops; same = items_self table padded pads all.items }
