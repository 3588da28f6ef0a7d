-- A message with a table is decided: it means something, or an offence in it counts. One induction over its rows, and one over its items.
use Rattle.std.proofs.Common.{◌≡◌, ℕ, zero, suc, ◌<◌, ◌≤◌, ◌⊎◌, inl, inr, List, [], ◌∷◌, ◌++◌, refl, sym, ap, subst, ◌∙◌, arith}
use Rattle.std.specs.List.{flat_map}
use Rattle.std.proofs.lemmas.List.{append-nil, append_assoc}
use Rattle.std.proofs.lemmas.List.Concat.{flat_map-append, flat_map-cons}
use Rattle.span_io.specs.Causes.{cause_number}
use Rattle.span_io.specs.declared.cause.Cause.{Cause}
use Rattle.span_io.specs.Offences.{Format, Offence, Cut, Least, HereOrInside, FormatLaws, RulesLaws}
use Rattle.span_io.proofs.OffenceLaws.{Walked, walked_start, walked_step, least_here, least_inside, none_in_item, least_unread, least_end, least_item}
use Rattle.span_io.specs.Tables.{Row, OfFirst, table_here, table_inside, rules_by, IsFree, givens, Values, Mean, Whole, Next, begun, ended, stopped}
use Rattle.span_io.proofs.TableLaws.{IsFew, TableShape, cut_whole, free_here, free_inside}

-- nothing offends, or one counts
abbrev pub Decided : (ℕ → ℕ → Type 0) → Type 0
Decided Offends = ((place n : ℕ) → Offends place n → ⊥) ⊎ ((cause : Cause) × Least Offends (cause_number cause))

-- the same of what offends at one place
abbrev pub DecidedHere : (ℕ → Type 0) → Type 0
DecidedHere Offends = ((n : ℕ) → Offends n → ⊥) ⊎ ((cause : Cause) × Offends (cause_number cause) × ((m : ℕ) → Offends m → cause_number cause ≤ m))

-- none of what was given to a row, behind what was given before, offends
abbrev pub Clean : {Item : Type 0} (row : Row Item) → List row.Given → List row.Given → Type 0
Clean row earlier [] = Unit {0}
Clean row earlier (x ∷ xs) = ((n : ℕ) → row.here earlier x n → ⊥) × ((place n : ℕ) → row.inside x place n → ⊥) × Clean row (earlier ++ x ∷ []) xs

-- Whether something offends in a row is decided, and what doesn't offend means something.
pub record RowDecides {Item : Type 0} (row : Row Item) : Type 0 where
  pub here : (earlier : List row.Given) (x : row.Given) → DecidedHere (λ n. row.here earlier x n)
  pub inside : (x : row.Given) → Decided (λ place n. row.inside x place n)
  pub exists : (xs : List row.Given) → Clean row [] xs → (v : row.Value) × row.Means xs v

abbrev pub TableDecides : {Item : Type 0} → List (Row Item) → Type 0
TableDecides [] = Unit {0}
TableDecides (row ∷ table) = RowDecides row × TableDecides table

-- an item is of one row at most
abbrev pub Apart : {Item : Type 0} → List (Row Item) → Type 0
Apart [] = Unit {0}
Apart {Item} (row ∷ table) = ((this : Item) (x : row.Given) → row.given this ≡ x ∷ [] → IsFree table this) × Apart table

-- ---- one item

by_few : {A : Type 0} (xs : List A) (P : List A → Type 0) → IsFew xs → (xs ≡ [] → P []) → ((x : A) → xs ≡ x ∷ [] → P (x ∷ [])) → P xs
by_few xs P (inl e) none one = subst P (sym e) (none e)
by_few xs P (inr (x, e)) none one = subst P (sym e) (one x e)

module _ {Item : Type 0} where
  decided_row : (row : Row Item) → RowDecides row → (earlier : List row.Given) (x : row.Given) → Decided (HereOrInside (λ n. row.here earlier x n) (λ p n. row.inside x p n))
  decided_row row decides earlier x = at_here (decides.here earlier x)
    where
      at_inside : ((n : ℕ) → row.here earlier x n → ⊥) → Decided (λ p n. row.inside x p n) → Decided (HereOrInside (λ n. row.here earlier x n) (λ p n. row.inside x p n))
      at_inside fine (inl none) = inl (none_in_item (λ n. row.here earlier x n) (λ p n. row.inside x p n) fine none)
      at_inside fine (inr (cause, least)) = inr (cause, least_inside (λ n. row.here earlier x n) (λ p n. row.inside x p n) (cause_number cause) fine least)

      at_here : DecidedHere (λ n. row.here earlier x n) → Decided (HereOrInside (λ n. row.here earlier x n) (λ p n. row.inside x p n))
      at_here (inl none) = at_inside none (decides.inside x)
      at_here (inr (cause, offends, first)) = inr (cause, least_here (λ n. row.here earlier x n) (λ p n. row.inside x p n) (cause_number cause) offends first)

pub decide_item : (F : Format) (top : ℕ) (table : List (Row F.Item)) → TableShape F table top → TableDecides table → (seen : List F.Item) (this : F.Item)
    → Decided (HereOrInside (λ n. table_here table seen this n) (λ p n. table_inside table this p n))
decide_item F top [] shape decides seen this = inl (none_in_item (λ n. ⊥) (λ p n. ⊥) (λ n h. h) (λ p n h. h))
decide_item F top (row ∷ table) shape decides seen this =
    by_few (row.given this) (λ (xs : List row.Given). Decided (HereOrInside (λ n. OfFirst xs (λ x. row.here (flat_map row.given seen) x n) (table_here table seen this n)) (λ p n. OfFirst xs (λ x. row.inside x p n) (table_inside table this p n))))
    (shape.0.few this) (λ e. decide_item F top table shape.1 decides.1 seen this) (λ x e. decided_row row decides.0 (flat_map row.given seen) x)

-- ---- what doesn't offend means something

module _ {Item : Type 0} where
  -- no item of these offends behind those before it
  abbrev pub AllClean : List (Row Item) → List Item → Type 0
  AllClean table items = (seen more : List Item) (this : Item) → items ≡ seen ++ this ∷ more → ((n : ℕ) → table_here table seen this n → ⊥) × ((p n : ℕ) → table_inside table this p n → ⊥)

  -- so of one row
  abbrev RowClean : Row Item → List Item → Type 0
  RowClean row items = (seen more : List Item) (this : Item) → items ≡ seen ++ this ∷ more → (x : row.Given) → row.given this ≡ x ∷ [] → ((n : ℕ) → row.here (flat_map row.given seen) x n → ⊥) × ((p n : ℕ) → row.inside x p n → ⊥)

  first_row : (row : Row Item) (table : List (Row Item)) (items : List Item) → AllClean (row ∷ table) items → RowClean row items
  first_row row table items clean seen more this parts x gives =
      let both = clean seen more this parts in (
        λ n wrong. both.0 n (subst (λ (xs : List row.Given). OfFirst xs (λ y. row.here (flat_map row.given seen) y n) (table_here table seen this n)) (sym gives) wrong),
        λ p n wrong. both.1 p n (subst (λ (xs : List row.Given). OfFirst xs (λ y. row.inside y p n) (table_inside table this p n)) (sym gives) wrong),
      )

  other_rows : (row : Row Item) (table : List (Row Item)) (few : (this : Item) → IsFew (row.given this)) → ((this : Item) (x : row.Given) → row.given this ≡ x ∷ [] → IsFree table this)
      → (items : List Item) → AllClean (row ∷ table) items → AllClean table items
  other_rows row table few apart items clean seen more this parts = of (few this)
    where
      of : IsFew (row.given this) → ((n : ℕ) → table_here table seen this n → ⊥) × ((p n : ℕ) → table_inside table this p n → ⊥)
      of (inl none) =
          let both = clean seen more this parts in (
            λ n wrong. both.0 n (subst (λ (xs : List row.Given). OfFirst xs (λ y. row.here (flat_map row.given seen) y n) (table_here table seen this n)) (sym none) wrong),
            λ p n wrong. both.1 p n (subst (λ (xs : List row.Given). OfFirst xs (λ y. row.inside y p n) (table_inside table this p n)) (sym none) wrong),
          )
      of (inr (x, gives)) = (λ n wrong. free_here table seen this (apart this x gives) n wrong, λ p n wrong. free_inside table this (apart this x gives) p n wrong)

  clean_from : (row : Row Item) (few : (this : Item) → IsFew (row.given this)) (items seen more : List Item) → items ≡ seen ++ more → RowClean row items → Clean row (flat_map row.given seen) (flat_map row.given more)
  clean_from row few items seen [] parts clean = tt
  clean_from row few items seen (this ∷ more) parts clean =
      let longer : items ≡ (seen ++ this ∷ []) ++ more = parts ∙ sym (append_assoc seen (this ∷ []) more) in
      let rest = clean_from row few items (seen ++ this ∷ []) more longer clean in
      let grown = flat_map-append row.given seen (this ∷ []) ∙ ap (λ l. flat_map row.given seen ++ l) (flat_map-cons row.given this [] ∙ append-nil (row.given this)) in
      subst (λ (l : List row.Given). Clean row (flat_map row.given seen) l) (sym (flat_map-cons row.given this more))
      (by_few (row.given this) (λ (xs : List row.Given). Clean row (flat_map row.given seen) (xs ++ flat_map row.given more)) (few this)
      (λ e. subst (λ (l : List row.Given). Clean row l (flat_map row.given more)) (grown ∙ ap (λ l. flat_map row.given seen ++ l) e ∙ append-nil (flat_map row.given seen)) rest)
      (λ x e. let both = clean seen more this parts x e in
      (both.0, both.1, subst (λ (l : List row.Given). Clean row l (flat_map row.given more)) (grown ∙ ap (λ l. flat_map row.given seen ++ l) e) rest)))

pub values_exist : (F : Format) (top : ℕ) (table : List (Row F.Item)) → TableShape F table top → TableDecides table → Apart table → (items : List F.Item) → AllClean table items → (v : Values table) × Mean table (givens table items) v
values_exist F top [] shape decides apart items clean = (tt, tt)
values_exist F top (row ∷ table) shape decides apart items clean =
    let first = decides.0.exists (flat_map row.given items) (clean_from row shape.0.few items [] items refl (first_row row table items clean)) in
    let others = values_exist F top table shape.1 decides.1 apart.1 items (other_rows row table shape.0.few apart.0 items clean) in
    ((first.0, others.0), (first.1, others.1))

module _ (F : Format) (L : FormatLaws F) (next : (rest : F.Rest) → Next F rest) (table : List (Row F.Item)) (top : ℕ) (shape : TableShape F table top) (decides : TableDecides table) (apart : Apart table)
    (ends : List F.Item → ℕ → Type 0) (last : RulesLaws F (rules_by table ends)) (ends_decided : (seen : List F.Item) → DecidedHere (λ n. ends seen n)) where
  -- the message's items, of which none offends, with the values of its rows
  pub record Means (text : F.Rest) : Type 0 where
    pub items : List F.Item
    pub whole : Whole F items text
    pub values : Values table
    pub mean : Mean table (givens table items) values
    pub clean_end : (n : ℕ) → ends items n → ⊥

  -- where a cut stands before one of the items
  cut_before : (text rest : F.Rest) (seen more : List F.Item) (this : F.Item) → Cut F text (seen ++ this ∷ more) rest → (there : F.Rest) × (after : F.Rest) × Cut F text seen there × F.Begins this there after × (F.size rest < F.size there)
  unfolding Cut
  cut_before text rest [] more this cut = (text, cut.0, refl, cut.1, omega (arith, L.room this text cut.0 cut.1, L.some_beside, smaller cut.0 rest more cut.2))
    where
      smaller : (text rest : F.Rest) (seen : List F.Item) → Cut F text seen rest → F.size rest ≤ F.size text
      smaller text rest [] cut = omega (arith, ap F.size cut)
      smaller text rest (r ∷ seen) cut = omega (arith, smaller cut.0 rest seen cut.2, L.room r text cut.0 cut.1)
  cut_before text rest (s ∷ seen) more this cut =
      let at = cut_before cut.0 rest seen more this cut.2 in
      (at.0, at.1, (cut.0, cut.1, at.2), at.3, at.4)

  all_clean : (text rest : F.Rest) (items : List F.Item) → Walked F (rules_by table ends) text items rest → AllClean table items
  all_clean text rest items walked seen more this parts =
      let at = cut_before text rest seen more this (subst (λ (l : List F.Item). Cut F text l rest) parts walked.cut) in (
        λ n wrong. walked.fine seen at.0 at.1 this at.2 at.3 at.4 zero n wrong,
        λ p n wrong. walked.fine seen at.0 at.1 this at.2 at.3 at.4 (suc p) n wrong,
      )

  at_end : (text rest : F.Rest) (items : List F.Item) → Walked F (rules_by table ends) text items rest → F.IsEnd rest → DecidedHere (λ n. ends items n) → Means text ⊎ ((cause : Cause) × Least (Offence F (rules_by table ends) text) (cause_number cause))
  at_end text rest items walked is_end (inl none) =
      let found = values_exist F top table shape decides apart items (all_clean text rest items walked) in
      inl (record { items = items; whole = cut_whole F text rest items walked.cut is_end; values = found.0; mean = found.1; clean_end = none })
  at_end text rest items walked is_end (inr (cause, offends, first)) = inr (cause, least_end F L (rules_by table ends) text items rest (cause_number cause) walked is_end offends first)

  walk : (fuel : ℕ) (text rest : F.Rest) (seen : List F.Item) → F.size rest < fuel → Walked F (rules_by table ends) text seen rest → Means text ⊎ ((cause : Cause) × Least (Offence F (rules_by table ends) text) (cause_number cause))
  walk zero text rest seen less walked = absurd (omega arith)
  walk (suc fuel) text rest seen less walked = of (next rest) (λ after items smaller so_far. walk fuel text after items smaller so_far)
    where
      go : (this : F.Item) (after : F.Rest) → F.Begins this rest after → ((after : F.Rest) (items : List F.Item) → F.size after < fuel → Walked F (rules_by table ends) text items after → Means text ⊎ ((cause : Cause) × Least (Offence F (rules_by table ends) text) (cause_number cause)))
          → Decided (HereOrInside (λ n. table_here table seen this n) (λ p n. table_inside table this p n)) → Means text ⊎ ((cause : Cause) × Least (Offence F (rules_by table ends) text) (cause_number cause))
      go this after begins on (inl none) = on after (seen ++ this ∷ []) (omega (arith, L.room this rest after begins, L.some_beside)) (walked_step F L (rules_by table ends) text rest after seen this walked begins none)
      go this after begins on (inr (cause, least)) = inr (cause, least_item F L (rules_by table ends) last text seen rest after this walked begins (cause_number cause) least)

      of : Next F rest → ((after : F.Rest) (items : List F.Item) → F.size after < fuel → Walked F (rules_by table ends) text items after → Means text ⊎ ((cause : Cause) × Least (Offence F (rules_by table ends) text) (cause_number cause)))
          → Means text ⊎ ((cause : Cause) × Least (Offence F (rules_by table ends) text) (cause_number cause))
      of (ended is_end) on = at_end text rest seen walked is_end (ends_decided seen)
      of (stopped cause offends) on = inr (cause, least_unread F L (rules_by table ends) text seen rest (cause_number cause) walked offends)
      of (begun this after begins) on = go this after begins on (decide_item F top table shape decides seen this)

  pub decide_message : (text : F.Rest) → Means text ⊎ ((cause : Cause) × Least (Offence F (rules_by table ends) text) (cause_number cause))
  decide_message text = walk (suc (F.size text)) text text [] (omega arith) (walked_start F L (rules_by table ends) text)
