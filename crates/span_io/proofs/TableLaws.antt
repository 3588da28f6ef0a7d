-- What follows from a message's table for every message, by one induction over its rows each. Readers of every wire format cite these.
use Rattle.std.proofs.Common.{◌≡◌, ℕ, ◌+◌, ◌≤◌, ◌⊎◌, inl, inr, List, [], ◌∷◌, ◌++◌, refl, sym, ap, subst, ◌∙◌, arith}
use Rattle.std.specs.List.{flat_map}
use Rattle.std.proofs.lemmas.List.{append-nil}
use Rattle.std.proofs.lemmas.List.Concat.{flat_map-append, flat_map-cons}
use Rattle.span_io.specs.Offences.{Format, Rules, Offence, Cut, unread, here, inside, at_end, FormatLaws, RulesLaws}
use Rattle.span_io.proofs.OffenceLaws.{offence_within, late_number}
use Rattle.span_io.specs.Tables.{Row, OfFirst, table_here, table_inside, rules_by, IsFree, Givens, givens, Values, Mean, pushed, givens_with, Whole}

-- one thing at most
abbrev pub IsFew : {A : Type 0} → List A → Type 0
IsFew {A} xs = (xs ≡ []) ⊎ ((x : A) × (xs ≡ x ∷ []))

-- an end has no bytes: the end of an inner message may share its place
abbrev pub HasBareEnd : Format → Type 0
HasBareEnd F = (rest : F.Rest) × F.IsEnd rest × (F.size rest ≡ 0)

-- What a row keeps: an item gives one thing at most; the message in an item offends behind the item's first byte, and within what the
-- item holds; and at its end it offends with no number above `top`, where ends may share a place.
pub record RowShape (F : Format) (row : Row F.Item) (top : ℕ) : Type 0 where
  pub few : (this : F.Item) → IsFew (row.given this)
  pub within : (this : F.Item) (x : row.Given) → row.given this ≡ x ∷ [] → (place n : ℕ) → row.inside x place n → (2 ≤ place + F.beside) × (place ≤ F.held this)
  pub late : HasBareEnd F → (this : F.Item) (x : row.Given) → row.given this ≡ x ∷ [] → (place n : ℕ) → row.inside x place n → F.held this ≤ place → n ≤ top

-- What was given to a row means one value at most, and nothing in it offends where it means one.
pub record RowMeaning {Item : Type 0} (row : Row Item) : Type 0 where
  pub once : (xs : List row.Given) (a b : row.Value) → row.Means xs a → row.Means xs b → a ≡ b
  pub fine_here : (front back : List row.Given) (x : row.Given) (value : row.Value) → row.Means (front ++ x ∷ back) value → (n : ℕ) → row.here front x n → ⊥
  pub fine_inside : (front back : List row.Given) (x : row.Given) (value : row.Value) → row.Means (front ++ x ∷ back) value → (place n : ℕ) → row.inside x place n → ⊥

-- each row of a table keeps them
abbrev pub TableShape : (F : Format) → List (Row F.Item) → ℕ → Type 0
TableShape F [] top = Unit {0}
TableShape F (row ∷ table) top = RowShape F row top × TableShape F table top

abbrev pub TableMeaning : {Item : Type 0} → List (Row Item) → Type 0
TableMeaning [] = Unit {0}
TableMeaning (row ∷ table) = RowMeaning row × TableMeaning table

-- ---- what is given by one item more

push_few : {A : Type 0} (before xs : List A) → IsFew xs → before ++ xs ≡ pushed before xs
push_few before [] few = append-nil before
push_few before (x ∷ []) few = refl
push_few before (x ∷ y ∷ more) (inl e) = cc
push_few before (x ∷ y ∷ more) (inr (z, e)) = cc

one_of_few : {A : Type 0} (xs more : List A) (x : A) → IsFew xs → xs ≡ x ∷ more → xs ≡ x ∷ []
one_of_few xs more x (inl none) e = cc
one_of_few xs more x (inr (y, one)) e = let same : x ≡ y = cc in one ∙ ap (λ z. z ∷ []) (sym same)

pub flat_more : {I A : Type 0} (give : I → List A) (seen : List I) (this : I) → flat_map give (seen ++ this ∷ []) ≡ flat_map give seen ++ give this
flat_more give seen this = flat_map-append give seen (this ∷ []) ∙ ap (λ l. flat_map give seen ++ l) (flat_map-cons give this [] ∙ append-nil (give this))

flat_split : {I A : Type 0} (give : I → List A) (items seen more : List I) (this : I) (x : A) → items ≡ seen ++ this ∷ more → give this ≡ x ∷ [] → flat_map give items ≡ flat_map give seen ++ x ∷ flat_map give more
flat_split give items seen more this x parts gives =
    ap (λ l. flat_map give l) parts ∙ (flat_map-append give seen (this ∷ more)
    ∙ ap (λ l. flat_map give seen ++ l) (flat_map-cons give this more ∙ ap (λ l. l ++ flat_map give more) gives))

flat_without : {I A : Type 0} (give : I → List A) (before behind : List I) (free : I) → give free ≡ [] → flat_map give (before ++ free ∷ behind) ≡ flat_map give (before ++ behind)
flat_without give before behind free none =
    flat_map-append give before (free ∷ behind)
    ∙ (ap (λ l. flat_map give before ++ l) (flat_map-cons give free behind ∙ ap (λ l. l ++ flat_map give behind) none) ∙ sym (flat_map-append give before behind))

-- ---- what is said of the first thing that was given

on_first : {A : Type 0} (G : Type 0) (xs : List A) (Says : A → Type 0) (Else : Type 0) → ((x : A) (more : List A) → xs ≡ x ∷ more → Says x → G) → (Else → G) → OfFirst xs Says Else → G
on_first G [] Says Else one other h = other h
on_first G (x ∷ more) Says Else one other h = one x more refl h

module _ (F : Format) (top : ℕ) where
  pub givens_more : (table : List (Row F.Item)) → TableShape F table top → (seen : List F.Item) (this : F.Item) → givens table (seen ++ this ∷ []) ≡ givens_with table (givens table seen) this
  givens_more [] laws seen this = refl
  givens_more (row ∷ table) laws seen this =
      let first = flat_more row.given seen this ∙ push_few (flat_map row.given seen) (row.given this) (laws.0.few this) in
      let others = givens_more table laws.1 seen this in
      λ i. (first i, others i)

  -- ---- a message means one value at most

  pub values_once : (table : List (Row F.Item)) → TableMeaning table → (given : Givens table) (a b : Values table) → Mean table given a → Mean table given b → a ≡ b
  values_once [] laws given a b h k = refl
  values_once (row ∷ table) laws given a b h k =
      let first = laws.0.once given.0 a.0 b.0 h.0 k.0 in
      let others = values_once table laws.1 given.1 a.1 b.1 h.1 k.1 in
      λ i. (first i, others i)

  -- ---- nothing offends in a message that means something

  pub here_fine : (table : List (Row F.Item)) → TableShape F table top → TableMeaning table → (items seen more : List F.Item) (this : F.Item) → items ≡ seen ++ this ∷ more
      → (values : Values table) → Mean table (givens table items) values → (n : ℕ) → table_here table seen this n → ⊥
  here_fine [] shape laws items seen more this parts values means n offends = offends
  here_fine (row ∷ table) shape laws items seen more this parts values means n offends =
      on_first ⊥ (row.given this) (λ x. row.here (flat_map row.given seen) x n) (table_here table seen this n)
      (λ x others gives wrong.
      let split = flat_split row.given items seen more this x parts (one_of_few (row.given this) others x (shape.0.few this) gives) in
      laws.0.fine_here (flat_map row.given seen) (flat_map row.given more) x values.0 (subst (λ (l : List row.Given). row.Means l values.0) split means.0) n wrong)
      (λ wrong. here_fine table shape.1 laws.1 items seen more this parts values.1 means.1 n wrong) offends

  pub inside_fine : (table : List (Row F.Item)) → TableShape F table top → TableMeaning table → (items seen more : List F.Item) (this : F.Item) → items ≡ seen ++ this ∷ more
      → (values : Values table) → Mean table (givens table items) values → (place n : ℕ) → table_inside table this place n → ⊥
  inside_fine [] shape laws items seen more this parts values means place n offends = offends
  inside_fine (row ∷ table) shape laws items seen more this parts values means place n offends =
      on_first ⊥ (row.given this) (λ x. row.inside x place n) (table_inside table this place n)
      (λ x others gives wrong.
      let split = flat_split row.given items seen more this x parts (one_of_few (row.given this) others x (shape.0.few this) gives) in
      laws.0.fine_inside (flat_map row.given seen) (flat_map row.given more) x values.0 (subst (λ (l : List row.Given). row.Means l values.0) split means.0) place n wrong)
      (λ wrong. inside_fine table shape.1 laws.1 items seen more this parts values.1 means.1 place n wrong) offends

  -- ---- the rules keep what the search for the offence that counts asks

  pub inside_within : (table : List (Row F.Item)) → TableShape F table top → (this : F.Item) (place n : ℕ) → table_inside table this place n → (2 ≤ place + F.beside) × (place ≤ F.held this)
  inside_within [] laws this place n offends = absurd offends
  inside_within (row ∷ table) laws this place n offends =
      on_first ((2 ≤ place + F.beside) × (place ≤ F.held this)) (row.given this) (λ x. row.inside x place n) (table_inside table this place n)
      (λ x others gives inner. laws.0.within this x (one_of_few (row.given this) others x (laws.0.few this) gives) place n inner)
      (λ inner. inside_within table laws.1 this place n inner) offends

  pub inside_late : HasBareEnd F → (table : List (Row F.Item)) → TableShape F table top → (this : F.Item) (place n : ℕ) → table_inside table this place n → F.held this ≤ place → n ≤ top
  inside_late bare [] laws this place n offends late = absurd offends
  inside_late bare (row ∷ table) laws this place n offends late =
      on_first (n ≤ top) (row.given this) (λ x. row.inside x place n) (table_inside table this place n)
      (λ x others gives inner. laws.0.late bare this x (one_of_few (row.given this) others x (laws.0.few this) gives) place n inner late)
      (λ inner. inside_late bare table laws.1 this place n inner late) offends

-- ---- free items change nothing

module _ {Item : Type 0} where
  pub givens_without : (table : List (Row Item)) (before behind : List Item) (free : Item) → IsFree table free → givens table (before ++ free ∷ behind) ≡ givens table (before ++ behind)
  givens_without [] before behind free is = refl
  givens_without (row ∷ table) before behind free is =
      let first = flat_without row.given before behind free is.0 in
      let others = givens_without table before behind free is.1 in
      λ i. (first i, others i)

  pub free_here : (table : List (Row Item)) (seen : List Item) (free : Item) → IsFree table free → (n : ℕ) → table_here table seen free n → ⊥
  free_here [] seen free is n offends = offends
  free_here (row ∷ table) seen free is n offends =
      on_first ⊥ (row.given free) (λ x. row.here (flat_map row.given seen) x n) (table_here table seen free n)
      (λ x others gives wrong. let e : [] ≡ x ∷ others = sym is.0 ∙ gives in cc) (λ wrong. free_here table seen free is.1 n wrong) offends

  pub free_inside : (table : List (Row Item)) (free : Item) → IsFree table free → (place n : ℕ) → table_inside table free place n → ⊥
  free_inside [] free is place n offends = offends
  free_inside (row ∷ table) free is place n offends =
      on_first ⊥ (row.given free) (λ x. row.inside x place n) (table_inside table free place n)
      (λ x others gives inner. let e : [] ≡ x ∷ others = sym is.0 ∙ gives in cc) (λ inner. free_inside table free is.1 place n inner) offends

  pub free_with : (table : List (Row Item)) (given : Givens table) (free : Item) → IsFree table free → givens_with table given free ≡ given
  free_with [] given free is = refl
  free_with (row ∷ table) given free is =
      let first = ap (λ (l : List row.Given). pushed given.0 l) is.0 in
      let others = free_with table given.1 free is.1 in
      λ i. (first i, others i)

-- ---- a message with a table, in a wire format

module _ (F : Format) (L : FormatLaws F) (table : List (Row F.Item)) (top : ℕ) (laws : TableShape F table top) where
  -- whose end offends with no lower number than what may stand inside it there
  pub table_rules : (ends : List F.Item → ℕ → Type 0) → (HasBareEnd F → (seen : List F.Item) (n : ℕ) → ends seen n → top ≤ n) → RulesLaws F (rules_by table ends)
  table_rules ends last = record {
    within = λ this place n offends. inside_within F top table laws this place n offends;
    last = λ this end is_end none place n offends late seen m ended.
        let bare : HasBareEnd F = (end, is_end, none) in omega (arith, inside_late F top bare table laws this place n offends late, last bare seen m ended);
  }

  -- what offends in it stands within its bytes, and at its end has no number above this one
  pub message_within : (ends : List F.Item → ℕ → Type 0) → (HasBareEnd F → (seen : List F.Item) (n : ℕ) → ends seen n → top ≤ n) → (text : F.Rest) (place n : ℕ) → Offence F (rules_by table ends) text place n → place ≤ F.size text
  message_within ends last text place n offence = offence_within F L (rules_by table ends) (table_rules ends last) text place n offence

  pub message_late : HasBareEnd F → 2 ≤ F.beside → (ends : List F.Item → ℕ → Type 0) (most : ℕ) → top ≤ most → ((rest : F.Rest) (n : ℕ) → F.Unread rest n → n ≤ most)
      → ((seen : List F.Item) (n : ℕ) → ends seen n → n ≤ most) → (text : F.Rest) (place n : ℕ) → Offence F (rules_by table ends) text place n → F.size text ≤ place → n ≤ most
  message_late bare wide ends most above unreads ended text place n offence late =
      late_number F L (rules_by table ends) most wide unreads (λ this p m offends behind. omega (arith, above, inside_late F top bare table laws this p m offends behind)) ended text place n offence late

-- so where it was cut to its end
pub cut_whole : (F : Format) (text rest : F.Rest) (seen : List F.Item) → Cut F text seen rest → F.IsEnd rest → Whole F seen text
unfolding Cut Whole
cut_whole F text rest [] cut is_end = subst (λ (x : F.Rest). F.IsEnd x) (sym cut) is_end
cut_whole F text rest (this ∷ seen) cut is_end = (cut.0, cut.1, cut_whole F cut.0 rest seen cut.2 is_end)

-- where a cut stands in a message of these items
data AtCut (F : Format) (items seen : List F.Item) (rest : F.Rest) : Type 0 where
  at_last : F.IsEnd rest → items ≡ seen → AtCut F items seen rest
  at_next : (this : F.Item) (after : F.Rest) (more : List F.Item) → F.Begins this rest after → items ≡ seen ++ this ∷ more → AtCut F items seen rest

module _ (F : Format) (L : FormatLaws F) where
  longer_cut : (items seen : List F.Item) (rest : F.Rest) (s q : F.Item) → s ≡ q → AtCut F items seen rest → AtCut F (s ∷ items) (q ∷ seen) rest
  longer_cut items seen rest s q e (at_last is_end same) = at_last is_end (cc)
  longer_cut items seen rest s q e (at_next this after more begins parts) = at_next this after more begins (cc)

  cut_at : (text rest : F.Rest) (items seen : List F.Item) → Whole F items text → Cut F text seen rest → AtCut F items seen rest
  unfolding Whole Cut
  cut_at text rest [] [] whole cut = at_last (subst (λ (x : F.Rest). F.IsEnd x) cut whole) refl
  cut_at text rest (s ∷ items) [] whole cut = at_next s whole.0 items (subst (λ (x : F.Rest). F.Begins s x whole.0) cut whole.1) refl
  cut_at text rest [] (q ∷ seen) whole cut = absurd (L.ended q text cut.0 whole cut.1)
  cut_at text rest (s ∷ items) (q ∷ seen) whole cut =
      let one = L.only s q text whole.0 cut.0 whole.1 cut.1 in
      longer_cut items seen rest s q one.0 (cut_at cut.0 rest items seen (subst (λ (x : F.Rest). Whole F items x) one.1 whole.2) cut.2)

  module _ (K : Rules F.Item) (text : F.Rest) (items : List F.Item) (whole : Whole F items text)
      (clean_here : (seen more : List F.Item) (this : F.Item) → items ≡ seen ++ this ∷ more → (n : ℕ) → K.here seen this n → ⊥)
      (clean_inside : (seen more : List F.Item) (this : F.Item) → items ≡ seen ++ this ∷ more → (place n : ℕ) → K.inside this place n → ⊥)
      (clean_end : (n : ℕ) → K.ends items n → ⊥) where
    -- the item of which an offence speaks is one of them
    one_of_items : (seen : List F.Item) (rest after : F.Rest) (this : F.Item) → F.Begins this rest after → AtCut F items seen rest → (more : List F.Item) × (items ≡ seen ++ this ∷ more)
    one_of_items seen rest after this begins (at_last is_end same) = absurd (L.ended this rest after is_end begins)
    one_of_items seen rest after this begins (at_next s other more begun parts) = (more, parts ∙ ap (λ (x : F.Item). seen ++ x ∷ more) (L.only s this rest other after begun begins).0)

    none_unread : (seen : List F.Item) (rest : F.Rest) (n : ℕ) → F.Unread rest n → AtCut F items seen rest → ⊥
    none_unread seen rest n offends (at_last is_end same) = L.unended rest n is_end offends
    none_unread seen rest n offends (at_next this after more begins parts) = L.stuck this rest after n offends begins

    none_ended : (seen : List F.Item) (rest : F.Rest) (n : ℕ) → F.IsEnd rest → K.ends seen n → AtCut F items seen rest → ⊥
    none_ended seen rest n is_end offends (at_last e same) = clean_end n (subst (λ (x : List F.Item). K.ends x n) (sym same) offends)
    none_ended seen rest n is_end offends (at_next this after more begins parts) = L.ended this rest after is_end begins

    pub none_offends : (place n : ℕ) → Offence F K text place n → ⊥
    none_offends place n (unread o) = none_unread o.seen o.rest n o.offends (cut_at text o.rest items o.seen whole o.cut)
    none_offends place n (here o) =
        let at = one_of_items o.seen o.rest o.after o.this o.begins (cut_at text o.rest items o.seen whole o.cut) in clean_here o.seen at.0 o.this at.1 n o.offends
    none_offends place n (inside o) =
        let at = one_of_items o.seen o.rest o.after o.this o.begins (cut_at text o.rest items o.seen whole o.cut) in clean_inside o.seen at.0 o.this at.1 o.inner n o.offends
    none_offends place n (at_end o) = none_ended o.seen o.rest n o.is_end o.offends (cut_at text o.rest items o.seen whole o.cut)

  -- so of a message with a table, where its rows have values and its end doesn't offend
  pub table_fine : (table : List (Row F.Item)) (top : ℕ) → TableShape F table top → TableMeaning table → (ends : List F.Item → ℕ → Type 0) (text : F.Rest) (items : List F.Item) → Whole F items text
      → (values : Values table) → Mean table (givens table items) values → ((n : ℕ) → ends items n → ⊥) → (place n : ℕ) → Offence F (rules_by table ends) text place n → ⊥
  table_fine table top shape laws ends text items whole values means clean_end =
      none_offends (rules_by table ends) text items whole (λ seen more this parts n. here_fine F top table shape laws items seen more this parts values means n)
      (λ seen more this parts place n. inside_fine F top table shape laws items seen more this parts values means place n) clean_end
