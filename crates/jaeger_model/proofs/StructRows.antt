-- What follows from a struct's table where each of its fields stands in a text: nothing offends in a struct that means something, and what
-- its rows hold is found where none of its fields offends, or an offence counts.
use Rattle.std.proofs.Common.{◌≡◌, ◌⊎◌, ◌≤◌, ◌++◌, ◌∷◌, ◌==◌, if◌then◌else◌, ℕ, zero, suc, ℤ, pos, Bool, true, false, Option, Some, None, List, [], inl, inr, refl, sym, ap, subst, ◌∙◌}
use Rattle.std.specs.List.{flat_map}
use Rattle.std.proofs.lemmas.List.{append-nil, append_assoc}
use Rattle.std.proofs.lemmas.List.Concat.{flat_map-append, flat_map-cons}
use Rattle.span_io.specs.Causes.{cause_number}
use Rattle.span_io.specs.declared.cause.Cause.{Cause}
use Rattle.span_io.specs.Offences.{FormatLaws, RulesLaws}
use Rattle.span_io.proofs.OffenceLaws.{Walked, walked_start, walked_step, least_here, least_inside, none_in_item, least_end, least_item}
use Rattle.span_io.specs.Offences.{Offence, Least, HereOrInside}
use Rattle.span_io.proofs.TableDecisions.{Decided, DecidedHere}
use Rattle.span_io.proofs.TableLaws.{IsFew, none_offends, flat_more}
use Rattle.span_io.specs.Tables.{Whole}
use Rattle.span_io.specs.Tables.{Row, OfFirst, table_here, table_inside, rules_by, IsFree, givens, Values, Mean}
use Rattle.thrift_core.specs.declared.field.Field.{Field}
use Rattle.thrift_core.specs.FieldValues.{has_id}
use Rattle.thrift_core.specs.Messages.{FieldItem, StructRest, BeginsField, structs, fields_of}
use Rattle.thrift_core.proofs.OneReading.{Front, value_front}
use Rattle.thrift_core.specs.Parts.{Spelling, header, Begins}
use Rattle.thrift_core.specs.Trees.{Fields, no_fields, field_then, kind_of, ValueThen, FieldsThen}

-- ---- rows

-- the field's value is a text
abbrev pub Stands : Spelling → ℕ → FieldItem → Type 0
Stands Spells left item = (held : Option Bool) × ValueThen Spells item.tree left held item.text []

-- a field that stands gave it
abbrev pub Comes : Spelling → ℕ → {A : Type 0} → (FieldItem → List A) → A → Type 0
Comes Spells left give x = (item : FieldItem) × Stands Spells left item × (give item ≡ x ∷ [])

-- none of what was given to a row, behind what was given before, offends
abbrev pub CleanAt : Spelling → ℕ → (row : Row FieldItem) → List row.Given → List row.Given → Type 0
CleanAt Spells left row earlier [] = Unit {0}
CleanAt Spells left row earlier (x ∷ xs) =
    Comes Spells left row.given x × ((n : ℕ) → row.here earlier x n → ⊥) × ((place n : ℕ) → row.inside x place n → ⊥) × CleanAt Spells left row (earlier ++ x ∷ []) xs

-- nothing was given to the row, or what was given means something
abbrev pub Found : (row : Row FieldItem) → List row.Given → Type 0
Found row xs = (xs ≡ []) ⊎ ((v : row.Value) × row.Means xs v)

-- What is proved of a row, to which fields of one id alone give something.
pub record RowProof (Spells : Spelling) (left : ℕ) (row : Row FieldItem) : Type 0 where
  pub id : ℕ
  pub own : (item : FieldItem) (x : row.Given) → row.given item ≡ x ∷ [] → item.id ≡ pos id
  pub apart : (item : FieldItem) → has_id id item.id ≡ false → row.given item ≡ []
  pub few : (item : FieldItem) → IsFew (row.given item)
  pub fine_here : (front back : List row.Given) (x : row.Given) (v : row.Value) → row.Means (front ++ x ∷ back) v → (n : ℕ) → row.here front x n → ⊥
  pub fine_inside : (front back : List row.Given) (x : row.Given) (v : row.Value) → row.Means (front ++ x ∷ back) v → Comes Spells left row.given x
      → (place n : ℕ) → row.inside x place n → ⊥
  pub here : (earlier : List row.Given) (x : row.Given) → DecidedHere (λ n. row.here earlier x n)
  pub inside : (earlier : List row.Given) (x : row.Given) → Comes Spells left row.given x → ((n : ℕ) → row.here earlier x n → ⊥) → Decided (λ place n. row.inside x place n)
  pub found : (xs : List row.Given) → CleanAt Spells left row [] xs → Found row xs

-- ---- tables

abbrev pub TableProof : Spelling → ℕ → List (Row FieldItem) → Type 0
TableProof Spells left [] = Unit {0}
TableProof Spells left (row ∷ table) = RowProof Spells left row × TableProof Spells left table

abbrev pub TableFound : List (Row FieldItem) → List FieldItem → Type 0
TableFound [] items = Unit {0}
TableFound (row ∷ table) items = Found row (flat_map row.given items) × TableFound table items

abbrev pub differs : ℕ → List ℕ → Bool
differs n [] = true
differs n (m ∷ ms) = if n == m then false else differs n ms

abbrev pub distinct : List ℕ → Bool
distinct [] = true
distinct (n ∷ ns) = if differs n ns then distinct ns else false

if_both : (b c : Bool) → (if b then c else false) ≡ true → (b ≡ true) × (c ≡ true)
if_both true c e = (refl, e)
if_both false c e = absurd (cc)

if_neither : (b c : Bool) → (if b then false else c) ≡ true → (b ≡ false) × (c ≡ true)
if_neither true c e = absurd (cc)
if_neither false c e = (refl, e)

by_few : {A : Type 0} (xs : List A) (P : List A → Type 0) → IsFew xs → (xs ≡ [] → P []) → ((x : A) → xs ≡ x ∷ [] → P (x ∷ [])) → P xs
by_few xs P (inl e) none one = subst P (sym e) (none e)
by_few xs P (inr (x, e)) none one = subst P (sym e) (one x e)

on_first : {A : Type 0} (xs : List A) (Says : A → Type 0) (Else : Type 0) → IsFew xs → ((x : A) → xs ≡ x ∷ [] → Says x → ⊥) → (Else → ⊥) → OfFirst xs Says Else → ⊥
on_first xs Says Else few one other h = by_few xs (λ l. OfFirst l Says Else → ⊥) few (λ e k. other k) (λ x e k. one x e k) h

-- what more stands behind
flat_split : {A : Type 0} (give : FieldItem → List A) (items seen more : List FieldItem) (this : FieldItem) (x : A) → items ≡ seen ++ this ∷ more → give this ≡ x ∷ []
    → flat_map give items ≡ flat_map give seen ++ x ∷ flat_map give more
flat_split give items seen more this x parts gives =
    ap (λ l. flat_map give l) parts ∙ (flat_map-append give seen (this ∷ more)
    ∙ ap (λ l. flat_map give seen ++ l) (flat_map-cons give this more ∙ ap (λ l. l ++ flat_map give more) gives))

module _ (Spells : Spelling) (left : ℕ) where
  -- the ids of the rows
  abbrev pub ids : (table : List (Row FieldItem)) → TableProof Spells left table → List ℕ
  ids [] rows = []
  ids (row ∷ table) rows = rows.0.id ∷ ids table rows.1

  free_of_others : (table : List (Row FieldItem)) (rows : TableProof Spells left table) (item : FieldItem) (n : ℕ) → item.id ≡ pos n → differs n (ids table rows) ≡ true → IsFree table item
  free_of_others [] rows item n is differ = tt
  free_of_others (row ∷ table) rows item n is differ =
      let parts = if_neither (n == rows.0.id) (differs n (ids table rows.1)) differ in
      (rows.0.apart item (ap (λ z. has_id rows.0.id z) is ∙ parts.0), free_of_others table rows.1 item n is parts.1)

  -- ---- nothing offends in what means something

  module _ (items seen more : List FieldItem) (this : FieldItem) (parts : items ≡ seen ++ this ∷ more) where
    here_fine : (table : List (Row FieldItem)) → TableProof Spells left table → (values : Values table) → Mean table (givens table items) values → (n : ℕ) → table_here table seen this n → ⊥
    here_fine [] rows values means n offends = offends
    here_fine (row ∷ table) rows values means n offends =
        on_first (row.given this) (λ x. row.here (flat_map row.given seen) x n) (table_here table seen this n) (rows.0.few this)
        (λ x gives wrong. rows.0.fine_here (flat_map row.given seen) (flat_map row.given more) x values.0
        (subst (λ (l : List row.Given). row.Means l values.0) (flat_split row.given items seen more this x parts gives) means.0) n wrong)
        (λ wrong. here_fine table rows.1 values.1 means.1 n wrong) offends

    inside_fine : Stands Spells left this → (table : List (Row FieldItem)) → TableProof Spells left table → (values : Values table) → Mean table (givens table items) values
        → (place n : ℕ) → table_inside table this place n → ⊥
    inside_fine stands [] rows values means place n offends = offends
    inside_fine stands (row ∷ table) rows values means place n offends =
        on_first (row.given this) (λ x. row.inside x place n) (table_inside table this place n) (rows.0.few this)
        (λ x gives wrong. rows.0.fine_inside (flat_map row.given seen) (flat_map row.given more) x values.0
        (subst (λ (l : List row.Given). row.Means l values.0) (flat_split row.given items seen more this x parts gives) means.0) (this, stands, gives) place n wrong)
        (λ wrong. inside_fine stands table rows.1 values.1 means.1 place n wrong) offends

  stands_in : (seen more : List FieldItem) (this : FieldItem) (text : StructRest) → Whole (structs Spells left) (seen ++ this ∷ more) text → Stands Spells left this
  unfolding Whole
  stands_in [] more this text whole = (whole.1.held, whole.1.value)
  stands_in (s ∷ seen) more this text whole = stands_in seen more this whole.0 whole.2

  pub table_fine : FormatLaws (structs Spells left) → (table : List (Row FieldItem)) → TableProof Spells left table → (ends : List FieldItem → ℕ → Type 0) (text : StructRest) (items : List FieldItem)
      → Whole (structs Spells left) items text → (values : Values table) → Mean table (givens table items) values → ((n : ℕ) → ends items n → ⊥)
      → (place n : ℕ) → Offence (structs Spells left) (rules_by table ends) text place n → ⊥
  table_fine L table rows ends text items whole values means clean_end =
      none_offends (structs Spells left) L (rules_by table ends) text items whole (λ seen more this parts n. here_fine items seen more this parts table rows values means n)
      (λ seen more this parts place n. inside_fine items seen more this parts (stands_in seen more this text (subst (λ (l : List FieldItem). Whole (structs Spells left) l text) parts whole)) table rows values means place n)
      clean_end

  -- ---- an item offends, or it doesn't

  decided_row : (row : Row FieldItem) → RowProof Spells left row → (earlier : List row.Given) (x : row.Given) → Comes Spells left row.given x
      → Decided (HereOrInside (λ n. row.here earlier x n) (λ p n. row.inside x p n))
  decided_row row proof earlier x comes = at_here (proof.here earlier x)
    where
      at_inside : ((n : ℕ) → row.here earlier x n → ⊥) → Decided (λ p n. row.inside x p n) → Decided (HereOrInside (λ n. row.here earlier x n) (λ p n. row.inside x p n))
      at_inside fine (inl none) = inl (none_in_item (λ n. row.here earlier x n) (λ p n. row.inside x p n) fine none)
      at_inside fine (inr (cause, least)) = inr (cause, least_inside (λ n. row.here earlier x n) (λ p n. row.inside x p n) (cause_number cause) fine least)

      at_here : DecidedHere (λ n. row.here earlier x n) → Decided (HereOrInside (λ n. row.here earlier x n) (λ p n. row.inside x p n))
      at_here (inl none) = at_inside none (proof.inside earlier x comes none)
      at_here (inr (cause, offends, first)) = inr (cause, least_here (λ n. row.here earlier x n) (λ p n. row.inside x p n) (cause_number cause) offends first)

  decide_item : (table : List (Row FieldItem)) → TableProof Spells left table → (seen : List FieldItem) (this : FieldItem) → Stands Spells left this
      → Decided (HereOrInside (λ n. table_here table seen this n) (λ p n. table_inside table this p n))
  decide_item [] rows seen this stands = inl (none_in_item (λ n. ⊥) (λ p n. ⊥) (λ n h. h) (λ p n h. h))
  decide_item (row ∷ table) rows seen this stands =
      by_few (row.given this)
      (λ (xs : List row.Given). Decided (HereOrInside (λ n. OfFirst xs (λ x. row.here (flat_map row.given seen) x n) (table_here table seen this n)) (λ p n. OfFirst xs (λ x. row.inside x p n) (table_inside table this p n))))
      (rows.0.few this) (λ e. decide_item table rows.1 seen this stands) (λ x e. decided_row row rows.0 (flat_map row.given seen) x (this, stands, e))

  -- ---- what none of the fields that were passed offends in

  abbrev TableClean : List (Row FieldItem) → List FieldItem → Type 0
  TableClean [] items = Unit {0}
  TableClean (row ∷ table) items = CleanAt Spells left row [] (flat_map row.given items) × TableClean table items

  clean_push : (row : Row FieldItem) (earlier xs : List row.Given) (x : row.Given) → CleanAt Spells left row earlier xs → Comes Spells left row.given x → ((n : ℕ) → row.here (earlier ++ xs) x n → ⊥)
      → ((p n : ℕ) → row.inside x p n → ⊥) → CleanAt Spells left row earlier (xs ++ x ∷ [])
  clean_push row earlier [] x clean comes here inside = (comes, λ n h. here n (subst (λ (l : List row.Given). row.here l x n) (sym (append-nil earlier)) h), inside, tt)
  clean_push row earlier (y ∷ xs) x clean comes here inside = (
    clean.0,
    clean.1,
    clean.2,
    clean_push row (earlier ++ y ∷ []) xs x clean.3 comes (λ n h. here n (subst (λ (l : List row.Given). row.here l x n) (append_assoc earlier (y ∷ []) xs) h)) inside,
  )

  same_given : (row : Row FieldItem) (seen : List FieldItem) (this : FieldItem) → row.given this ≡ [] → flat_map row.given seen ≡ flat_map row.given (seen ++ this ∷ [])
  same_given row seen this none = sym (flat_more row.given seen this ∙ (ap (λ l. flat_map row.given seen ++ l) none ∙ append-nil (flat_map row.given seen)))

  table_free : (table : List (Row FieldItem)) (seen : List FieldItem) (this : FieldItem) → IsFree table this → TableClean table seen → TableClean table (seen ++ this ∷ [])
  table_free [] seen this free clean = tt
  table_free (row ∷ table) seen this free clean =
      (subst (λ (l : List row.Given). CleanAt Spells left row [] l) (same_given row seen this free.0) clean.0, table_free table seen this free.1 clean.1)

  table_push : (table : List (Row FieldItem)) (rows : TableProof Spells left table) → distinct (ids table rows) ≡ true → (seen : List FieldItem) (this : FieldItem) → Stands Spells left this → TableClean table seen
      → ((n : ℕ) → table_here table seen this n → ⊥) → ((p n : ℕ) → table_inside table this p n → ⊥) → TableClean table (seen ++ this ∷ [])
  table_push [] rows each seen this stands clean here inside = tt
  table_push (row ∷ table) rows each seen this stands clean here inside = of (rows.0.few this) (table_push table rows.1 parts.1 seen this stands clean.1)
    where
      parts : (differs rows.0.id (ids table rows.1) ≡ true) × (distinct (ids table rows.1) ≡ true)
      parts = if_both (differs rows.0.id (ids table rows.1)) (distinct (ids table rows.1)) each

      of : IsFew (row.given this) → (((n : ℕ) → table_here table seen this n → ⊥) → ((p n : ℕ) → table_inside table this p n → ⊥) → TableClean table (seen ++ this ∷ [])) → TableClean (row ∷ table) (seen ++ this ∷ [])
      of (inl none) others = (
        subst (λ (l : List row.Given). CleanAt Spells left row [] l) (same_given row seen this none) clean.0,
        others (λ n wrong. here n (subst (λ (xs : List row.Given). OfFirst xs (λ y. row.here (flat_map row.given seen) y n) (table_here table seen this n)) (sym none) wrong))
            (λ p n wrong. inside p n (subst (λ (xs : List row.Given). OfFirst xs (λ y. row.inside y p n) (table_inside table this p n)) (sym none) wrong)),
      )
      of (inr (x, gives)) others = (
        subst (λ (l : List row.Given). CleanAt Spells left row [] l) (sym (flat_more row.given seen this ∙ ap (λ l. flat_map row.given seen ++ l) gives))
            (clean_push row [] (flat_map row.given seen) x clean.0 (this, stands, gives)
            (λ n wrong. here n (subst (λ (xs : List row.Given). OfFirst xs (λ y. row.here (flat_map row.given seen) y n) (table_here table seen this n)) (sym gives) wrong))
            (λ p n wrong. inside p n (subst (λ (xs : List row.Given). OfFirst xs (λ y. row.inside y p n) (table_inside table this p n)) (sym gives) wrong))),
        table_free table seen this (free_of_others table rows.1 this rows.0.id (rows.0.own this x gives) parts.0) clean.1,
      )

  none_clean : (table : List (Row FieldItem)) → TableClean table []
  none_clean [] = tt
  none_clean (row ∷ table) = (tt, none_clean table)

  all_found : (table : List (Row FieldItem)) → TableProof Spells left table → (items : List FieldItem) → TableClean table items → TableFound table items
  all_found [] rows items clean = tt
  all_found (row ∷ table) rows items clean = (rows.0.found (flat_map row.given items) clean.0, all_found table rows.1 items clean.1)

  -- ---- a struct, field by field

  -- what the struct's end says of what was found: it means something, or the end offends
  abbrev pub AtEnd : (List FieldItem → Type 0) → (List FieldItem → ℕ → Type 0) → List FieldItem → Type 0
  AtEnd Made ends items = Made items ⊎ ((cause : Cause) × ends items (cause_number cause) × ((m : ℕ) → ends items m → cause_number cause ≤ m))

  module _ (L : FormatLaws (structs Spells left)) (table : List (Row FieldItem)) (rows : TableProof Spells left table) (each : distinct (ids table rows) ≡ true) (ends : List FieldItem → ℕ → Type 0)
      (last : RulesLaws (structs Spells left) (rules_by table ends)) (Made : List FieldItem → Type 0) (at_end : (items : List FieldItem) → TableFound table items → AtEnd Made ends items) (text : StructRest) (items : List FieldItem) where
    abbrev Offends : ℕ → ℕ → Type 0
    Offends place n = Offence (structs Spells left) (rules_by table ends) text place n

    abbrev Answer : Type 0
    Answer = Made items ⊎ ((cause : Cause) × Least Offends (cause_number cause))

    ended : (seen : List FieldItem) (rest : StructRest) → items ≡ seen → Walked (structs Spells left) (rules_by table ends) text seen rest → Begins Spells (header left rest.last) None rest.bytes [] → AtEnd Made ends seen → Answer
    ended seen rest parts walked is_end (inl made) = inl (subst (λ (l : List FieldItem). Made l) (sym parts) made)
    ended seen rest parts walked is_end (inr (cause, offends, first)) = inr (cause, least_end (structs Spells left) L (rules_by table ends) text seen rest (cause_number cause) walked is_end offends first)

    walk : (seen more : List FieldItem) (rest : StructRest) → items ≡ seen ++ more → Walked (structs Spells left) (rules_by table ends) text seen rest → Whole (structs Spells left) more rest → TableClean table seen → Answer
    unfolding Whole
    walk seen [] rest parts walked whole clean = ended seen rest (parts ∙ append-nil seen) walked whole (at_end seen (all_found table rows seen clean))
    walk seen (this ∷ more) rest parts walked whole clean = of (decide_item table rows seen this stands) (walk (seen ++ this ∷ []) more whole.0 (parts ∙ sym (append_assoc seen (this ∷ []) more)))
      where
        stands : Stands Spells left this
        stands = (whole.1.held, whole.1.value)

        of : Decided (HereOrInside (λ n. table_here table seen this n) (λ p n. table_inside table this p n))
            → (Walked (structs Spells left) (rules_by table ends) text (seen ++ this ∷ []) whole.0 → Whole (structs Spells left) more whole.0 → TableClean table (seen ++ this ∷ []) → Answer) → Answer
        of (inl none) on =
            on (walked_step (structs Spells left) L (rules_by table ends) text rest whole.0 seen this walked whole.1 none) whole.2
            (table_push table rows each seen this stands clean (λ n wrong. none zero n wrong) (λ p n wrong. none (suc p) n wrong))
        of (inr (cause, least)) on = inr (cause, least_item (structs Spells left) L (rules_by table ends) last text seen rest whole.0 this walked whole.1 (cause_number cause) least)

    pub table_some : Whole (structs Spells left) items text → Answer
    table_some whole = walk [] items text refl (walked_start (structs Spells left) L (rules_by table ends) text) whole (none_clean table)

  -- ---- the fields of a text

  pub whole_of : (fields : Fields) (last : ℤ) (bytes : List ℕ) → FieldsThen Spells fields left last bytes []
      → (items : List FieldItem) × (fields_of items ≡ fields) × Whole (structs Spells left) items (record { last = last; bytes = bytes })
  unfolding FieldsThen Whole fields_of
  whole_of no_fields last bytes h = ([], refl, h)
  whole_of (field_then id tree more) last bytes h = of (whole_of more id h.2 h.5)
    where
      head : Field
      head = record { id = id; kind = kind_of tree; held = h.0 }

      own : Front (λ a b. ValueThen Spells tree left h.0 a b) h.1 h.2
      own = value_front Spells tree left h.0 h.1 h.2 h.4

      item : FieldItem
      item = record { id = id; tree = tree; text = own.text }

      after : StructRest
      after = record { last = id; bytes = h.2 }

      begins : BeginsField Spells left item (record { last = last; bytes = bytes }) after
      begins = record {
        held = h.0;
        head = subst (λ l. Begins Spells (header left last) (Some head) bytes l) own.parts h.3;
        value = subst (λ l. ValueThen Spells tree left h.0 l []) (append-nil own.text) (own.again []);
        last = refl;
      }

      of : (items : List FieldItem) × (fields_of items ≡ more) × Whole (structs Spells left) items after
          → (items : List FieldItem) × (fields_of items ≡ field_then id tree more) × Whole (structs Spells left) items (record { last = last; bytes = bytes })
      of others = (item ∷ others.0, ap (λ (f : Fields). field_then id tree f) others.1, (after, begins, others.2))
