-- One struct in two protocols, to which free fields may be added: where its rows correspond, nothing offends in either of its texts, or
-- one cause counts in both.
use Rattle.std.proofs.Common.{◌≡◌, ◌⊎◌, ◌++◌, ◌∷◌, ℕ, ℤ, pos, List, [], inl, inr, refl, sym, ap, subst, ◌∙◌}
use Rattle.std.specs.Prelude.{◌↔◌}
use Rattle.std.specs.List.{AllZip, flat_map}
use Rattle.std.proofs.lemmas.List.Concat.{flat_map-cons}
use Rattle.span_io.specs.Causes.{cause_number}
use Rattle.span_io.specs.declared.cause.Cause.{Cause}
use Rattle.span_io.proofs.FreeItemLaws.{SameOffence}
use Rattle.span_io.specs.Offences.{FormatLaws}
use Rattle.span_io.proofs.OffenceLaws.{none_in_item}
use Rattle.span_io.specs.Offences.{Rules, Offence, Least, HereOrInside}
use Rattle.span_io.proofs.RowLaws.{all_zip_append, all_zip_self}
use Rattle.span_io.specs.Tables.{Whole}
use Rattle.span_io.specs.Tables.{Row, OfFirst, table_here, table_inside, rules_by, IsFree}
use Rattle.thrift_core.specs.FieldValues.{of_id, values_of}
use Rattle.thrift_core.specs.Messages.{FieldItem, StructRest, structs, whole_struct, fields_of}
use Rattle.thrift_core.specs.Parts.{Part, Spelling}
use Rattle.thrift_core.specs.Protocols.{ReadsExactly, PartLaws}
use Rattle.thrift_core.specs.Reading.{ReadingOf}
use Rattle.thrift_core.proofs.StructLaws.{struct_laws}
use Rattle.thrift_core.specs.Trees.{Tree, Fields, no_fields, field_then, StructText}
use Rattle.jaeger_model.proofs.FieldLemmas.{free_fine, values_given}
use Rattle.jaeger_model.proofs.ListLemmas.{least_same}
use Rattle.jaeger_model.proofs.RowKinds.{StructProof}
use Rattle.jaeger_model.proofs.StructRows.{Stands, whole_of}
use Rattle.jaeger_model.proofs.TwoTexts.{Surely, Beside, no_items, twins_then, free_here, free_there, one_number}
use Rattle.jaeger_model.specs.FreeAtAnyDepth.{FieldsPadded, no_more, on_both, inside, on_this, on_that}
use Rattle.jaeger_model.specs.Rows.{given_to, SomeMissing, Missing}

-- what a protocol is known to keep
pub record Keeps (Spells : Spelling) : Type 1 where
  pub reads : ReadingOf
  pub ThenVarint : Part → List ℕ → Type 0
  pub Refuses : Part → Cause → List ℕ → Type 0
  pub exactly : ReadsExactly Spells reads ThenVarint Refuses
  pub parts : PartLaws Spells ThenVarint Refuses

pub format_laws : (Spells : Spelling) → Keeps Spells → (left : ℕ) → FormatLaws (structs Spells left)
format_laws Spells kept left = struct_laws Spells kept.reads kept.ThenVarint kept.Refuses kept.exactly kept.parts left

-- nothing offends in either, or one cause counts in both
abbrev pub SameCause : (ℕ → ℕ → Type 0) → (ℕ → ℕ → Type 0) → Type 0
SameCause Offends Others =
    (((place n : ℕ) → Offends place n → ⊥) × ((place n : ℕ) → Others place n → ⊥)) ⊎ ((cause : Cause) × Least Offends (cause_number cause) × Least Others (cause_number cause))

-- where other words say the same
pub same_moved : (O N Offends Others : ℕ → ℕ → Type 0) → ((p n : ℕ) → O p n → Offends p n) → ((p n : ℕ) → Offends p n → O p n) → ((p n : ℕ) → N p n → Others p n) → ((p n : ℕ) → Others p n → N p n)
    → SameOffence O N → SameOffence Offends Others
same_moved O N Offends Others to from on back (inl none) = inl (λ p n o. none.0 p n (from p n o), λ p n o. none.1 p n (back p n o))
same_moved O N Offends Others to from on back (inr (n, least, same)) = inr (n, least_same O Offends to from n least, least_same N Others on back n same)

pub cause_moved : (O N Offends Others : ℕ → ℕ → Type 0) → ((p n : ℕ) → O p n → Offends p n) → ((p n : ℕ) → Offends p n → O p n) → ((p n : ℕ) → N p n → Others p n) → ((p n : ℕ) → Others p n → N p n)
    → SameCause O N → SameCause Offends Others
cause_moved O N Offends Others to from on back (inl none) = inl (λ p n o. none.0 p n (from p n o), λ p n o. none.1 p n (back p n o))
cause_moved O N Offends Others to from on back (inr (cause, least, same)) =
    inr (cause, least_same O Offends to from (cause_number cause) least, least_same N Others on back (cause_number cause) same)

-- in fields that correspond, nothing offends in any texts of them, or one cause counts in both
abbrev pub StructPair : (A B : Spelling) → ℕ → (Fields → Fields → Type 0) → Rules FieldItem → Rules FieldItem → Type 0
StructPair A B left Padded K J = (f g : Fields) → Padded f g → (a b : List ℕ) → StructText A left f a → StructText B left g b → SameCause (Offence (structs A left) K (whole_struct a)) (Offence (structs B left) J (whole_struct b))

-- this is said of each of them
abbrev pub Each : {X : Type 0} → (X → Type 0) → List X → Type 0
Each Says [] = Unit {0}
Each Says (x ∷ xs) = Says x × Each Says xs

-- by the table of its free fields, and by what may differ inside the others
module _ (A B : Spelling) (left : ℕ) (own : List (Row FieldItem)) (Inside : ℕ → Tree → Tree → Type 0) where
  -- ---- the same field in two texts

  -- what it holds
  abbrev pub Held : ℤ → Tree → Tree → Type 0
  Held id tree other = (tree ≡ other) ⊎ ((n : ℕ) × (id ≡ pos n) × Inside n tree other)

  pub record Twins (item other : FieldItem) : Type 0 where
    pub id : item.id ≡ other.id
    pub held : Held item.id item.tree other.tree
    pub stands : Stands A left item
    pub there : Stands B left other

  -- of no row, whatever its bytes
  abbrev pub Free : FieldItem → Type 0
  Free item = (text : List ℕ) × IsFree own (record { id = item.id; tree = item.tree; text = text })

  abbrev pub Both : List FieldItem → List FieldItem → Type 0
  Both items others = Beside Twins Free Free items others

  front : (item : FieldItem) (items : List FieldItem) (id : ℤ) (tree : Tree) (more : Fields) → fields_of (item ∷ items) ≡ field_then id tree more → (item.id ≡ id) × (item.tree ≡ tree) × (fields_of items ≡ more)
  unfolding fields_of
  front item items id tree more same = (cc, cc, cc)

  some_field : (id : ℤ) (tree : Tree) (more : Fields) → fields_of [] ≡ field_then id tree more → ⊥
  unfolding fields_of
  some_field id tree more same = cc

  no_field : (item : FieldItem) (items : List FieldItem) → fields_of (item ∷ items) ≡ no_fields → ⊥
  unfolding fields_of
  no_field item items same = cc

  free_item : (item free : FieldItem) → item.id ≡ free.id → item.tree ≡ free.tree → IsFree own free → Free item
  free_item item free id tree is = (free.text, subst (λ (x : FieldItem). IsFree own x) (λ i. record { id = sym id i; tree = sym tree i; text = free.text }) is)

  pub both_of : (f g : Fields) → FieldsPadded own Inside f g → (items others : List FieldItem) → fields_of items ≡ f → fields_of others ≡ g → (text other : StructRest) → Whole (structs A left) items text → Whole (structs B left) others other → Both items others
  unfolding Whole
  both_of _ _ no_more [] [] same equal text other whole over = no_items
  both_of _ _ no_more (item ∷ items) others same equal text other whole over = absurd (no_field item items same)
  both_of _ _ no_more [] (item ∷ others) same equal text other whole over = absurd (no_field item others equal)
  both_of _ _ (on_both id tree more rest each) [] others same equal text other whole over = absurd (some_field id tree more same)
  both_of _ _ (on_both id tree more rest each) (this ∷ items) [] same equal text other whole over = absurd (some_field id tree rest equal)
  both_of _ _ (on_both id tree more rest each) (this ∷ items) (twin ∷ others) same equal text other whole over =
      let one = front this items id tree more same in
      let its = front twin others id tree rest equal in
      twins_then this twin items others (record { id = one.0 ∙ sym its.0; held = inl (one.1 ∙ sym its.1); stands = (whole.1.held, whole.1.value); there = (over.1.held, over.1.value) })
      (both_of more rest each items others one.2 its.2 whole.0 over.0 whole.2 over.2)
  both_of _ _ (inside id tree tree_there more rest is each) [] others same equal text other whole over = absurd (some_field (pos id) tree more same)
  both_of _ _ (inside id tree tree_there more rest is each) (this ∷ items) [] same equal text other whole over = absurd (some_field (pos id) tree_there rest equal)
  both_of _ _ (inside id tree tree_there more rest is each) (this ∷ items) (twin ∷ others) same equal text other whole over =
      let one = front this items (pos id) tree more same in
      let its = front twin others (pos id) tree_there rest equal in
      let held = subst (λ (t : Tree). Inside id this.tree t) (sym its.1) (subst (λ (t : Tree). Inside id t tree_there) (sym one.1) is) in
      twins_then this twin items others (record { id = one.0 ∙ sym its.0; held = inr (id, one.0, held); stands = (whole.1.held, whole.1.value); there = (over.1.held, over.1.value) })
      (both_of more rest each items others one.2 its.2 whole.0 over.0 whole.2 over.2)
  both_of _ _ (on_this free more rest is each) [] others same equal text other whole over = absurd (some_field free.id free.tree more same)
  both_of _ _ (on_this free more rest is each) (this ∷ items) others same equal text other whole over =
      let one = front this items free.id free.tree more same in
      free_here this items others (free_item this free one.0 one.1 is) (both_of more rest each items others one.2 equal whole.0 other whole.2 over)
  both_of _ _ (on_that free more rest is each) items [] same equal text other whole over = absurd (some_field free.id free.tree rest equal)
  both_of _ _ (on_that free more rest is each) items (twin ∷ others) same equal text other whole over =
      let its = front twin others free.id free.tree rest equal in
      free_there twin items others (free_item twin free its.0 its.1 is) (both_of more rest each items others same its.2 text over.0 whole over.2)

  -- what fields that are twins give
  pub alike_given : {X : Type 0} (take : Tree → List X) (id : ℕ) (Alike : X → X → Type 0) → ((x : X) → Alike x x)
      → ((n : ℕ) (tree other : Tree) → Inside n tree other → AllZip Alike (of_id take id (pos n) tree) (of_id take id (pos n) other)) → (item other : FieldItem) → Twins item other
      → AllZip Alike (given_to take id item) (given_to take id other)
  alike_given {X} take id Alike self inner item other twins = of twins.held
    where
      of : Held item.id item.tree other.tree → AllZip Alike (given_to take id item) (given_to take id other)
      of (inl same) =
          subst (λ (l : List X). AllZip Alike (given_to take id item) l) (λ i. given_to take id (record { id = twins.id i; tree = same i; text = [] })) (all_zip_self Alike self (given_to take id item))
      of (inr (n, is, within)) =
          subst (λ z. AllZip Alike (of_id take id item.id item.tree) (of_id take id z other.tree)) twins.id
          (subst (λ z. AllZip Alike (of_id take id z item.tree) (of_id take id z other.tree)) (sym is) (inner n item.tree other.tree within))

  -- what such fields give, thing by thing
  pub both_give : {X Y : Type 0} (R : X → Y → Type 0) (give : FieldItem → List X) (take : FieldItem → List Y) → ((item other : FieldItem) → Twins item other → AllZip R (give item) (take other))
      → ((item : FieldItem) → Free item → give item ≡ []) → ((item : FieldItem) → Free item → take item ≡ []) → (items others : List FieldItem) → Both items others → AllZip R (flat_map give items) (flat_map take others)
  both_give R give take each none nothing _ _ no_items = tt
  both_give {X} {Y} R give take each none nothing _ _ (twins_then this twin items others is more) =
      subst (λ (l : List X). AllZip R l (flat_map take (twin ∷ others))) (sym (flat_map-cons give this items))
      (subst (λ (l : List Y). AllZip R (give this ++ flat_map give items) l) (sym (flat_map-cons take twin others))
      (all_zip_append R (give this) (flat_map give items) (take twin) (flat_map take others) (each this twin is) (both_give R give take each none nothing items others more)))
  both_give {X} {Y} R give take each none nothing _ _ (free_here free items others is more) =
      subst (λ (l : List X). AllZip R l (flat_map take others)) (sym (flat_map-cons give free items ∙ ap (λ l. l ++ flat_map give items) (none free is))) (both_give R give take each none nothing items others more)
  both_give {X} {Y} R give take each none nothing _ _ (free_there free items others is more) =
      subst (λ (l : List Y). AllZip R (flat_map give items) l) (sym (flat_map-cons take free others ∙ ap (λ l. l ++ flat_map take others) (nothing free is))) (both_give R give take each none nothing items others more)

  -- what the fields of an id hold
  pub both_hold : {X : Type 0} (take : Tree → List X) (id : ℕ) → ((item : FieldItem) → IsFree own item → given_to take id item ≡ []) → (Alike : X → X → Type 0) → ((x : X) → Alike x x)
      → ((n : ℕ) (tree other : Tree) → Inside n tree other → AllZip Alike (of_id take id (pos n) tree) (of_id take id (pos n) other)) → (items others : List FieldItem) → Both items others
      → AllZip Alike (values_of take id (fields_of items)) (values_of take id (fields_of others))
  both_hold {X} take id passes Alike self inner items others both =
      subst (λ (l : List X). AllZip Alike l (values_of take id (fields_of others))) (values_given take id items)
      (subst (λ (l : List X). AllZip Alike (flat_map (λ (item : FieldItem). given_to take id item) items) l) (values_given take id others)
      (both_give Alike (λ item. given_to take id item) (λ item. given_to take id item) (alike_given take id Alike self inner) (λ item free. passes (record { id = item.id; tree = item.tree; text = free.0 }) free.1)
      (λ item free. passes (record { id = item.id; tree = item.tree; text = free.0 }) free.1) items others both))

  -- ---- rows

  -- a row in two protocols
  pub record RowPair (row that : Row FieldItem) : Type 1 where
    pub Alike : row.Given → that.Given → Type 0
    pub given : (item other : FieldItem) → Twins item other → AllZip Alike (row.given item) (that.given other)
    pub passes : (item : FieldItem) → Free item → row.given item ≡ []
    pub passes_too : (item : FieldItem) → Free item → that.given item ≡ []
    pub one : (earlier : List row.Given) (others : List that.Given) → AllZip Alike earlier others → (x : row.Given) (y : that.Given) → Alike x y
        → Surely (SameOffence (HereOrInside (λ n. row.here earlier x n) (λ p n. row.inside x p n)) (HereOrInside (λ n. that.here others y n) (λ p n. that.inside y p n)))

  -- so of each row of a table
  pub data TablePair : List (Row FieldItem) → List (Row FieldItem) → Type 1 where
    no_rows : TablePair [] []
    row_then : (row that : Row FieldItem) (table those : List (Row FieldItem)) → RowPair row that → TablePair table those → TablePair (row ∷ table) (that ∷ those)

  -- what such rows give to each other's fields
  pub pair_given : (row that : Row FieldItem) (pair : RowPair row that) (seen past : List FieldItem) → Both seen past → AllZip pair.Alike (flat_map row.given seen) (flat_map that.given past)
  pair_given row that pair seen past before = both_give pair.Alike row.given that.given pair.given pair.passes pair.passes_too seen past before

  -- free fields are of no row of either
  frees : (table those : List (Row FieldItem)) → TablePair table those → (item : FieldItem) → Free item → IsFree table item × IsFree those item
  frees _ _ no_rows item free = (tt, tt)
  frees _ _ (row_then row that table those pair pairs) item free = let more = frees table those pairs item free in ((pair.passes item free, more.0), (pair.passes_too item free, more.1))

  -- ---- what offends in one field

  abbrev pub SameItem : List (Row FieldItem) → List (Row FieldItem) → List FieldItem → List FieldItem → FieldItem → FieldItem → Type 0
  SameItem table those seen past this twin =
      SameOffence (HereOrInside (λ n. table_here table seen this n) (λ p n. table_inside table this p n)) (HereOrInside (λ n. table_here those past twin n) (λ p n. table_inside those twin p n))

  pub of_items : (table those : List (Row FieldItem)) → TablePair table those → (seen past : List FieldItem) → Both seen past → (this twin : FieldItem) → Twins this twin → Surely (SameItem table those seen past this twin)
  of_items _ _ no_rows seen past before this twin twins not = not (inl (none_in_item (λ n. ⊥) (λ p n. ⊥) (λ n h. h) (λ p n h. h), none_in_item (λ n. ⊥) (λ p n. ⊥) (λ n h. h) (λ p n h. h)))
  of_items _ _ (row_then row that table those pair pairs) seen past before this twin twins not =
      of (row.given this) (that.given twin) (pair.given this twin twins) (of_items table those pairs seen past before this twin twins) not
    where
      of : (xs : List row.Given) (ys : List that.Given) → AllZip pair.Alike xs ys → Surely (SameItem table those seen past this twin)
          → Surely (SameOffence (HereOrInside (λ n. OfFirst xs (λ x. row.here (flat_map row.given seen) x n) (table_here table seen this n)) (λ p n. OfFirst xs (λ x. row.inside x p n) (table_inside table this p n)))
          (HereOrInside (λ n. OfFirst ys (λ y. that.here (flat_map that.given past) y n) (table_here those past twin n)) (λ p n. OfFirst ys (λ y. that.inside y p n) (table_inside those twin p n))))
      of [] [] each rest = rest
      of [] (y ∷ ys) each rest = absurd each
      of (x ∷ xs) [] each rest = absurd each
      of (x ∷ xs) (y ∷ ys) each rest = pair.one (flat_map row.given seen) (flat_map that.given past) (pair_given row that pair seen past before) x y each.0

  -- ---- what is missing at the end

  pub none_too : {X Y : Type 0} (R : X → Y → Type 0) (xs : List X) (ys : List Y) → AllZip R xs ys → (xs ≡ []) ↔ (ys ≡ [])
  none_too R [] [] each = (λ none. refl, λ none. refl)
  none_too R [] (y ∷ ys) each = absurd each
  none_too R (x ∷ xs) [] each = absurd each
  none_too R (x ∷ xs) (y ∷ ys) each = (λ none. cc, λ none. cc)

  some_missing : (rows those : List (Row FieldItem)) → TablePair rows those → (seen past : List FieldItem) → Both seen past → SomeMissing rows seen ↔ SomeMissing those past
  some_missing _ _ no_rows seen past before = (λ h. h, λ h. h)
  some_missing _ _ (row_then row that rows those pair pairs) seen past before =
      of (none_too pair.Alike (flat_map row.given seen) (flat_map that.given past) (pair_given row that pair seen past before)) (some_missing rows those pairs seen past before)
    where
      of : (flat_map row.given seen ≡ []) ↔ (flat_map that.given past ≡ []) → SomeMissing rows seen ↔ SomeMissing those past → SomeMissing (row ∷ rows) seen ↔ SomeMissing (that ∷ those) past
      of first others = (on, back)
        where
          on : SomeMissing (row ∷ rows) seen → SomeMissing (that ∷ those) past
          on (inl none) = inl (first.0 none)
          on (inr more) = inr (others.0 more)

          back : SomeMissing (that ∷ those) past → SomeMissing (row ∷ rows) seen
          back (inl none) = inl (first.1 none)
          back (inr more) = inr (others.1 more)

  pub missing_too : (rows those : List (Row FieldItem)) → TablePair rows those → (seen past : List FieldItem) → Both seen past → (n : ℕ) → Missing rows seen n ↔ Missing those past n
  missing_too rows those pairs seen past before n =
      let some = some_missing rows those pairs seen past before in (λ h. (h.0, some.0 h.1), λ h. (h.0, some.1 h.1))

  -- ---- a struct

  module _ (k : Keeps A) (j : Keeps B) (table those : List (Row FieldItem)) (pairs : TablePair table those) (ends : List FieldItem → ℕ → Type 0)
      (of_ends : (seen past : List FieldItem) → Both seen past → (n : ℕ) → ends seen n ↔ ends past n) {X : Type 0} (Is : X → Fields → Type 0) (means : (f g : Fields) → FieldsPadded own Inside f g → (x : X) → Is x f ↔ Is x g)
      (S : StructProof A left Is (rules_by table ends)) (T : StructProof B left Is (rules_by those ends)) where
    abbrev Offends : List ℕ → ℕ → ℕ → Type 0
    Offends text p n = Offence (structs A left) (rules_by table ends) (whole_struct text) p n

    abbrev Others : List ℕ → ℕ → ℕ → Type 0
    Others text p n = Offence (structs B left) (rules_by those ends) (whole_struct text) p n

    numbers : (f g : Fields) → FieldsPadded own Inside f g → (a b : List ℕ) → StructText A left f a → StructText B left g b → (n m : ℕ) → Least (Offends a) n → Least (Others b) m → n ≡ m
    numbers f g padded a b stands there n m least same =
        let whole = whole_of A left f (pos 0) a stands in
        let over = whole_of B left g (pos 0) b there in
        one_number (structs A left) (structs B left) (format_laws A k left) (format_laws B j left) (rules_by table ends) (rules_by those ends) S.laws T.laws Twins Free Free
        (λ seen free is. free_fine table seen free (frees table those pairs free is).0) (λ past free is. free_fine those past free (frees table those pairs free is).1) (of_items table those pairs) of_ends
        (whole_struct a) (whole_struct b) n m least same whole.0 over.0 (both_of f g padded whole.0 over.0 whole.1 over.1 (whole_struct a) (whole_struct b) whole.2 over.2) whole.2 over.2

    pub struct_pair : StructPair A B left (FieldsPadded own Inside) (rules_by table ends) (rules_by those ends)
    struct_pair f g padded a b stands there = of (S.some f a stands) (T.some g b there)
      where
        of : ((x : X) × Is x f) ⊎ ((cause : Cause) × Least (Offends a) (cause_number cause)) → ((x : X) × Is x g) ⊎ ((cause : Cause) × Least (Others b) (cause_number cause))
            → SameCause (Offends a) (Others b)
        of (inl (x, is)) other = inl (S.fine x f a stands is, T.fine x g b there ((means f g padded x).0 is))
        of (inr (cause, least)) (inl (x, is)) = absurd (S.fine x f a stands ((means f g padded x).1 is) least.place (cause_number cause) least.offence)
        of (inr (cause, least)) (inr (its, same)) =
            inr (cause, least, subst (λ n. Least (Others b) n) (sym (numbers f g padded a b stands there (cause_number cause) (cause_number its) least same)) same)
