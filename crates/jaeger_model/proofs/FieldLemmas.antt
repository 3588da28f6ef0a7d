-- A field of a row, by its id and its type: what it holds, and that what it holds stands at the cursor.
use Rattle.std.proofs.Common.{◌≡◌, ◌++◌, ◌∷◌, ◌==◌, if◌then◌else◌, ℕ, ℤ, pos, negsuc, Bool, true, false, List, [], Option, Some, Result, Ok, Err, OnOk, refl, sym, ap, subst, ◌∙◌}
use Rattle.std.proofs.lemmas.Bool.{eqb-true, eq-eqb}
use Rattle.std.specs.List.{flat_map}
use Rattle.std.proofs.lemmas.List.Concat.{flat_map-cons}
use Rattle.std.specs.Option.{unwrap_or}
use Rattle.span_io.proofs.OffenceLaws.{none_in_item}
use Rattle.span_io.proofs.RowLaws.{singular_or}
use Rattle.span_io.specs.RowsSoFar.{Gave}
use Rattle.span_io.specs.Offences.{Format, HereOrInside}
use Rattle.span_io.proofs.TableLaws.{TableShape, givens_more, free_here, free_inside, free_with}
use Rattle.span_io.specs.Tables.{Row, Singular, Givens, givens, givens_with, IsFree, table_here, table_inside}
use Rattle.thrift_core.specs.declared.field.Field.{Field}
use Rattle.thrift_core.specs.declared.type_code.TypeCode.{TypeCode}
use Rattle.thrift_core.specs.declared.type_code.TypeCode.TheVariants as kinds
use Rattle.thrift_core.specs.FieldValues.{of_id, values_of, truth_in, i32_in, i64_in, double_in, binary_in}
use Rattle.thrift_core.specs.Messages.{FieldItem, fields_of}
use Rattle.thrift_core.specs.private.StandingFields.{FieldStands}
use Rattle.thrift_core.proofs.OneReading.{Content, tree_of, of_kind, own_text}
use Rattle.thrift_core.specs.Parts.{Spelling, Begins, truth, int, long, eight}
use Rattle.thrift_core.specs.Trees.{truth_value, i8, i16, i32, i64, double, Tree, leaf, binary, structure, map_of, set_of, list_of, kind_of, BinaryThen, ValueThen}
use Rattle.thrift_core.specs.Values.{BeginsValue}
use Rattle.jaeger_model.specs.Meanings.{MeansEnum}
use Rattle.jaeger_model.specs.Rows.{given_to}

-- the field, by its id and what it holds
abbrev pub field_of : ℤ → (kind : TypeCode) → Content kind → List ℕ → FieldItem
field_of id kind held text = record { id = id; tree = tree_of kind held; text = text }

pub record Holds (Spells : Spelling) (left : ℕ) (found : Field) (item : FieldItem) (whole rest : List ℕ) (id : ℤ) (kind : TypeCode) : Type 0 where
  pub held : Content kind
  pub is : item ≡ field_of id kind held item.text
  pub stands : ValueThen Spells (tree_of kind held) left found.held whole rest

module _ (Spells : Spelling) (left : ℕ) (found : Field) (item : FieldItem) (whole rest : List ℕ) where
  pub value_there : FieldStands Spells left found item whole rest → ValueThen Spells item.tree left found.held whole rest
  value_there s = subst (λ l. ValueThen Spells item.tree left found.held l rest) (sym s.parts) (own_text Spells item.tree left found.held item.text rest s.value)

  pub begins_value : FieldStands Spells left found item whole rest → BeginsValue Spells left found.kind found.held whole rest
  begins_value s = (item.tree, s.kind, value_there s)

  pub holds : FieldStands Spells left found item whole rest → (id : ℤ) (kind : TypeCode) → found.id ≡ id → found.kind ≡ kind → Holds Spells left found item whole rest id kind
  holds s id kind same_id same_kind =
      let x = of_kind item.tree kind (s.kind ∙ same_kind) in
      let ids : item.id ≡ id = s.id ∙ same_id in
      record {
        held = x.0;
        is = λ i. record { id = ids i; tree = x.1 i; text = item.text };
        stands = subst (λ (t : Tree). ValueThen Spells t left found.held whole rest) x.1 (value_there s);
      }

  -- what stands there, by its type
  pub binary_there : (h : List ℕ) → ValueThen Spells (binary h) left found.held whole rest → BinaryThen Spells h whole rest
  unfolding ValueThen
  binary_there h s = s

  pub int_there : (n : ℤ) → ValueThen Spells (leaf (i32 n)) left found.held whole rest → Begins Spells int n whole rest
  unfolding ValueThen
  int_there n s = s

  pub long_there : (n : ℤ) → ValueThen Spells (leaf (i64 n)) left found.held whole rest → Begins Spells long n whole rest
  unfolding ValueThen
  long_there n s = s

  pub truth_there : (b : Bool) → ValueThen Spells (leaf (truth_value b)) left found.held whole rest → Begins Spells (truth found.held) b whole rest
  unfolding ValueThen
  truth_there b s = s

  pub eight_there : (h : List ℕ) → ValueThen Spells (leaf (double h)) left found.held whole rest → Begins Spells eight h whole rest
  unfolding ValueThen
  eight_there h s = s

-- ---- what is gathered with one field more

-- where it is this field
pub gathered_more : (F : Format) (top : ℕ) (table : List (Row F.Item)) → TableShape F table top → (Gathered : Givens table → Type 0) (seen : List F.Item) (item same : F.Item) → item ≡ same
    → Gathered (givens_with table (givens table seen) same) → Gathered (givens table (seen ++ item ∷ []))
gathered_more F top table shape Gathered seen item same e h =
    subst Gathered (sym (givens_more F top table shape seen item)) (subst (λ (x : F.Item). Gathered (givens_with table (givens table seen) x)) (sym e) h)

-- where it is of no row
pub gathered_free : (F : Format) (top : ℕ) (table : List (Row F.Item)) → TableShape F table top → (Gathered : Givens table → Type 0) (seen : List F.Item) (item : F.Item) → IsFree table item → Gathered (givens table seen)
    → Gathered (givens table (seen ++ item ∷ []))
gathered_free F top table shape Gathered seen item free h = subst Gathered (sym (givens_more F top table shape seen item ∙ free_with table (givens table seen) item free)) h

pub free_fine : {Item : Type 0} (table : List (Row Item)) (seen : List Item) (item : Item) → IsFree table item → (place n : ℕ) → HereOrInside (table_here table seen item) (table_inside table item) place n → ⊥
free_fine table seen item free = none_in_item (λ n. table_here table seen item n) (λ p n. table_inside table item p n) (λ n wrong. free_here table seen item free n wrong) (λ p n wrong. free_inside table item free p n wrong)

-- what follows of an answer that isn't a refusal
pub ok_then : {T E : Type 0} (A B : Type 0) (answer : Result T E) → (A → B) → OnOk answer A → OnOk answer B
ok_then A B (Ok x) f a = f a
ok_then A B (Err e) f a = a

-- ---- fields of no row

-- a field of another id or of another type than these
abbrev pub Unknown : List (ℕ × TypeCode) → ℕ → TypeCode → Type 0
Unknown [] id kind = Unit {0}
Unknown (key ∷ keys) id kind = (id ≡ key.0 → kind ≡ key.1 → ⊥) × Unknown keys id kind

abbrev pub IfSame : Bool → Type 0 → Type 0
IfSame true P = P
IfSame false P = Unit {0}

-- of these the ones of this id have this type
abbrev pub TypeAt : ℕ → TypeCode → List (ℕ × TypeCode) → Type 0
TypeAt id kind [] = Unit {0}
TypeAt id kind (key ∷ keys) = IfSame (key.0 == id) (key.1 ≡ kind) × TypeAt id kind keys

other_id : (j k : ℕ) (J K : TypeCode) (b : Bool) → (j == k) ≡ b → IfSame b (J ≡ K) → (bits : ℕ) (kind : TypeCode) → bits ≡ k → (kind ≡ K → ⊥) → bits ≡ j → kind ≡ J → ⊥
other_id j k J K true e same bits kind is not at of = not (of ∙ same)
other_id j k J K false e same bits kind is not at of = differs (eq-eqb j k)
  where
    differs : (j ≡ k → (j == k) ≡ true) → ⊥
    differs f = let never : true ≡ false = sym (f (sym at ∙ is)) ∙ e in cc

pub unknown_type : (keys : List (ℕ × TypeCode)) (bits : ℕ) (kind : TypeCode) (k : ℕ) (K : TypeCode) → bits ≡ k → (kind ≡ K → ⊥) → TypeAt k K keys → Unknown keys bits kind
unknown_type [] bits kind k K is not at = tt
unknown_type (key ∷ keys) bits kind k K is not at = (other_id key.0 k key.1 K (key.0 == k) refl at.0 bits kind is not, unknown_type keys bits kind k K is not at.1)

-- ---- what gives nothing to a row

pub truth_none : (tree : Tree) → (kind_of tree ≡ kinds.Truth → ⊥) → truth_in tree ≡ []
truth_none (leaf (truth_value b)) not = absurd (not refl)
truth_none (leaf (i8 n)) not = refl
truth_none (leaf (i16 n)) not = refl
truth_none (leaf (i32 n)) not = refl
truth_none (leaf (i64 n)) not = refl
truth_none (leaf (double h)) not = refl
truth_none (binary h) not = refl
truth_none (structure inner) not = refl
truth_none (map_of pairs) not = refl
truth_none (set_of trees) not = refl
truth_none (list_of trees) not = refl

pub i32_none : (tree : Tree) → (kind_of tree ≡ kinds.I32 → ⊥) → i32_in tree ≡ []
i32_none (leaf (truth_value b)) not = refl
i32_none (leaf (i8 n)) not = refl
i32_none (leaf (i16 n)) not = refl
i32_none (leaf (i32 n)) not = absurd (not refl)
i32_none (leaf (i64 n)) not = refl
i32_none (leaf (double h)) not = refl
i32_none (binary h) not = refl
i32_none (structure inner) not = refl
i32_none (map_of pairs) not = refl
i32_none (set_of trees) not = refl
i32_none (list_of trees) not = refl

pub i64_none : (tree : Tree) → (kind_of tree ≡ kinds.I64 → ⊥) → i64_in tree ≡ []
i64_none (leaf (truth_value b)) not = refl
i64_none (leaf (i8 n)) not = refl
i64_none (leaf (i16 n)) not = refl
i64_none (leaf (i32 n)) not = refl
i64_none (leaf (i64 n)) not = absurd (not refl)
i64_none (leaf (double h)) not = refl
i64_none (binary h) not = refl
i64_none (structure inner) not = refl
i64_none (map_of pairs) not = refl
i64_none (set_of trees) not = refl
i64_none (list_of trees) not = refl

pub double_none : (tree : Tree) → (kind_of tree ≡ kinds.Eight → ⊥) → double_in tree ≡ []
double_none (leaf (truth_value b)) not = refl
double_none (leaf (i8 n)) not = refl
double_none (leaf (i16 n)) not = refl
double_none (leaf (i32 n)) not = refl
double_none (leaf (i64 n)) not = refl
double_none (leaf (double h)) not = absurd (not refl)
double_none (binary h) not = refl
double_none (structure inner) not = refl
double_none (map_of pairs) not = refl
double_none (set_of trees) not = refl
double_none (list_of trees) not = refl

pub binary_none : (tree : Tree) → (kind_of tree ≡ kinds.Binary → ⊥) → binary_in tree ≡ []
binary_none (leaf (truth_value b)) not = refl
binary_none (leaf (i8 n)) not = refl
binary_none (leaf (i16 n)) not = refl
binary_none (leaf (i32 n)) not = refl
binary_none (leaf (i64 n)) not = refl
binary_none (leaf (double h)) not = refl
binary_none (binary h) not = absurd (not refl)
binary_none (structure inner) not = refl
binary_none (map_of pairs) not = refl
binary_none (set_of trees) not = refl
binary_none (list_of trees) not = refl

pub given_none : {A : Type 0} (take : Tree → List A) (id : ℕ) (kind : TypeCode) → ((tree : Tree) → (kind_of tree ≡ kind → ⊥) → take tree ≡ []) → (item : FieldItem) → (item.id ≡ pos id → kind_of item.tree ≡ kind → ⊥)
    → given_to take id item ≡ []
given_none take id kind none item other = of item.id other
  where
    if_id : (n : ℕ) (b : Bool) → (n == id) ≡ b → (pos n ≡ pos id → kind_of item.tree ≡ kind → ⊥) → (if b then take item.tree else []) ≡ []
    if_id n true e other = none item.tree (other (ap pos (eqb-true n id e)))
    if_id n false e other = refl

    of : (its : ℤ) → (its ≡ pos id → kind_of item.tree ≡ kind → ⊥) → of_id take id its item.tree ≡ []
    of (pos n) other = if_id n (n == id) refl other
    of (negsuc n) other = refl

-- ---- what fields give to a row, and what the fields of that id hold

pub values_given : {A : Type 0} (take : Tree → List A) (id : ℕ) (items : List FieldItem) → flat_map (λ (item : FieldItem). given_to take id item) items ≡ values_of take id (fields_of items)
unfolding values_of fields_of
values_given take id [] = refl
values_given take id (item ∷ items) =
    flat_map-cons (λ (i : FieldItem). given_to take id i) item items ∙ ap (λ l. given_to take id item ++ l) (values_given take id items)

module _ {A B : Type 0} (take : Tree → List A) (id : ℕ) (Means : A → B → Type 0) (items : List FieldItem) where
  -- a required field that was gathered
  pub required_held : (row : Option B) (value : B) → row ≡ Some value → Gave Means (flat_map (λ (item : FieldItem). given_to take id item) items) row → Singular Means (λ x. ⊥) (values_of take id (fields_of items)) value
  required_held row value e gave =
      subst (λ (l : List A). Singular Means (λ x. ⊥) l value) (values_given take id items) (one (flat_map (λ (item : FieldItem). given_to take id item) items) (subst (λ (r : Option B). Gave Means (flat_map (λ (item : FieldItem). given_to take id item) items) r) e gave))
    where
      one : (xs : List A) → Gave Means xs (Some value) → Singular Means (λ x. ⊥) xs value
      one [] gave = absurd gave
      one (x ∷ []) gave = gave
      one (x ∷ y ∷ more) gave = absurd gave

  -- an optional one
  pub optional_held : (IsDefault : B → Type 0) (row : Option B) (default value : B) → value ≡ unwrap_or row default → IsDefault default → Gave Means (flat_map (λ (item : FieldItem). given_to take id item) items) row
      → Singular Means IsDefault (values_of take id (fields_of items)) value
  optional_held IsDefault row default value e is gave =
      subst (λ (l : List A). Singular Means IsDefault l value) (values_given take id items) (singular_or Means IsDefault (flat_map (λ (item : FieldItem). given_to take id item) items) row default value e is gave)

-- by the numbers of an enum
pub numbers_held : {E : Type 0} (number_of : E → ℕ) (held : List ℤ) (value : E) → Singular (MeansEnum number_of) (λ x. ⊥) held value → Singular (λ n k. n ≡ pos k) (λ x. ⊥) held (number_of value)
numbers_held number_of [] value h = absurd h
numbers_held number_of (x ∷ []) value h = h
numbers_held number_of (x ∷ y ∷ more) value h = absurd h
