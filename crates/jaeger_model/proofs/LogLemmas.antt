-- The tables of a log and of a process, whose lists hold tags.
use Rattle.std.proofs.Common.{◌≡◌, ◌-◌, ◌∷◌, ◌⊎◌, inl, inr, [], ℕ, zero, suc, Bool, List, Option, Some, None, of_z, w16, refl, sym, ap, subst, ◌∙◌, arith}
use Rattle.std.specs.Prelude.{map}
use Rattle.std.specs.List.{flat_map}
use Rattle.span_io.specs.Offences.{FormatLaws, RulesLaws}
use Rattle.span_io.specs.RowsSoFar.{Gave}
use Rattle.span_io.specs.Tables.{IsFree}
use Rattle.span_io.proofs.TableLaws.{TableShape, table_rules}
use Rattle.thrift_core.specs.declared.field.Field.{Field}
use Rattle.thrift_core.specs.declared.type_code.TypeCode.{TypeCode}
use Rattle.thrift_core.specs.declared.type_code.TypeCode.TheVariants as kinds
use Rattle.thrift_core.specs.FieldValues.{values_of, i64_in, binary_in, list_in, EachStruct}
use Rattle.thrift_core.specs.Messages.{FieldItem, structs, fields_of}
use Rattle.thrift_core.specs.private.StandingFields.{FieldStands}
use Rattle.thrift_core.specs.Parts.{Spelling}
use Rattle.thrift_core.specs.Trees.{truth_value, i8, i16, i32, i64, double, Tree, leaf, binary, structure, map_of, set_of, list_of, Fields, Trees, kind_of, ValueThen}
use Rattle.jaeger_model.proofs.FieldLemmas.{Unknown, given_none, i64_none, binary_none, values_given}
use Rattle.jaeger_model.proofs.RowShapes.{long_shape, binary_shape, structures_shape}
use Rattle.jaeger_model.proofs.SpanLemmas.{lists_given}
use Rattle.jaeger_model.proofs.TagLemmas.{tag_laws}
use Rattle.jaeger_model.specs.InnerRows.{with_text}
use Rattle.jaeger_model.specs.private.ListsSoFar.{MeansEach}
use Rattle.jaeger_model.specs.Log.{log_table, log_ends, log_rules}
use Rattle.jaeger_model.specs.Meanings.{Required}
use Rattle.jaeger_model.specs.Process.{process_table, process_ends, process_rules}
use Rattle.jaeger_model.specs.Rows.{given_to}
use Rattle.jaeger_model.specs.Tag.{tag_rules}

module _ (Spells : Spelling) (laws : (m : ℕ) → FormatLaws (structs Spells m)) (left : ℕ) where
  pub log_shape : TableShape (structs Spells left) (log_table Spells left) 0
  log_shape = (long_shape Spells left 0 1 _ _ _ _, (structures_shape Spells laws left 0 (left - 2) tag_rules (tag_laws Spells (left - 2) (laws (left - 2))) 2 _ _ _, tt))

  pub log_laws : RulesLaws (structs Spells left) (log_rules Spells left)
  log_laws = table_rules (structs Spells left) (laws left) (log_table Spells left) 0 log_shape log_ends (λ bare seen n h. omega arith)

  pub process_shape : TableShape (structs Spells left) (process_table Spells left) 0
  process_shape = (binary_shape Spells left 0 1 _ _ _ _, (structures_shape Spells laws left 0 (left - 2) tag_rules (tag_laws Spells (left - 2) (laws (left - 2))) 2 _ _ _, tt))

  pub process_laws : RulesLaws (structs Spells left) (process_rules Spells left)
  process_laws = table_rules (structs Spells left) (laws left) (process_table Spells left) 0 process_shape process_ends (λ bare seen n h. omega arith)

-- ---- fields of no row

pub list_none : (tree : Tree) → (kind_of tree ≡ kinds.List → ⊥) → list_in tree ≡ []
list_none (leaf (truth_value b)) not = refl
list_none (leaf (i8 n)) not = refl
list_none (leaf (i16 n)) not = refl
list_none (leaf (i32 n)) not = refl
list_none (leaf (i64 n)) not = refl
list_none (leaf (double h)) not = refl
list_none (binary h) not = refl
list_none (structure inner) not = refl
list_none (map_of pairs) not = refl
list_none (set_of trees) not = refl
list_none (list_of trees) not = absurd (not refl)

abbrev pub log_keys : List (ℕ × TypeCode)
log_keys = (1, kinds.I64) ∷ (2, kinds.List) ∷ []

abbrev pub process_keys : List (ℕ × TypeCode)
process_keys = (1, kinds.Binary) ∷ (2, kinds.List) ∷ []

module _ (Spells : Spelling) (left : ℕ) (item : FieldItem) (found : Field) (id : item.id ≡ found.id) (kind : kind_of item.tree ≡ found.kind) where
  pub log_free : Unknown log_keys (of_z w16 found.id) found.kind → IsFree (log_table Spells left) item
  log_free u = (
    given_none i64_in 1 kinds.I64 i64_none item (λ at of. u.0 (ap (of_z w16) (sym id ∙ at)) (sym kind ∙ of)),
    (ap (λ (l : List Trees). with_text item.text l) (given_none list_in 2 kinds.List list_none item (λ at of. u.1.0 (ap (of_z w16) (sym id ∙ at)) (sym kind ∙ of))), tt),
  )

  pub process_free : Unknown process_keys (of_z w16 found.id) found.kind → IsFree (process_table Spells left) item
  process_free u = (
    given_none binary_in 1 kinds.Binary binary_none item (λ at of. u.0 (ap (of_z w16) (sym id ∙ at)) (sym kind ∙ of)),
    (ap (λ (l : List Trees). with_text item.text l) (given_none list_in 2 kinds.List list_none item (λ at of. u.1.0 (ap (of_z w16) (sym id ∙ at)) (sym kind ∙ of))), tt),
  )

-- ---- a field that holds a list, by its own text

without_held : (Spells : Spelling) (trees : Trees) (left : ℕ) (held : Option Bool) (text : List ℕ) → ValueThen Spells (list_of trees) left held text [] → ValueThen Spells (list_of trees) left None text []
unfolding ValueThen
without_held Spells trees zero held text h = absurd h
without_held Spells trees (suc left) held text h = h

pub its_list : (Spells : Spelling) (left : ℕ) (found : Field) (item : FieldItem) (whole rest : List ℕ) → FieldStands Spells left found item whole rest → (trees : Trees) → item.tree ≡ list_of trees → ValueThen Spells (list_of trees) left None item.text []
its_list Spells left found item whole rest s trees is = without_held Spells trees left found.held item.text (subst (λ (t : Tree). ValueThen Spells t left found.held item.text []) is s.value)

-- ---- what was gathered

-- a required list
pub list_required : {B : Type 0} (Is : B → Fields → Type 0) (id : ℕ) (items : List FieldItem) (row : Option (List B)) (value : List B) → row ≡ Some value
    → Gave (MeansEach Is) (flat_map (λ (item : FieldItem). with_text item.text (given_to list_in id item)) items) row → Required (λ trees xs. EachStruct Is trees xs) (values_of list_in id (fields_of items)) value
list_required {B} Is id items row value is gave =
    subst (λ (l : List Trees). Required (λ trees xs. EachStruct Is trees xs) l value) (lists_given id items)
    (of (flat_map (λ (item : FieldItem). with_text item.text (given_to list_in id item)) items) (subst (λ (r : Option (List B)). Gave (MeansEach Is) (flat_map (λ (item : FieldItem). with_text item.text (given_to list_in id item)) items) r) is gave))
  where
    of : (xs : List (Trees × List ℕ)) → Gave (MeansEach Is) xs (Some value) → Required (λ trees ys. EachStruct Is trees ys) (map (λ (x : Trees × List ℕ). x.0) xs) value
    of [] gave = absurd gave
    of (x ∷ []) gave = gave.0
    of (x ∷ y ∷ more) gave = absurd gave

pub none_given : {A B : Type 0} (M : A → B → Type 0) (xs : List A) (row : Option B) → row ≡ None → Gave M xs row → xs ≡ []
none_given {A} {B} M xs row is gave = of xs (subst (λ (r : Option B). Gave M xs r) is gave)
  where
    of : (xs : List A) → Gave M xs None → xs ≡ []
    of [] gave = refl
    of (x ∷ []) gave = absurd gave
    of (x ∷ y ∷ more) gave = absurd gave

pub no_field : {A B : Type 0} (take : Tree → List A) (id : ℕ) (M : A → B → Type 0) (items : List FieldItem) (row : Option B) → row ≡ None → Gave M (flat_map (λ (item : FieldItem). given_to take id item) items) row
    → values_of take id (fields_of items) ≡ []
no_field take id M items row is gave = sym (values_given take id items) ∙ none_given M (flat_map (λ (item : FieldItem). given_to take id item) items) row is gave

pub no_list : {B : Type 0} (M : Trees × List ℕ → B → Type 0) (id : ℕ) (items : List FieldItem) (row : Option B) → row ≡ None → Gave M (flat_map (λ (item : FieldItem). with_text item.text (given_to list_in id item)) items) row
    → values_of list_in id (fields_of items) ≡ []
no_list M id items row is gave =
    sym (lists_given id items) ∙ ap (λ (l : List (Trees × List ℕ)). map (λ (x : Trees × List ℕ). x.0) l) (none_given M (flat_map (λ (item : FieldItem). with_text item.text (given_to list_in id item)) items) row is gave)

-- nothing required is missing
pub both_held : {A B C D : Type 0} (M : A → B → Type 0) (N : C → D → Type 0) (xs : List A) (ys : List C) (x : B) (y : D) → Required M xs x → Required N ys y → (n : ℕ) → (n ≡ 8) × ((xs ≡ []) ⊎ (ys ≡ [])) → ⊥
both_held {A} {B} {C} {D} M N xs ys x y h k n (e, inl none) = absurd (subst (λ (l : List A). Required M l x) none h)
both_held {A} {B} {C} {D} M N xs ys x y h k n (e, inr none) = absurd (subst (λ (l : List C). Required N l y) none k)
