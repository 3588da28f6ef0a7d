-- The table of a batch.
use Rattle.std.proofs.Common.{◌≡◌, ◌-◌, ◌∷◌, ◌++◌, [], ℕ, zero, suc, Bool, Option, Some, None, Err, List, of_z, w16, refl, sym, ap, subst, ◌∙◌, arith}
use Rattle.std.specs.Prelude.{map}
use Rattle.std.specs.List.{flat_map}
use Rattle.std.proofs.lemmas.List.{map-append}
use Rattle.std.proofs.lemmas.List.Concat.{flat_map-cons}
use Rattle.span_io.specs.declared.cause.Cause.{Cause}
use Rattle.span_io.specs.declared.halt.Halt.{Halt}
use Rattle.span_io.specs.declared.halt.Halt.TheVariants as halts
use Rattle.span_io.specs.Offences.{OnHalt, Judges}
use Rattle.span_io.specs.Offences.{FormatLaws, RulesLaws}
use Rattle.span_io.specs.RowsSoFar.{Gave}
use Rattle.span_io.specs.Tables.{IsFree}
use Rattle.span_io.proofs.TableLaws.{TableShape, table_rules}
use Rattle.thrift_core.specs.declared.field.Field.{Field}
use Rattle.thrift_core.specs.declared.type_code.TypeCode.{TypeCode}
use Rattle.thrift_core.specs.declared.type_code.TypeCode.TheVariants as kinds
use Rattle.thrift_core.specs.FieldValues.{values_of, i64_in, struct_in, list_in}
use Rattle.thrift_core.specs.Messages.{FieldItem, structs, fields_of}
use Rattle.thrift_core.specs.private.StandingFields.{FieldStands}
use Rattle.thrift_core.specs.Parts.{Spelling}
use Rattle.thrift_core.specs.Trees.{truth_value, i8, i16, i32, i64, double, Tree, leaf, binary, structure, map_of, set_of, list_of, Fields, Trees, kind_of, ValueThen}
use Rattle.jaeger_model.proofs.FieldLemmas.{Unknown, given_none, i64_none, values_given}
use Rattle.jaeger_model.proofs.LogLemmas.{list_none, none_given, process_laws}
use Rattle.jaeger_model.proofs.RowShapes.{given_few, struct_few, plain_shape, long_shape, structure_shape, structures_shape}
use Rattle.jaeger_model.proofs.SpanTable.{span_laws}
use Rattle.jaeger_model.specs.Batch.{AtMostOne, batch_table, batch_ends, batch_rules}
use Rattle.jaeger_model.specs.InnerRows.{with_text}
use Rattle.jaeger_model.specs.private.ListsSoFar.{MeansOne}
use Rattle.jaeger_model.specs.Meanings.{Required}
use Rattle.jaeger_model.specs.Process.{process_rules}
use Rattle.jaeger_model.specs.Rows.{given_to}
use Rattle.jaeger_model.specs.Span.{jspan_rules}

module _ (Spells : Spelling) (laws : (m : ℕ) → FormatLaws (structs Spells m)) (left : ℕ) where
  pub batch_shape : TableShape (structs Spells left) (batch_table Spells left) 0
  batch_shape = (
    structure_shape Spells laws left 0 (left - 1) (process_rules Spells (left - 1)) (process_laws Spells laws (left - 1)) 1 _ _ _,
    (
      structures_shape Spells laws left 0 (left - 2) (jspan_rules Spells (left - 2)) (span_laws Spells laws (left - 2)) 2 _ _ _,
      (long_shape Spells left 0 3 _ _ _ _, (plain_shape Spells left 0 (λ item. given_to struct_in 4 item) _ _ _ _ (λ item. given_few struct_in struct_few 4 item), tt)),
    ),
  )

  pub batch_laws : RulesLaws (structs Spells left) (batch_rules Spells left)
  batch_laws = table_rules (structs Spells left) (laws left) (batch_table Spells left) 0 batch_shape batch_ends (λ bare seen n h. omega arith)

-- ---- fields of no row

struct_none : (tree : Tree) → (kind_of tree ≡ kinds.Struct → ⊥) → struct_in tree ≡ []
struct_none (leaf (truth_value b)) not = refl
struct_none (leaf (i8 n)) not = refl
struct_none (leaf (i16 n)) not = refl
struct_none (leaf (i32 n)) not = refl
struct_none (leaf (i64 n)) not = refl
struct_none (leaf (double h)) not = refl
struct_none (binary h) not = refl
struct_none (structure inner) not = absurd (not refl)
struct_none (map_of pairs) not = refl
struct_none (set_of trees) not = refl
struct_none (list_of trees) not = refl

-- the ids and types of its rows
abbrev pub batch_keys : List (ℕ × TypeCode)
batch_keys = (1, kinds.Struct) ∷ (2, kinds.List) ∷ (3, kinds.I64) ∷ (4, kinds.Struct) ∷ []

pub batch_free : (Spells : Spelling) (left : ℕ) (item : FieldItem) (found : Field) → item.id ≡ found.id → kind_of item.tree ≡ found.kind → Unknown batch_keys (of_z w16 found.id) found.kind → IsFree (batch_table Spells left) item
batch_free Spells left item found id kind u = (
  ap (λ (l : List Fields). with_text item.text l) (given_none struct_in 1 kinds.Struct struct_none item (λ at of. u.0 (ap (of_z w16) (sym id ∙ at)) (sym kind ∙ of))),
  (
    ap (λ (l : List Trees). with_text item.text l) (given_none list_in 2 kinds.List list_none item (λ at of. u.1.0 (ap (of_z w16) (sym id ∙ at)) (sym kind ∙ of))),
    (
      given_none i64_in 3 kinds.I64 i64_none item (λ at of. u.1.1.0 (ap (of_z w16) (sym id ∙ at)) (sym kind ∙ of)),
      (given_none struct_in 4 kinds.Struct struct_none item (λ at of. u.1.1.1.0 (ap (of_z w16) (sym id ∙ at)) (sym kind ∙ of)), tt),
    ),
  ),
)

-- ---- a field that holds a struct, by its own text

without_held : (Spells : Spelling) (fields : Fields) (left : ℕ) (held : Option Bool) (text : List ℕ) → ValueThen Spells (structure fields) left held text [] → ValueThen Spells (structure fields) left None text []
unfolding ValueThen
without_held Spells fields zero held text h = absurd h
without_held Spells fields (suc left) held text h = h

pub its_struct : (Spells : Spelling) (left : ℕ) (found : Field) (item : FieldItem) (whole rest : List ℕ) → FieldStands Spells left found item whole rest → (fields : Fields) → item.tree ≡ structure fields → ValueThen Spells (structure fields) left None item.text []
its_struct Spells left found item whole rest s fields is = without_held Spells fields left found.held item.text (subst (λ (t : Tree). ValueThen Spells t left found.held item.text []) is s.value)

-- ---- what was gathered

without_text : (xs : List Fields) (text : List ℕ) → map (λ x. x.0) (with_text text xs) ≡ xs
without_text [] text = refl
without_text (held ∷ more) text = ap (λ l. held ∷ l) (without_text more text)

structs_given : (id : ℕ) (items : List FieldItem) → map (λ x. x.0) (flat_map (λ (item : FieldItem). with_text item.text (given_to struct_in id item)) items) ≡ values_of struct_in id (fields_of items)
structs_given id items = all items ∙ values_given struct_in id items
  where
    give : FieldItem → List (Fields × List ℕ)
    give item = with_text item.text (given_to struct_in id item)

    all : (items : List FieldItem) → map (λ (x : Fields × List ℕ). x.0) (flat_map give items) ≡ flat_map (λ (item : FieldItem). given_to struct_in id item) items
    all [] = refl
    all (item ∷ items) =
        ap (λ l. map (λ (x : Fields × List ℕ). x.0) l) (flat_map-cons give item items)
        ∙ (map-append (λ (x : Fields × List ℕ). x.0) (give item) (flat_map give items)
        ∙ (ap (λ l. l ++ map (λ (x : Fields × List ℕ). x.0) (flat_map give items)) (without_text (given_to struct_in id item) item.text)
        ∙ (ap (λ l. given_to struct_in id item ++ l) (all items) ∙ sym (flat_map-cons (λ (i : FieldItem). given_to struct_in id i) item items))))

-- a required struct
pub struct_required : {B : Type 0} (Is : B → Fields → Type 0) (id : ℕ) (items : List FieldItem) (row : Option B) (value : B) → row ≡ Some value
    → Gave (MeansOne Is) (flat_map (λ (item : FieldItem). with_text item.text (given_to struct_in id item)) items) row → Required (λ fields x. Is x fields) (values_of struct_in id (fields_of items)) value
struct_required {B} Is id items row value is gave =
    subst (λ (l : List Fields). Required (λ fields x. Is x fields) l value) (structs_given id items)
    (of (flat_map (λ (item : FieldItem). with_text item.text (given_to struct_in id item)) items) (subst (λ (r : Option B). Gave (MeansOne Is) (flat_map (λ (item : FieldItem). with_text item.text (given_to struct_in id item)) items) r) is gave))
  where
    of : (xs : List (Fields × List ℕ)) → Gave (MeansOne Is) xs (Some value) → Required (λ fields x. Is x fields) (map (λ (x : Fields × List ℕ). x.0) xs) value
    of [] gave = absurd gave
    of (x ∷ []) gave = gave
    of (x ∷ y ∷ more) gave = absurd gave

pub no_struct : {B : Type 0} (M : Fields × List ℕ → B → Type 0) (id : ℕ) (items : List FieldItem) (row : Option B) → row ≡ None → Gave M (flat_map (λ (item : FieldItem). with_text item.text (given_to struct_in id item)) items) row
    → values_of struct_in id (fields_of items) ≡ []
no_struct M id items row is gave =
    sym (structs_given id items) ∙ ap (λ (l : List (Fields × List ℕ)). map (λ (x : Fields × List ℕ). x.0) l) (none_given M (flat_map (λ (item : FieldItem). with_text item.text (given_to struct_in id item)) items) row is gave)

-- one at most
pub at_most_one : {A B : Type 0} (take : Tree → List A) (id : ℕ) (M : A → B → Type 0) (items : List FieldItem) (row : Option B) → Gave M (flat_map (λ (item : FieldItem). given_to take id item) items) row → AtMostOne (values_of take id (fields_of items))
at_most_one {A} {B} take id M items row gave = subst (λ (l : List A). AtMostOne l) (values_given take id items) (of (flat_map (λ (item : FieldItem). given_to take id item) items) gave)
  where
    of : (xs : List A) → Gave M xs row → AtMostOne xs
    of [] gave = omega arith
    of (x ∷ []) gave = omega arith
    of (x ∷ y ∷ more) gave = absurd gave

-- a halt of one reader is that of another
pub halt_judged : (S T : Type 0) (Offends : ℕ → ℕ → Type 0) (halt : Halt Cause) → OnHalt {T = S} (Err halt) Offends → Judges {T = T} (Err halt) Offends
halt_judged S T Offends (halts.Why cause) h = h
halt_judged S T Offends halts.OutOfMemory h = tt
