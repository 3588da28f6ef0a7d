-- The table of a span.
use Rattle.std.proofs.Common.{◌≡◌, ◌-◌, ◌∷◌, [], ℕ, List, of_z, w16, sym, ap, ◌∙◌, arith}
use Rattle.span_io.specs.Offences.{FormatLaws, RulesLaws}
use Rattle.span_io.specs.Tables.{IsFree}
use Rattle.span_io.proofs.TableLaws.{TableShape, table_rules}
use Rattle.thrift_core.specs.declared.field.Field.{Field}
use Rattle.thrift_core.specs.declared.type_code.TypeCode.{TypeCode}
use Rattle.thrift_core.specs.declared.type_code.TypeCode.TheVariants as kinds
use Rattle.thrift_core.specs.FieldValues.{i32_in, i64_in, binary_in, list_in}
use Rattle.thrift_core.specs.Messages.{FieldItem, structs}
use Rattle.thrift_core.specs.Parts.{Spelling}
use Rattle.thrift_core.specs.Trees.{Trees, kind_of}
use Rattle.jaeger_model.proofs.FieldLemmas.{Unknown, given_none, i32_none, i64_none, binary_none}
use Rattle.jaeger_model.proofs.LogLemmas.{list_none, log_laws}
use Rattle.jaeger_model.proofs.ReferenceLemmas.{reference_laws}
use Rattle.jaeger_model.proofs.RowShapes.{binary_shape, int_shape, long_shape, structures_shape}
use Rattle.jaeger_model.proofs.TagLemmas.{tag_laws}
use Rattle.jaeger_model.specs.InnerRows.{with_text}
use Rattle.jaeger_model.specs.Log.{log_rules}
use Rattle.jaeger_model.specs.Reference.{reference_rules}
use Rattle.jaeger_model.specs.Rows.{given_to}
use Rattle.jaeger_model.specs.Span.{jspan_table, jspan_ends, jspan_rules}
use Rattle.jaeger_model.specs.Tag.{tag_rules}

module _ (Spells : Spelling) (laws : (m : ℕ) → FormatLaws (structs Spells m)) (left : ℕ) where
  pub span_shape : TableShape (structs Spells left) (jspan_table Spells left) 0
  span_shape = (long_shape Spells left 0 1 _ _ _ _, (long_shape Spells left 0 2 _ _ _ _, (long_shape Spells left 0 3 _ _ _ _, (long_shape Spells left 0 4 _ _ _ _, (binary_shape Spells left 0 5 _ _ _ _, (structures_shape Spells laws left 0 (left - 2) reference_rules (reference_laws Spells (left - 2) (laws (left - 2))) 6 _ _ _, (int_shape Spells left 0 7 _ _ _ _, (long_shape Spells left 0 8 _ _ _ _, (long_shape Spells left 0 9 _ _ _ _, (structures_shape Spells laws left 0 (left - 2) tag_rules (tag_laws Spells (left - 2) (laws (left - 2))) 10 _ _ _, (structures_shape Spells laws left 0 (left - 2) (log_rules Spells (left - 2)) (log_laws Spells laws (left - 2)) 11 _ _ _, tt)))))))))))

  -- no end shares a place with another
  pub span_laws : RulesLaws (structs Spells left) (jspan_rules Spells left)
  span_laws = table_rules (structs Spells left) (laws left) (jspan_table Spells left) 0 span_shape jspan_ends (λ bare seen n h. omega arith)

-- the ids and types of its rows
abbrev pub span_keys : List (ℕ × TypeCode)
span_keys = (1, kinds.I64) ∷ (2, kinds.I64) ∷ (3, kinds.I64) ∷ (4, kinds.I64) ∷ (5, kinds.Binary) ∷ (6, kinds.List) ∷ (7, kinds.I32) ∷ (8, kinds.I64) ∷ (9, kinds.I64) ∷ (10, kinds.List) ∷ (11, kinds.List) ∷ []

-- ---- fields of no row

list_free : (id : ℕ) (item : FieldItem) → given_to list_in id item ≡ [] → with_text item.text (given_to list_in id item) ≡ []
list_free id item none = ap (λ (l : List Trees). with_text item.text l) none

pub span_free : (Spells : Spelling) (left : ℕ) (item : FieldItem) (found : Field) → item.id ≡ found.id → kind_of item.tree ≡ found.kind → Unknown span_keys (of_z w16 found.id) found.kind → IsFree (jspan_table Spells left) item
span_free Spells left item found id kind u =
    (given_none i64_in 1 kinds.I64 i64_none item (λ at of. u.0 (ap (of_z w16) (sym id ∙ at)) (sym kind ∙ of)), (given_none i64_in 2 kinds.I64 i64_none item (λ at of. u.1.0 (ap (of_z w16) (sym id ∙ at)) (sym kind ∙ of)), (given_none i64_in 3 kinds.I64 i64_none item (λ at of. u.1.1.0 (ap (of_z w16) (sym id ∙ at)) (sym kind ∙ of)), (given_none i64_in 4 kinds.I64 i64_none item (λ at of. u.1.1.1.0 (ap (of_z w16) (sym id ∙ at)) (sym kind ∙ of)), (given_none binary_in 5 kinds.Binary binary_none item (λ at of. u.1.1.1.1.0 (ap (of_z w16) (sym id ∙ at)) (sym kind ∙ of)), (list_free 6 item (given_none list_in 6 kinds.List list_none item (λ at of. u.1.1.1.1.1.0 (ap (of_z w16) (sym id ∙ at)) (sym kind ∙ of))), (given_none i32_in 7 kinds.I32 i32_none item (λ at of. u.1.1.1.1.1.1.0 (ap (of_z w16) (sym id ∙ at)) (sym kind ∙ of)), (given_none i64_in 8 kinds.I64 i64_none item (λ at of. u.1.1.1.1.1.1.1.0 (ap (of_z w16) (sym id ∙ at)) (sym kind ∙ of)), (given_none i64_in 9 kinds.I64 i64_none item (λ at of. u.1.1.1.1.1.1.1.1.0 (ap (of_z w16) (sym id ∙ at)) (sym kind ∙ of)), (list_free 10 item (given_none list_in 10 kinds.List list_none item (λ at of. u.1.1.1.1.1.1.1.1.1.0 (ap (of_z w16) (sym id ∙ at)) (sym kind ∙ of))), (list_free 11 item (given_none list_in 11 kinds.List list_none item (λ at of. u.1.1.1.1.1.1.1.1.1.1.0 (ap (of_z w16) (sym id ∙ at)) (sym kind ∙ of))), tt)))))))))))
