-- The table of a reference.
use Rattle.std.proofs.Common.{◌≡◌, ◌∷◌, [], ℕ, List, of_z, w16, sym, ap, ◌∙◌, arith}
use Rattle.span_io.specs.Offences.{FormatLaws, RulesLaws}
use Rattle.span_io.specs.Tables.{IsFree}
use Rattle.span_io.proofs.TableLaws.{TableShape, table_rules}
use Rattle.thrift_core.specs.declared.field.Field.{Field}
use Rattle.thrift_core.specs.declared.type_code.TypeCode.{TypeCode}
use Rattle.thrift_core.specs.declared.type_code.TypeCode.TheVariants as kinds
use Rattle.thrift_core.specs.FieldValues.{i32_in, i64_in}
use Rattle.thrift_core.specs.Messages.{FieldItem, structs}
use Rattle.thrift_core.specs.Parts.{Spelling}
use Rattle.thrift_core.specs.Trees.{kind_of}
use Rattle.jaeger_model.proofs.FieldLemmas.{Unknown, given_none, i32_none, i64_none}
use Rattle.jaeger_model.proofs.RowShapes.{int_shape, long_shape}
use Rattle.jaeger_model.specs.Reference.{reference_table, reference_ends, reference_rules}

module _ (Spells : Spelling) (left : ℕ) where
  pub reference_shape : TableShape (structs Spells left) reference_table 0
  reference_shape = (int_shape Spells left 0 1 _ _ _ _, (long_shape Spells left 0 2 _ _ _ _, (long_shape Spells left 0 3 _ _ _ _, (long_shape Spells left 0 4 _ _ _ _, tt))))

  -- its end offends with 8, and nothing stands inside it
  pub reference_laws : FormatLaws (structs Spells left) → RulesLaws (structs Spells left) reference_rules
  reference_laws L = table_rules (structs Spells left) L reference_table 0 reference_shape reference_ends (λ bare seen n h. omega arith)

-- the ids and types of its rows
abbrev pub reference_keys : List (ℕ × TypeCode)
reference_keys = (1, kinds.I32) ∷ (2, kinds.I64) ∷ (3, kinds.I64) ∷ (4, kinds.I64) ∷ []

pub reference_free : (item : FieldItem) (found : Field) → item.id ≡ found.id → kind_of item.tree ≡ found.kind → Unknown reference_keys (of_z w16 found.id) found.kind → IsFree reference_table item
reference_free item found id kind u =
    (given_none i32_in 1 kinds.I32 i32_none item (λ at of. u.0 (ap (of_z w16) (sym id ∙ at)) (sym kind ∙ of)), (given_none i64_in 2 kinds.I64 i64_none item (λ at of. u.1.0 (ap (of_z w16) (sym id ∙ at)) (sym kind ∙ of)), (given_none i64_in 3 kinds.I64 i64_none item (λ at of. u.1.1.0 (ap (of_z w16) (sym id ∙ at)) (sym kind ∙ of)), (given_none i64_in 4 kinds.I64 i64_none item (λ at of. u.1.1.1.0 (ap (of_z w16) (sym id ∙ at)) (sym kind ∙ of)), tt))))
