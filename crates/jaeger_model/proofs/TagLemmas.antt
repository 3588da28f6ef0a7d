-- The table of a tag.
use Rattle.std.proofs.Common.{◌≡◌, ◌∷◌, [], ℕ, List, of_z, w16, sym, ap, ◌∙◌, arith}
use Rattle.span_io.specs.Offences.{FormatLaws, RulesLaws}
use Rattle.span_io.specs.Tables.{IsFree}
use Rattle.span_io.proofs.TableLaws.{TableShape, table_rules}
use Rattle.thrift_core.specs.declared.field.Field.{Field}
use Rattle.thrift_core.specs.declared.type_code.TypeCode.{TypeCode}
use Rattle.thrift_core.specs.declared.type_code.TypeCode.TheVariants as kinds
use Rattle.thrift_core.specs.FieldValues.{truth_in, i32_in, i64_in, double_in, binary_in}
use Rattle.thrift_core.specs.Messages.{FieldItem, structs}
use Rattle.thrift_core.specs.Parts.{Spelling}
use Rattle.thrift_core.specs.Trees.{kind_of}
use Rattle.jaeger_model.proofs.FieldLemmas.{Unknown, given_none, truth_none, i32_none, i64_none, double_none, binary_none}
use Rattle.jaeger_model.proofs.RowShapes.{binary_shape, int_shape, long_shape, truth_shape, eight_shape}
use Rattle.jaeger_model.specs.Tag.{tag_table, tag_ends, tag_rules}

module _ (Spells : Spelling) (left : ℕ) where
  pub tag_shape : TableShape (structs Spells left) tag_table 0
  tag_shape = (
    binary_shape Spells left 0 1 _ _ _ _,
    (
      int_shape Spells left 0 2 _ _ _ _,
      (
        binary_shape Spells left 0 3 _ _ _ _,
        (
          eight_shape Spells left 0 4 _ _ _ _,
          (truth_shape Spells left 0 5 _ _ _ _, (long_shape Spells left 0 6 _ _ _ _, (binary_shape Spells left 0 7 _ _ _ _, tt))),
        ),
      ),
    ),
  )

  -- its end offends with 8, and nothing stands inside it
  pub tag_laws : FormatLaws (structs Spells left) → RulesLaws (structs Spells left) tag_rules
  tag_laws L = table_rules (structs Spells left) L tag_table 0 tag_shape tag_ends (λ bare seen n h. omega arith)

-- the ids and types of its rows
abbrev pub tag_keys : List (ℕ × TypeCode)
tag_keys = (1, kinds.Binary) ∷ (2, kinds.I32) ∷ (3, kinds.Binary) ∷ (4, kinds.Eight) ∷ (5, kinds.Truth) ∷ (6, kinds.I64) ∷ (7, kinds.Binary) ∷ []

pub tag_free : (item : FieldItem) (found : Field) → item.id ≡ found.id → kind_of item.tree ≡ found.kind → Unknown tag_keys (of_z w16 found.id) found.kind → IsFree tag_table item
tag_free item found id kind u =
    (given_none binary_in 1 kinds.Binary binary_none item (λ at of. u.0 (ap (of_z w16) (sym id ∙ at)) (sym kind ∙ of)), (given_none i32_in 2 kinds.I32 i32_none item (λ at of. u.1.0 (ap (of_z w16) (sym id ∙ at)) (sym kind ∙ of)), (given_none binary_in 3 kinds.Binary binary_none item (λ at of. u.1.1.0 (ap (of_z w16) (sym id ∙ at)) (sym kind ∙ of)), (given_none double_in 4 kinds.Eight double_none item (λ at of. u.1.1.1.0 (ap (of_z w16) (sym id ∙ at)) (sym kind ∙ of)), (given_none truth_in 5 kinds.Truth truth_none item (λ at of. u.1.1.1.1.0 (ap (of_z w16) (sym id ∙ at)) (sym kind ∙ of)), (given_none i64_in 6 kinds.I64 i64_none item (λ at of. u.1.1.1.1.1.0 (ap (of_z w16) (sym id ∙ at)) (sym kind ∙ of)), (given_none binary_in 7 kinds.Binary binary_none item (λ at of. u.1.1.1.1.1.1.0 (ap (of_z w16) (sym id ∙ at)) (sym kind ∙ of)), tt)))))))
