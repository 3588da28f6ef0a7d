-- What the reader of a reference has gathered, and what is kept of a list of them.
use Rattle.std.specs.Prelude.{◌≡◌, ℕ, Option, List, is_none}
use Rattle.std.specs.List.{flat_map, count_by}
use Rattle.span_io.specs.RowsSoFar.{Gave}
use Rattle.span_io.specs.Tables.{Givens, givens}
use Rattle.jaeger_model.specs.declared.reading.reference.ReferenceRows.{ReferenceRows}
use Rattle.jaeger_model.specs.declared.reading.references.References.{References}
use Rattle.jaeger_model.specs.declared.span.SpanRef.{SpanRef}
use Rattle.thrift_core.specs.Messages.{FieldItem}
use Rattle.thrift_core.specs.Trees.{Trees}
use Rattle.jaeger_model.specs.Counted.{IsCounted}
use Rattle.jaeger_model.specs.Meanings.{Means, MeansEnum}
use Rattle.jaeger_model.specs.Reference.{reference_table, reference_number}
use Rattle.jaeger_model.specs.Span.{kept_reference, MeansReferences}

-- each row of a `SpanRef` holds what its fields gave: nothing where there is none, and the value of the one that there is
pub record GatheredReference (rows : ReferenceRows) (given : Givens reference_table) : Type 0 where
  pub child_of : Gave (MeansEnum reference_number) given.0 rows.child_of
  pub low : Gave Means given.1.0 rows.low
  pub high : Gave Means given.1.1.0 rows.high
  pub span : Gave Means given.1.1.1.0 rows.span

-- these fields gave them
abbrev pub GaveReference : ReferenceRows → List FieldItem → Type 0
GaveReference rows items = GatheredReference rows (givens reference_table items)

-- of these references those that point to a span, which are counted, and the number of the others
pub record KeepsOf (all : List (Option SpanRef)) (references : References) : Type 0 where
  pub kept : references.kept ≡ flat_map kept_reference all
  pub others : references.others ≡ count_by (λ r. is_none r) all
  pub counted : IsCounted references.kept

-- what is kept of a list of references, by the field that holds it
abbrev pub KeepsReferences : Trees × List ℕ → References → Type 0
KeepsReferences held references = (all : List (Option SpanRef)) × MeansReferences held.0 all × KeepsOf all references
