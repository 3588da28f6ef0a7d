-- What the reader of a span has gathered, and what is known of a span of which nothing is missing.
use Rattle.std.specs.Prelude.{◌≡◌, ℕ, [], List}
use Rattle.span_io.specs.RowsSoFar.{Gave}
use Rattle.span_io.specs.Tables.{Givens, givens, Singular, MeansText}
use Rattle.thrift_core.specs.Messages.{FieldItem}
use Rattle.thrift_core.specs.FieldValues.{values_of, i32_in, i64_in, binary_in, list_in}
use Rattle.thrift_core.specs.Parts.{Spelling}
use Rattle.thrift_core.specs.Trees.{Fields}
use Rattle.jaeger_model.specs.declared.span.JSpan.{JSpan}
use Rattle.jaeger_model.specs.declared.reading.span.SpanRows.{SpanRows}
use Rattle.jaeger_model.specs.declared.reading.span.SpanParts.{SpanParts}
use Rattle.jaeger_model.specs.Counted.{IsCounted, IsCountedSpan}
use Rattle.jaeger_model.specs.private.ListsSoFar.{MeansEach}
use Rattle.jaeger_model.specs.Log.{IsLog, MeansTags}
use Rattle.jaeger_model.specs.Meanings.{Required, Means, MeansTime}
use Rattle.jaeger_model.specs.private.ReferenceSoFar.{KeepsReferences}
use Rattle.jaeger_model.specs.Span.{IsJSpan, jspan_table, HasReferences, MeansLogs}
use Rattle.jaeger_model.specs.Tag.{IsTag}

-- each row of a `Span` holds what its fields gave: nothing where there is none, and the value of the one that there is
pub record GatheredJSpan (Spells : Spelling) (left : ℕ) (rows : SpanRows) (given : Givens (jspan_table Spells left))
    : Type 0 where
  pub low : Gave Means given.0 rows.low
  pub high : Gave Means given.1.0 rows.high
  pub id : Gave Means given.1.1.0 rows.id
  pub parent : Gave Means given.1.1.1.0 rows.parent
  pub name : Gave MeansText given.1.1.1.1.0 rows.name
  pub references : Gave KeepsReferences given.1.1.1.1.1.0 rows.references
  pub flags : Gave Means given.1.1.1.1.1.1.0 rows.flags
  pub start : Gave MeansTime given.1.1.1.1.1.1.1.0 rows.start
  pub duration : Gave MeansTime given.1.1.1.1.1.1.1.1.0 rows.duration
  pub tags : Gave (MeansEach IsTag) given.1.1.1.1.1.1.1.1.1.0 rows.tags
  pub logs : Gave (MeansEach IsLog) given.1.1.1.1.1.1.1.1.1.1.0 rows.logs

-- these fields gave them
abbrev pub GaveJSpan : Spelling → ℕ → SpanRows → List FieldItem → Type 0
GaveJSpan Spells left rows items = GatheredJSpan Spells left rows (givens (jspan_table Spells left) items)

-- the fields, in any order, give these parts
pub record HasParts (parts : SpanParts) (fields : Fields) : Type 0 where
  pub low : Required Means (values_of i64_in 1 fields) parts.low
  pub high : Required Means (values_of i64_in 2 fields) parts.high
  pub id : Required Means (values_of i64_in 3 fields) parts.id
  pub parent : Required Means (values_of i64_in 4 fields) parts.parent
  pub name : Required MeansText (values_of binary_in 5 fields) parts.name
  pub references : HasReferences fields parts.references.kept parts.references.others
  pub flags : Required Means (values_of i32_in 7 fields) parts.flags
  pub start : Required MeansTime (values_of i64_in 8 fields) parts.start
  pub duration : Required MeansTime (values_of i64_in 9 fields) parts.duration
  pub tags : Singular MeansTags (λ list. list ≡ []) (values_of list_in 10 fields) parts.tags
  pub logs : Singular MeansLogs (λ list. list ≡ []) (values_of list_in 11 fields) parts.logs

-- its logs and references are counted
pub record HasCountedParts (parts : SpanParts) : Type 0 where
  pub logs : IsCounted parts.logs
  pub references : IsCounted parts.references.kept

-- the fields are those of this span, whose logs and references are counted
pub record IsReadJSpan (span : JSpan) (fields : Fields) : Type 0 where
  pub is : IsJSpan span fields
  pub counted : IsCountedSpan span
