-- What the reader of a batch has gathered.
use Rattle.std.specs.Prelude.{ℕ, List}
use Rattle.span_io.specs.RowsSoFar.{Gave}
use Rattle.span_io.specs.Tables.{Givens, givens}
use Rattle.thrift_core.specs.Messages.{FieldItem}
use Rattle.thrift_core.specs.Parts.{Spelling}
use Rattle.jaeger_model.specs.declared.reading.batch.BatchRows.{BatchRows}
use Rattle.jaeger_model.specs.Batch.{MeansNothing, batch_table}
use Rattle.jaeger_model.specs.private.ListsSoFar.{MeansEach, MeansOne}
use Rattle.jaeger_model.specs.Meanings.{Means}
use Rattle.jaeger_model.specs.Process.{IsProcess}
use Rattle.jaeger_model.specs.private.SpanSoFar.{IsReadJSpan}

-- each row of a `Batch` holds what its fields gave: nothing where there is none, and the value of the one that there is
pub record GatheredBatch (Spells : Spelling) (left : ℕ) (rows : BatchRows) (given : Givens (batch_table Spells left))
    : Type 0 where
  pub process : Gave (MeansOne IsProcess) given.0 rows.process
  pub spans : Gave (MeansEach IsReadJSpan) given.1.0 rows.spans
  pub sequence : Gave Means given.1.1.0 rows.sequence
  pub stats : Gave MeansNothing given.1.1.1.0 rows.stats

-- these fields gave them
abbrev pub GaveBatch : Spelling → ℕ → BatchRows → List FieldItem → Type 0
GaveBatch Spells left rows items = GatheredBatch Spells left rows (givens (batch_table Spells left) items)
