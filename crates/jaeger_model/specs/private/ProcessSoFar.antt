-- What the reader of a process has gathered.
use Rattle.std.specs.Prelude.{ℕ, List}
use Rattle.span_io.specs.RowsSoFar.{Gave}
use Rattle.span_io.specs.Tables.{Givens, givens, MeansText}
use Rattle.thrift_core.specs.Messages.{FieldItem}
use Rattle.thrift_core.specs.Parts.{Spelling}
use Rattle.jaeger_model.specs.declared.reading.process.ProcessRows.{ProcessRows}
use Rattle.jaeger_model.specs.private.ListsSoFar.{MeansEach}
use Rattle.jaeger_model.specs.Process.{process_table}
use Rattle.jaeger_model.specs.Tag.{IsTag}

-- each row of a `Process` holds what its fields gave: nothing where there is none, and the value of the one that there is
pub record GatheredProcess (Spells : Spelling) (left : ℕ) (rows : ProcessRows) (given : Givens (process_table Spells left))
    : Type 0 where
  pub service : Gave MeansText given.0 rows.service
  pub tags : Gave (MeansEach IsTag) given.1.0 rows.tags

-- these fields gave them
abbrev pub GaveProcess : Spelling → ℕ → ProcessRows → List FieldItem → Type 0
GaveProcess Spells left rows items = GatheredProcess Spells left rows (givens (process_table Spells left) items)
