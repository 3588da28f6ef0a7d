-- What the reader of a log has gathered.
use Rattle.std.specs.Prelude.{ℕ, List}
use Rattle.span_io.specs.RowsSoFar.{Gave}
use Rattle.span_io.specs.Tables.{Givens, givens}
use Rattle.thrift_core.specs.Messages.{FieldItem}
use Rattle.thrift_core.specs.Parts.{Spelling}
use Rattle.jaeger_model.specs.declared.reading.log.LogRows.{LogRows}
use Rattle.jaeger_model.specs.private.ListsSoFar.{MeansEach}
use Rattle.jaeger_model.specs.Log.{log_table}
use Rattle.jaeger_model.specs.Meanings.{MeansTime}
use Rattle.jaeger_model.specs.Tag.{IsTag}

-- each row of a `Log` holds what its fields gave: nothing where there is none, and the value of the one that there is
pub record GatheredLog (Spells : Spelling) (left : ℕ) (rows : LogRows) (given : Givens (log_table Spells left)) : Type 0 where
  pub time : Gave MeansTime given.0 rows.time
  pub fields : Gave (MeansEach IsTag) given.1.0 rows.fields

-- these fields gave them
abbrev pub GaveLog : Spelling → ℕ → LogRows → List FieldItem → Type 0
GaveLog Spells left rows items = GatheredLog Spells left rows (givens (log_table Spells left) items)
