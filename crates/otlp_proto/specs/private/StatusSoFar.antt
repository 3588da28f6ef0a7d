-- What the reader of a status has gathered.
use Rattle.span_io.specs.Tables.{Givens, MeansText}
use Rattle.otlp_proto.specs.declared.reading.status.StatusRows.{StatusRows}
use Rattle.span_io.specs.RowsSoFar.{Gave}
use Rattle.otlp_proto.specs.Status.{MeansCode, status_table}

-- each row of a status holds what the records given to it so far mean
pub record GatheredStatus (rows : StatusRows) (given : Givens status_table) : Type 0 where
  pub message : Gave MeansText given.0 rows.message
  pub code : Gave MeansCode given.1.0 rows.code
