use Rattle.std.proofs.Common.{◌≡◌, ◌++◌, drop}
use Rattle.span_tags.specs.Columns.{rows_by}
use Rattle.map_zipkin.specs.TagColumns.{row_of}
use Rattle.map_zipkin.specs.private.WritingSoFar.{span_columns}
use Rattle.map_zipkin.proofs.writing.columns.add_columns.Given as goal

abbrev pub invariant-columns : goal.invariant-columns
invariant-columns l = l.pairs ++ rows_by row_of (drop l.column-index l.columns) (span_columns l.span)
    ≡ l.initial.pairs ++ rows_by row_of l.columns (span_columns l.span)
