use Rattle.std.proofs.Common.{◌≡◌, ◌++◌, drop}
use Rattle.trace_model.specs.Remarks.{tags_dropped}
use Rattle.span_tags.specs.Columns.{left_out_by}
use Rattle.map_jaeger.specs.Columns.{row_of, looked}
use Rattle.map_jaeger.proofs.reading.remarks.remark_columns.Given as goal

abbrev pub invariant-columns : goal.invariant-columns
invariant-columns l = l.remarks ++ tags_dropped l.place (left_out_by row_of (drop l.column-index l.columns) (looked l.tags))
    ≡ l.initial.remarks ++ tags_dropped l.place (left_out_by row_of l.columns (looked l.tags))
