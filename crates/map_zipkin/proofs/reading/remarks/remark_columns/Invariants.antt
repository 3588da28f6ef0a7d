use Rattle.std.proofs.Common.{◌≡◌, ◌++◌, drop}
use Rattle.trace_model.specs.Remarks.{tags_dropped}
use Rattle.span_tags.specs.Columns.{left_out_by}
use Rattle.map_zipkin.specs.TagColumns.{row_of, columns_in}
use Rattle.map_zipkin.proofs.reading.remarks.remark_columns.Given as goal

abbrev pub invariant-columns : goal.invariant-columns
invariant-columns l = l.remarks ++ tags_dropped l.place (left_out_by row_of (drop l.column-index l.columns) (columns_in l.tags))
    ≡ l.initial.remarks ++ tags_dropped l.place (left_out_by row_of l.columns (columns_in l.tags))
