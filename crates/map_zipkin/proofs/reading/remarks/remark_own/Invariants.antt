use Rattle.std.proofs.Common.{◌≡◌, ◌++◌, drop}
use Rattle.trace_model.specs.Remarks.{tags_dropped}
use Rattle.span_tags.specs.Columns.{left_out_by}
use Rattle.map_zipkin.specs.OwnColumns.{own_row, own_in}
use Rattle.map_zipkin.proofs.reading.remarks.remark_own.Given as goal

abbrev pub invariant-keys : goal.invariant-keys
invariant-keys l = l.remarks ++ tags_dropped l.place (left_out_by own_row (drop l.own-index l.keys) (own_in l.pairs))
    ≡ l.initial.remarks ++ tags_dropped l.place (left_out_by own_row l.keys (own_in l.pairs))
