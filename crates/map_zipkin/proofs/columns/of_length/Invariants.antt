use Rattle.std.proofs.Common.{◌≡◌, ◌==◌, length, drop, find}
use Rattle.map_zipkin.specs.TagColumns.{row_of}
use Rattle.map_zipkin.proofs.columns.of_length.Given as goal

abbrev pub invariant-columns : goal.invariant-columns
invariant-columns l = find (λ column. length (row_of column).key == l.bytes) (drop l.column-index l.columns)
    ≡ find (λ column. length (row_of column).key == l.bytes) l.columns
