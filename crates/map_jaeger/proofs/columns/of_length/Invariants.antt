use Rattle.std.proofs.Common.{◌≡◌, ◌==◌, length, drop, find}
use Rattle.map_jaeger.specs.Columns.{row_of}
use Rattle.map_jaeger.proofs.columns.of_length.Given as goal

abbrev pub invariant-columns : goal.invariant-columns
invariant-columns l = find (λ column. length (row_of column).key == l.bytes) (drop l.column-index l.columns)
    ≡ find (λ column. length (row_of column).key == l.bytes) l.columns
