use Rattle.std.proofs.Common.{◌≡◌, ◌++◌, drop}
use Rattle.map_zipkin.proofs.writing.tags.add_copies.Given as goal

abbrev pub invariant-rows : goal.invariant-rows
invariant-rows l = l.pairs.items ++ drop l.row-index l.rows ≡ l.initial.pairs.items ++ l.rows
