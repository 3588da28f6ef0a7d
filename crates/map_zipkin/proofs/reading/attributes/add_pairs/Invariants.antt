use Rattle.std.proofs.Common.{◌≡◌, ◌++◌}
use Rattle.map_zipkin.proofs.reading.attributes.add_pairs.Given as goal

abbrev pub invariant-pairs : goal.invariant-pairs
invariant-pairs l = l.list ++ l.pair-iterator.rest.items ≡ l.initial.list ++ l.fn.pairs
