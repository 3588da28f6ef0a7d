use Rattle.std.proofs.Common.{◌≡◌, drop}
use Rattle.trace_model.specs.Attributes.{at}
use Rattle.map_zipkin.proofs.own.own_held.Given as goal

abbrev pub invariant-pairs : goal.invariant-pairs
invariant-pairs l = at l.key (drop l.pair-index l.pairs) ≡ at l.key l.pairs
