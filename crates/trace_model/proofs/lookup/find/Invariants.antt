use Rattle.std.proofs.Common.{◌≡◌, drop}
use Rattle.trace_model.specs.Attributes.{at}
use Rattle.trace_model.proofs.lookup.find.Given as goal

abbrev pub invariant-pairs : goal.invariant-pairs
invariant-pairs l = at l.key (drop l.pair-index l.attributes) ≡ at l.key l.attributes
