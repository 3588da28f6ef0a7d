use Rattle.std.proofs.Common.{◌∷◌, drop}
use Rattle.trace_model.specs.Attributes.{Rise, keys}
use Rattle.trace_model.proofs.attributes.keys_rise.Given as goal

abbrev pub invariant-others : goal.invariant-others
invariant-others l = Rise (l.last.0 ∷ keys (drop l.pair-index l.others)) → Rise (keys l.fn.pairs)
