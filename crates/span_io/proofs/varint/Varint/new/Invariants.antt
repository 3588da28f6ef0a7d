use Rattle.span_io.proofs.VarintText.{Filled}
use Rattle.span_io.proofs.varint.Varint.new.Given as goal

abbrev pub invariant-groups : goal.invariant-groups
invariant-groups l = Filled l.bytes l.n l.passed l.rest
