use Rattle.proto_wire.proofs.Shortest.{Counted}
use Rattle.proto_wire.proofs.writing.long_size.Given as goal

abbrev pub invariant-groups : goal.invariant-groups
invariant-groups l = Counted l.n l.passed l.rest
