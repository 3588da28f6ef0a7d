use Rattle.proto_wire.proofs.LengthsSet.{Inserted}
use Rattle.proto_wire.proofs.writing.set_long.Given as goal

abbrev pub invariant-groups : goal.invariant-groups
invariant-groups l = Inserted l.fn.out l.out l.place l.n l._passed l.rest
