use Rattle.std.proofs.Common.{arith}
use Rattle.proto_wire.proofs.Shortest.{counted_first, counted_more, counted_end, counted_last}
use Rattle.proto_wire.proofs.writing.long_size.Goals as goal

pub groups-init : goal.groups-init
groups-init c = counted_first c.args.n

pub returns-then-rest-lt128-clause-exact : goal.returns-then-rest-lt128-clause-exact
returns-then-rest-lt128-clause-exact c = counted_end c.args.n c.groups.passed c.groups.rest c.groups.invariant c.if-rest-lt128.true

pub groups-preserved : goal.groups-preserved
groups-preserved c = counted_more c.args.n c.groups.passed c.groups.rest c.groups.invariant c.groups-test.true c.if-rest-lt128.false

pub returns-clause-exact : goal.returns-clause-exact
returns-clause-exact c = omega (arith, counted_last c.args.n c.groups.passed c.groups.rest c.groups.invariant c.groups-test.false)
