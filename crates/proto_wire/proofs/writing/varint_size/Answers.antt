use Rattle.std.proofs.Common.{arith, ap, length}
use Rattle.span_io.proofs.ShortestVarints.{one_byte, two_bytes}
use Rattle.proto_wire.proofs.writing.varint_size.Goals as goal

pub returns-then-n-lt128-clause-exact : goal.returns-then-n-lt128-clause-exact
returns-then-n-lt128-clause-exact c = omega (arith, ap length (one_byte c.args.n c.if-n-lt128.true))

pub returns-then-n-lt16384-clause-exact : goal.returns-then-n-lt16384-clause-exact
returns-then-n-lt16384-clause-exact c = omega (arith, ap length (two_bytes c.args.n c.if-n-lt128.false c.if-n-lt16384.true))
