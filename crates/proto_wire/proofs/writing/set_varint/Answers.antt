use Rattle.proto_wire.proofs.LengthsSet.{set_short}
use Rattle.proto_wire.proofs.writing.set_varint.Goals as goal

pub returns-then-n-lt128-clause-ok : goal.returns-then-n-lt128-clause-ok
returns-then-n-lt128-clause-ok c = set_short c.args.out.now c.set.new.self c.args.place c.args.n c.if-n-lt128.true c.set.ensures
