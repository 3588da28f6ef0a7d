use Rattle.std.proofs.Common.{take}
use Rattle.proto_wire.proofs.FirstFrame.{looked_at, is, needs_exactly}
use Rattle.proto_wire.proofs.frame.first_frame.Goals as goal

pub returns-clause-told : goal.returns-clause-told
returns-clause-told c =
    is c.varint_readings.ensures c.args.limit c.args.bytes.now (take c.min.result c.args.bytes.now) (looked_at c.min.result c.args.limit c.args.bytes.now c.min.ensures) c.first.result c.first.ensures.told

pub returns-clause-need : goal.returns-clause-need
returns-clause-need c =
    needs_exactly c.varint_readings.ensures c.args.limit c.args.bytes.now (take c.min.result c.args.bytes.now) (looked_at c.min.result c.args.limit c.args.bytes.now c.min.ensures) c.first.result c.first.ensures.told
