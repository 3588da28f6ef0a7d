use Rattle.std.proofs.Common.{arith}
use Rattle.proto_wire.proofs.Heads.{known_length, head_needs, length_needs, length_decides}
use Rattle.proto_wire.proofs.scanner.behind_head.Goals as goal

pub returns-then-head-lt-LONGEST_HEAD : goal.returns-then-head-lt-LONGEST_HEAD
returns-then-head-lt-LONGEST_HEAD c = λ bytes is_head counts. head_needs c.varint_readings.ensures c.args.limit c.args.head.now bytes is_head (omega (arith, c.if-head-lt-LONGEST_HEAD.true)) c.requires

pub full_size-size-requires : goal.full_size-size-requires
full_size-size-requires c = known_length c.args.limit c.args.head.now c.requires (omega (arith, c.if-head-lt-LONGEST_HEAD.false))

pub returns-then-there-size : goal.returns-then-there-size
returns-then-there-size c = λ bytes is_head counts.
    length_needs c.varint_readings.ensures c.args.limit c.args.head.now bytes is_head c.full_size-size.result c.args.there c.full_size-size.ensures.holds c.full_size-size.ensures.within counts c.if-there-size.true

pub returns : goal.returns
returns c = λ bytes is_head counts.
    length_decides c.varint_readings.ensures c.args.limit c.args.head.now bytes is_head c.full_size-size.result c.args.there c.full_size-size.ensures.holds c.full_size-size.ensures.within counts
    (omega (arith, c.if-there-size.false))
