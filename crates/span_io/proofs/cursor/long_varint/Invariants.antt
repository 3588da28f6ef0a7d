use Rattle.span_io.proofs.VarintWalk.{WalkedVarint}
use Rattle.span_io.proofs.cursor.long_varint.Given as goal

abbrev pub invariant-groups : goal.invariant-groups
invariant-groups l = WalkedVarint l.bytes l.rest l._passed l.number l.weight
