use Rattle.span_io.proofs.ShortestVarints.{one_byte, two_bytes}
use Rattle.span_io.proofs.blob.Blob.append_varint.Goals as goal

pub returns-then-n-lt128-clause-ok : goal.returns-then-n-lt128-clause-ok
returns-then-n-lt128-clause-ok c = rw (one_byte c.args.n c.if-n-lt128.true) c.append.ensures.ok

pub returns-then-n-lt16384-clause-ok : goal.returns-then-n-lt16384-clause-ok
returns-then-n-lt16384-clause-ok c = rw (two_bytes c.args.n c.if-n-lt128.false c.if-n-lt16384.true) c.append-then-n-lt16384.ensures.ok
