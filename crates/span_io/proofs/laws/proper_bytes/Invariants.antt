use Rattle.std.proofs.Common.{take}
use Rattle.span_io.specs.Frames.{AreBytes}
use Rattle.span_io.proofs.laws.proper_bytes.Given as goal

abbrev pub invariant-bytes : goal.invariant-bytes
invariant-bytes l = AreBytes (take l.byte-index l.bytes)
