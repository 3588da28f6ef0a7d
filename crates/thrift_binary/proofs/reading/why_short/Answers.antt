use Rattle.thrift_binary.proofs.Sizes.{empty_first}
use Rattle.thrift_binary.proofs.reading.why_short.Goals as goal

pub returns-in_default : goal.returns-in_default
returns-in_default c = record { exact = empty_first c.args.why c.args.bytes.now c.in_default.ensures.value }
