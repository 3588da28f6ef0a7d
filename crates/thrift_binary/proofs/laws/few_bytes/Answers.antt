use Rattle.thrift_spellings.proofs.BinaryUnfinished.{binary_unfinished}
use Rattle.thrift_binary.proofs.laws.few_bytes.Goals as goal

pub returns : goal.returns
returns c = binary_unfinished
