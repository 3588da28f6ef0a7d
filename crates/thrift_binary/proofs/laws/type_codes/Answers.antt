use Rattle.thrift_binary.proofs.Codes.{one_code}
use Rattle.thrift_binary.proofs.laws.type_codes.Goals as goal

pub returns : goal.returns
returns c = record { one_code = one_code }
