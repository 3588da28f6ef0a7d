use Rattle.thrift_compact.proofs.Codes.{one_code, held_code}
use Rattle.thrift_compact.proofs.laws.type_codes.Goals as goal

pub returns : goal.returns
returns c = record { one_code = one_code; held_code = held_code }
