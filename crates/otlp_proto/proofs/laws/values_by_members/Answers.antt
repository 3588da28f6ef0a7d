use Rattle.otlp_proto.proofs.ValueTexts.{list_value, map_value}
use Rattle.otlp_proto.proofs.laws.values_by_members.Goals as goal

pub returns : goal.returns
returns c = record { list = list_value; map = map_value }
