use Rattle.map_jaeger.proofs.ProperGroups.{group_proper}
use Rattle.map_jaeger.proofs.laws.read_is_proper.Goals as goal

pub returns : goal.returns
returns c = group_proper
