use Rattle.map_zipkin.proofs.NotedLaws.{groups_noted}
use Rattle.map_zipkin.proofs.laws.groups_noted.Goals as goal

pub returns : goal.returns
returns c = groups_noted
