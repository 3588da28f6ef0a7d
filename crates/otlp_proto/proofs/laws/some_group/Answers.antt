use Rattle.otlp_proto.proofs.GroupLaws.{some_group}
use Rattle.otlp_proto.proofs.laws.some_group.Goals as goal

pub returns : goal.returns
returns c = some_group c.reading_laws.ensures
