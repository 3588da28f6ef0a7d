use Rattle.otlp_proto.proofs.GroupLaws.{message_rules}
use Rattle.otlp_proto.proofs.laws.message_rules.Goals as goal

pub returns : goal.returns
returns c = message_rules c.reading_laws.ensures
