use Rattle.otlp_proto.proofs.GroupLaws.{free_anywhere}
use Rattle.otlp_proto.proofs.laws.free_anywhere.Goals as goal

pub returns : goal.returns
returns c = free_anywhere c.reading_laws.ensures
