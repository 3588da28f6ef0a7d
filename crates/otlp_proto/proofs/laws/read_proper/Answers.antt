use Rattle.otlp_proto.proofs.ProperLemmas.{attributes_proper}
use Rattle.otlp_proto.proofs.GroupMessages.{group_proper}
use Rattle.otlp_proto.proofs.laws.read_proper.Goals as goal

pub returns : goal.returns
returns c =
    let laws = c.members_of_proper_values.ensures in
    λ text g r all is. group_proper (attributes_proper laws.list laws.map) g r text all is
