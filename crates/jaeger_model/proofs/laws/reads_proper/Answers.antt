use Rattle.jaeger_model.proofs.ReadProper.{read_proper}
use Rattle.jaeger_model.proofs.laws.reads_proper.Goals as goal

pub returns : goal.returns
returns g c = read_proper g.P.Parts.spells g.met.P.Parts.spells_proper
