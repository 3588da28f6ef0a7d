use Rattle.thrift_core.proofs.OpenStructs.{open_fronts}
use Rattle.thrift_core.proofs.laws.open_fronts.Goals as goal

pub returns : goal.returns
returns g c = open_fronts g.P.Parts.spells g.P.Parts.reads g.P.Parts.then_varint g.P.Parts.refuses g.met.P.Parts.reads_exactly g.met.P.Parts.part_laws
