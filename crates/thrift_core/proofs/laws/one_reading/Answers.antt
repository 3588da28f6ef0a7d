use Rattle.thrift_core.proofs.OpenStructs.{one_reading}
use Rattle.thrift_core.proofs.laws.one_reading.Goals as goal

pub returns : goal.returns
returns g c = one_reading g.P.Parts.spells g.P.Parts.reads g.P.Parts.then_varint g.P.Parts.refuses g.met.P.Parts.reads_exactly g.met.P.Parts.part_laws
