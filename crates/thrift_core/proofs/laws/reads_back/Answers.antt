use Rattle.thrift_core.proofs.OpenStructs.{reads_back}
use Rattle.thrift_core.proofs.laws.reads_back.Goals as goal

pub returns : goal.returns
returns g c = reads_back g.P.Parts.spells g.P.Parts.reads g.P.Parts.then_varint g.P.Parts.refuses g.met.P.Parts.reads_exactly g.met.P.Parts.part_laws
    g.P.Parts.keeps g.P.Parts.writes g.met.P.Parts.writes_shortest
