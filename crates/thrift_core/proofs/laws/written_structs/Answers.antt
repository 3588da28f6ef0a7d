use Rattle.thrift_core.proofs.WrittenLaws.{written_structs}
use Rattle.thrift_core.proofs.laws.written_structs.Goals as goal

pub returns : goal.returns
returns g c = written_structs g.P.Parts.spells g.P.Parts.keeps g.P.Parts.writes g.met.P.Parts.writes_shortest
