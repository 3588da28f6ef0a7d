use Rattle.jaeger_model.proofs.WrittenTexts.{written_again}
use Rattle.jaeger_model.proofs.written_laws.written_again.Goals as goal

pub returns : goal.returns
returns g c = written_again g.P.Parts.spells g.P.Parts.keeps g.P.Parts.writes g.met.P.Parts.writes_shortest
