use Rattle.jaeger_model.proofs.EqualTexts.{equal_texts}
use Rattle.jaeger_model.proofs.written_laws.equal_texts.Goals as goal

pub returns : goal.returns
returns g c = equal_texts g.P.Parts.spells g.P.Parts.keeps g.P.Parts.writes c.one_batch.ensures c.written_again.ensures
