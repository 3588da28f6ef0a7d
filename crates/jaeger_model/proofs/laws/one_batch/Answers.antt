use Rattle.jaeger_model.proofs.BatchProofs.{one_batch}
use Rattle.jaeger_model.proofs.laws.one_batch.Goals as goal

pub returns : goal.returns
returns g c = one_batch g.P.Parts.spells _ _ _ g.met.P.Parts.reads_exactly g.met.P.Parts.part_laws
