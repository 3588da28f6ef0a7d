use Rattle.jaeger_model.proofs.FreeFields.{free_fields}
use Rattle.jaeger_model.proofs.laws.free_fields.Goals as goal

pub returns : goal.returns
returns g c = free_fields g.P.Parts.spells _ _ _ g.met.P.Parts.reads_exactly g.met.P.Parts.part_laws
