use Rattle.jaeger_model.proofs.laws.free_anywhere.Goals as goal
use Rattle.jaeger_model.proofs.TreePairs.{free_anywhere}

pub returns : goal.returns
returns g c = free_anywhere g.P.Parts.spells (record { reads = _; ThenVarint = _; Refuses = _; exactly = g.met.P.Parts.reads_exactly; parts = g.met.P.Parts.part_laws })
