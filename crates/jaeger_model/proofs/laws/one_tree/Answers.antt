use Rattle.jaeger_model.proofs.laws.one_tree.Goals as goal
use Rattle.jaeger_model.proofs.TreePairs.{one_tree}

pub returns : goal.returns
returns g c =
    one_tree g.P.Parts.spells g.Q.Parts.spells
    (record { reads = _; ThenVarint = _; Refuses = _; exactly = g.met.P.Parts.reads_exactly; parts = g.met.P.Parts.part_laws })
    (record { reads = _; ThenVarint = _; Refuses = _; exactly = g.met.Q.Parts.reads_exactly; parts = g.met.Q.Parts.part_laws })
