use Rattle.std.proofs.Common.{◌∙◌, rules}
use Rattle.std.specs.Int.{w64}
use Rattle.std.proofs.lemmas.Int.{to_z-of_z}
use Rattle.thrift_core.specs.Parts.{long}
use Rattle.jaeger_model.proofs.PartLemmas.{taken, part_sure, part_shorter}
use Rattle.jaeger_model.proofs.reading.leaves.sure_long.Goals as goal

pub returns-clause-stands : goal.returns-clause-stands
returns-clause-stands g c = λ n rest begins.
    let sure = part_sure _ _ _ _ g.met.P.Parts.reads_exactly long c.long.result c.args.c.now.rest c.long.new.c.rest c.long.ensures.exact n rest begins in
    (to_z-of_z w64 c.unwrap_or.result (record { sfits = search rules }) ∙ (taken c.long.result n _ c.unwrap_or.result c.unwrap_or.ensures sure.0), sure.1)

pub returns-clause-shorter : goal.returns-clause-shorter
returns-clause-shorter g c = part_shorter _ _ _ _ g.met.P.Parts.reads_exactly long c.long.result c.args.c.now c.long.new.c c.long.ensures.exact c.long.ensures.err
