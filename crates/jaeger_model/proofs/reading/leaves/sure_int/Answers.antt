use Rattle.std.proofs.Common.{◌∙◌, rules}
use Rattle.std.specs.Int.{w32}
use Rattle.std.proofs.lemmas.Int.{to_z-of_z}
use Rattle.thrift_core.specs.Parts.{int}
use Rattle.jaeger_model.proofs.PartLemmas.{taken, part_sure, part_shorter}
use Rattle.jaeger_model.proofs.reading.leaves.sure_int.Goals as goal

pub returns-clause-stands : goal.returns-clause-stands
returns-clause-stands g c = λ n rest begins.
    let sure = part_sure _ _ _ _ g.met.P.Parts.reads_exactly int c.int.result c.args.c.now.rest c.int.new.c.rest c.int.ensures.exact n rest begins in
    (to_z-of_z w32 c.unwrap_or.result (record { sfits = search rules }) ∙ (taken c.int.result n _ c.unwrap_or.result c.unwrap_or.ensures sure.0), sure.1)

pub returns-clause-shorter : goal.returns-clause-shorter
returns-clause-shorter g c = part_shorter _ _ _ _ g.met.P.Parts.reads_exactly int c.int.result c.args.c.now c.int.new.c c.int.ensures.exact c.int.ensures.err
