use Rattle.thrift_core.specs.Parts.{eight}
use Rattle.jaeger_model.proofs.PartLemmas.{taken, part_sure, part_shorter}
use Rattle.jaeger_model.proofs.reading.leaves.sure_eight.Goals as goal

pub returns-clause-stands : goal.returns-clause-stands
returns-clause-stands g c = λ held rest begins.
    let sure = part_sure _ _ _ _ g.met.P.Parts.reads_exactly eight c.eight.result c.args.c.now.rest c.eight.new.c.rest c.eight.ensures.exact held rest begins in
    (taken c.eight.result held _ c.unwrap_or.result c.unwrap_or.ensures sure.0, sure.1)

pub returns-clause-shorter : goal.returns-clause-shorter
returns-clause-shorter g c = part_shorter _ _ _ _ g.met.P.Parts.reads_exactly eight c.eight.result c.args.c.now c.eight.new.c c.eight.ensures.exact c.eight.ensures.err
