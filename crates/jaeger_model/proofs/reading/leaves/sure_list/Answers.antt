use Rattle.thrift_core.specs.Parts.{list_head}
use Rattle.jaeger_model.proofs.PartLemmas.{taken, part_sure, part_shorter}
use Rattle.jaeger_model.proofs.reading.leaves.sure_list.Goals as goal

pub returns-clause-stands : goal.returns-clause-stands
returns-clause-stands g c = λ head rest begins.
    let sure = part_sure _ _ _ _ g.met.P.Parts.reads_exactly (list_head c.args.left) c.list.result c.args.c.now.rest c.list.new.c.rest c.list.ensures.exact head rest begins in
    (taken c.list.result head _ c.unwrap_or.result c.unwrap_or.ensures sure.0, sure.1)

pub returns-clause-shorter : goal.returns-clause-shorter
returns-clause-shorter g c = part_shorter _ _ _ _ g.met.P.Parts.reads_exactly (list_head c.args.left) c.list.result c.args.c.now c.list.new.c c.list.ensures.exact c.list.ensures.err
