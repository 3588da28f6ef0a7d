use Rattle.thrift_core.specs.Parts.{truth}
use Rattle.jaeger_model.proofs.PartLemmas.{taken, part_sure, part_shorter}
use Rattle.jaeger_model.proofs.reading.leaves.sure_truth.Goals as goal

pub returns-clause-stands : goal.returns-clause-stands
returns-clause-stands g c = λ b rest begins.
    let sure = part_sure _ _ _ _ g.met.P.Parts.reads_exactly (truth c.args.held) c.truth.result c.args.c.now.rest c.truth.new.c.rest c.truth.ensures.exact b rest begins in
    (taken c.truth.result b _ c.unwrap_or.result c.unwrap_or.ensures sure.0, sure.1)

pub returns-clause-shorter : goal.returns-clause-shorter
returns-clause-shorter g c = part_shorter _ _ _ _ g.met.P.Parts.reads_exactly (truth c.args.held) c.truth.result c.args.c.now c.truth.new.c c.truth.ensures.exact c.truth.ensures.err
