use Rattle.jaeger_model.proofs.PartLemmas.{lent_taken}
use Rattle.jaeger_model.proofs.reading.leaves.sure_bytes.Goals as goal

pub returns-clause-stands : goal.returns-clause-stands
returns-clause-stands g c = λ held rest begins.
    let sure = c.bytes.ensures.only held rest begins in
    (lent_taken c.bytes.result _ c.unwrap_or.result held c.unwrap_or.ensures sure.0, sure.1)
