use Rattle.jaeger_model.proofs.reading.leaves.pass_over.Goals as goal

pub returns-clause-stands : goal.returns-clause-stands
returns-clause-stands g c = λ rest begins. ((c.skip.ensures.value rest).1 begins).1

pub returns-2-clause-stands : goal.returns-2-clause-stands
returns-2-clause-stands g c = λ rest begins. ((c.skip.ensures.value rest).1 begins).1
