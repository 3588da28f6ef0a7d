use Rattle.span_agent.proofs.ArgumentLemmas.{adds_none, adds_one}
use Rattle.span_agent.proofs.HeaderLemmas.{true_and_false}
use Rattle.span_agent.proofs.arguments.with_field.Goals as goal

pub returns-then-is_batch : goal.returns-then-is_batch
returns-then-is_batch c =
    let is = c.is_batch.ensures.0 c.if-is_batch.true in
    adds_one _ _ c.args.found _ is.0 is.1 c.and.ensures

pub returns : goal.returns
returns c = adds_none _ c.args.found _ (λ id kind. true_and_false _ (c.is_batch.ensures.1 (id, kind)) c.if-is_batch.false)
