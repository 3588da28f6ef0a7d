use Rattle.span_agent.proofs.ArgumentLemmas.{more_held}
use Rattle.span_agent.proofs.arguments.Batches.and.Goals as goal

pub returns-in-One : goal.returns-in-One
returns-in-One c = λ held h. more_held c.args.self held c.args.batch.now c.in-One.is h
