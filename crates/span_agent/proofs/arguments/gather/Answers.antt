use Rattle.span_agent.proofs.ArgumentLemmas.{other_refusal, other_value}
use Rattle.span_agent.proofs.arguments.gather.Goals as goal

pub returns-in-Ok-clause-ok : goal.returns-in-Ok-clause-ok
returns-in-Ok-clause-ok g c = record {
  text = c.in-Ok.value.now;
  value = c.in-Ok.ensures.value.0;
  parts = c.in-Ok.ensures.value.1;
  adds = c.with_field.ensures;
}

pub returns-in-Ok-clause-refused : goal.returns-in-Ok-clause-refused
returns-in-Ok-clause-refused g c = other_value _ _ c.in-Ok.value c.with_field.result c.args.c.now.rest c.in-Ok.ensures.refused

pub returns-in-Err-clause-refused : goal.returns-in-Err-clause-refused
returns-in-Err-clause-refused g c = other_refusal _ _ c.in-Err.cause c.args.c.now.rest c.in-Err.ensures.refused
