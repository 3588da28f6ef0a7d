use Rattle.std.proofs.Common.{◌-◌, length, take, refl}
use Rattle.span_agent.proofs.ArgumentLemmas.{other_refusal, other_value, value_lent}
use Rattle.span_agent.proofs.arguments.value_of.Goals as goal

pub returns-in-Ok-clause-value : goal.returns-in-Ok-clause-value
returns-in-Ok-clause-value g c =
    value_lent g.P.Parts.spells g.P.Parts.reads g.P.Parts.then_varint g.P.Parts.refuses g.met.P.Parts.reads_exactly g.met.P.Parts.part_laws c.args.found.kind c.args.found.held c.args.c.now.rest c.skip.new.c.rest _
    ((c.in-Ok.ensures.value c.skip.new.c.rest).0 (refl, refl)) (λ i. take (length (c.rest-whole.ensures i) - c.remaining.ensures i) (c.rest-whole.ensures i))

pub returns-in-Ok-clause-refused : goal.returns-in-Ok-clause-refused
returns-in-Ok-clause-refused g c = other_value _ _ tt _ c.args.c.now.rest c.in-Ok.ensures.refused

pub returns-in-Err-clause-refused : goal.returns-in-Err-clause-refused
returns-in-Err-clause-refused g c = other_refusal _ _ c.in-Err.cause c.args.c.now.rest c.in-Err.ensures.refused
