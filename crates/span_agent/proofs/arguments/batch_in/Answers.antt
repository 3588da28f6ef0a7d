use Rattle.std.proofs.Common.{ℕ, pos, List, Err, refl, subst}
use Rattle.span_io.specs.Walks.{Walk}
use Rattle.thrift_core.specs.Values.{AnswersRefusals}
use Rattle.span_agent.specs.Arguments.{ArgumentsThen, RefusedArguments, argument_texts, batches_of}
use Rattle.span_agent.specs.Messages.{told_by}
use Rattle.span_agent.specs.private.Arguments.{SaysBatch}
use Rattle.span_agent.specs.declared.arguments.Batches.{Batches}
use Rattle.span_agent.proofs.MessageLemmas.{says_refused, says_standing}
use Rattle.span_agent.proofs.arguments.batch_in.Goals as goal

pub returns-in-Ok : goal.returns-in-Ok
returns-in-Ok g c =
    let gives = c.in-Ok.ensures.stand in
    says_standing g.P.Parts.spells g.P.Parts.reads g.P.Parts.then_varint g.P.Parts.refuses g.met.P.Parts.reads_exactly g.met.P.Parts.part_laws gives.arguments c.args.bytes.now c.batches_in.new.c.rest c.told.result
    (subst (λ (w : Walk). ArgumentsThen g.P.Parts.spells (pos 0) gives.arguments w.rest c.batches_in.new.c.rest) c.new-c.ensures gives.stand)
    (subst (λ (l : List ℕ). SaysBatch c.told.result (told_by (batches_of gives.arguments) l)) c.rest.ensures (c.told.ensures _ gives.held))

pub returns-in-Err : goal.returns-in-Err
returns-in-Err g c =
    says_refused g.P.Parts.spells g.P.Parts.reads g.P.Parts.then_varint g.P.Parts.refuses g.met.P.Parts.reads_exactly g.met.P.Parts.part_laws _ c.args.bytes.now c.in-Err.cause
    (subst (λ (w : Walk). AnswersRefusals {A = Batches} (argument_texts g.P.Parts.spells g.P.Parts.then_varint) (RefusedArguments g.P.Parts.spells g.P.Parts.refuses) (Err c.in-Err.cause) w.rest) c.new-c.ensures c.in-Err.ensures.refused) refl
