use Rattle.std.proofs.Common.{◌↔◌, ℕ, Bool, List, Result, sym, subst}
use Rattle.span_agent.specs.Messages.{TellsBatchIn}
use Rattle.span_agent.specs.private.Arguments.{SaysBatch}
use Rattle.span_agent.specs.declared.message.AgentCause.{AgentCause}
use Rattle.span_agent.proofs.message.batch_by.Goals as goal

pub returns-then-compact : goal.returns-then-compact
returns-then-compact c =
    subst (λ (b : Bool). (told : Result (List ℕ) AgentCause) → TellsBatchIn b c.args.bytes.now told ↔ SaysBatch c.batch_in.result told) (sym c.if-compact.true) c.batch_in.ensures

pub returns : goal.returns
returns c =
    subst (λ (b : Bool). (told : Result (List ℕ) AgentCause) → TellsBatchIn b c.args.bytes.now told ↔ SaysBatch c.batch_in-2.result told) (sym c.if-compact.false) c.batch_in-2.ensures
