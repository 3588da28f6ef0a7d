use Rattle.std.proofs.Common.{ℕ, Bool, List, Ok, Err, refl}
use Rattle.span_agent.specs.Headers.{HeaderThen}
use Rattle.span_agent.proofs.MessageLemmas.{found_message, found_no_cause, no_header_cause, no_header_message, other_name_cause, other_name_message, refused_cause, refused_no_message}
use Rattle.span_agent.proofs.message.read_message.Goals as goal

pub returns-in_default-clause-message : goal.returns-in_default-clause-message
returns-in_default-clause-message c = λ compact batch.
    let none : (b : Bool) (name rest : List ℕ) → HeaderThen b name c.args.datagram.now rest → ⊥ = λ b name rest h. c.in_default.ensures.only b name rest h in
    (λ never. absurd never, λ h. absurd (no_header_message c.args.datagram.now none compact batch h))

pub returns-in_default-clause-cause : goal.returns-in_default-clause-cause
returns-in_default-clause-cause c = λ cause.
    no_header_cause c.args.datagram.now (λ b name rest h. c.in_default.ensures.only b name rest h) cause

pub returns-then-not-is_emit_batch-clause-message : goal.returns-then-not-is_emit_batch-clause-message
returns-then-not-is_emit_batch-clause-message c = λ compact batch. (
  λ never. absurd never,
  λ h. absurd (other_name_message c.args.datagram.now c.in-Some.header.compact c.in-Some.header.name.now c.in-Some.header.rest.now
      c.in-Some.ensures.only (λ e. let never = c.is_emit_batch.ensures.1 e in cc) compact batch h),
)

pub returns-then-not-is_emit_batch-clause-cause : goal.returns-then-not-is_emit_batch-clause-cause
returns-then-not-is_emit_batch-clause-cause c = λ cause.
    other_name_cause c.args.datagram.now c.in-Some.header.compact c.in-Some.header.name.now c.in-Some.header.rest.now c.in-Some.ensures.found
    c.in-Some.ensures.only (λ e. let never = c.is_emit_batch.ensures.1 e in cc) cause

pub returns-in-Ok-clause-message : goal.returns-in-Ok-clause-message
returns-in-Ok-clause-message c = λ compact batch.
    found_message c.args.datagram.now c.in-Some.header.compact c.in-Some.header.name.now c.in-Some.header.rest.now c.in-Some.ensures.found
    c.in-Some.ensures.only (c.is_emit_batch.ensures.0 c.if-not-is_emit_batch.false) (Ok c.in-Ok.batch) c.in-Ok.ensures c.in-Ok.batch refl compact batch

pub returns-in-Ok-clause-cause : goal.returns-in-Ok-clause-cause
returns-in-Ok-clause-cause c = λ cause. (
  λ never. absurd (let e : _ = never in cc),
  λ h. absurd (found_no_cause c.args.datagram.now c.in-Some.header.compact c.in-Some.header.name.now c.in-Some.header.rest.now c.in-Some.ensures.found
      c.in-Some.ensures.only (c.is_emit_batch.ensures.0 c.if-not-is_emit_batch.false) (Ok c.in-Ok.batch) c.in-Ok.ensures c.in-Ok.batch refl cause h),
)

pub returns-in-Err-clause-message : goal.returns-in-Err-clause-message
returns-in-Err-clause-message c = λ compact batch. (
  λ never. absurd never,
  λ h. absurd (refused_no_message c.args.datagram.now c.in-Some.header.compact c.in-Some.header.name.now c.in-Some.header.rest.now c.in-Some.ensures.found
      c.in-Some.ensures.only (c.is_emit_batch.ensures.0 c.if-not-is_emit_batch.false) (Err c.in-Err.cause) c.in-Err.ensures c.in-Err.cause refl compact batch h),
)

pub returns-in-Err-clause-cause : goal.returns-in-Err-clause-cause
returns-in-Err-clause-cause c = λ cause.
    refused_cause c.args.datagram.now c.in-Some.header.compact c.in-Some.header.name.now c.in-Some.header.rest.now c.in-Some.ensures.found
    c.in-Some.ensures.only (c.is_emit_batch.ensures.0 c.if-not-is_emit_batch.false) (Err c.in-Err.cause) c.in-Err.ensures c.in-Err.cause refl cause
