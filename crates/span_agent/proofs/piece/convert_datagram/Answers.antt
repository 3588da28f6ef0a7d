use Rattle.std.proofs.Common.{refl, sym, subst, arith}
use Rattle.span_io.specs.declared.form.Form.{Form}
use Rattle.span_convert.specs.OneBatches.{IsOneBatch}
use Rattle.span_convert.specs.Verdicts.{IsVerdict}
use Rattle.span_agent.specs.Messages.{IsMessage}
use Rattle.span_agent.specs.Pieces.{of_batch, no_message, by_verdict}
use Rattle.span_agent.proofs.ContentLemmas.{batch_within, one_batch}
use Rattle.span_agent.proofs.PieceLemmas.{says_batch, says_cause}
use Rattle.span_agent.proofs.piece.convert_datagram.Goals as goal

pub piece_of-requires-clause-one : goal.piece_of-requires-clause-one
piece_of-requires-clause-one c =
    let found : IsMessage c.args.datagram.now c.in-Ok.message.compact c.in-Ok.message.batch.now =
    (c.in-Ok.ensures.message c.in-Ok.message.compact c.in-Ok.message.batch.now).0 (refl, refl) in
    subst (λ (f : Form). IsOneBatch f c.in-Ok.message.batch.now) (sym c.form_in.ensures) (one_batch c.args.datagram.now c.in-Ok.message.compact c.in-Ok.message.batch.now found)

pub piece_of-requires-clause-unit : goal.piece_of-requires-clause-unit
piece_of-requires-clause-unit c =
    let found : IsMessage c.args.datagram.now c.in-Ok.message.compact c.in-Ok.message.batch.now =
    (c.in-Ok.ensures.message c.in-Ok.message.compact c.in-Ok.message.batch.now).0 (refl, refl) in
    omega (arith, batch_within c.args.datagram.now c.in-Ok.message.compact c.in-Ok.message.batch.now found, c.requires.small, c.requires.unit)

pub piece_of-requires-clause-binary : goal.piece_of-requires-clause-binary
piece_of-requires-clause-binary c =
    let found : IsMessage c.args.datagram.now c.in-Ok.message.compact c.in-Ok.message.batch.now =
    (c.in-Ok.ensures.message c.in-Ok.message.compact c.in-Ok.message.batch.now).0 (refl, refl) in
    omega (arith, batch_within c.args.datagram.now c.in-Ok.message.compact c.in-Ok.message.batch.now found, c.requires.small, c.requires.binary)

pub returns-in-Ok-clause-exists : goal.returns-in-Ok-clause-exists
returns-in-Ok-clause-exists c =
    let found : IsMessage c.args.datagram.now c.in-Ok.message.compact c.in-Ok.message.batch.now =
    (c.in-Ok.ensures.message c.in-Ok.message.compact c.in-Ok.message.batch.now).0 (refl, refl) in
    let exists = c.piece_of.ensures.exists in (
      by_verdict c.args.to exists.0,
      of_batch c.in-Ok.message.compact c.in-Ok.message.batch.now exists.0 found
          (subst (λ (f : Form). IsVerdict f c.args.to c.args.limits.now c.in-Ok.message.batch.now exists.0) c.form_in.ensures exists.1) refl,
    )

pub returns-in-Ok-clause-piece : goal.returns-in-Ok-clause-piece
returns-in-Ok-clause-piece c =
    says_batch c.args.to c.args.limits.now c.args.datagram.now c.in-Ok.message.compact c.in-Ok.message.batch.now c.piece_of.result
    (λ cause h. let never = (c.in-Ok.ensures.cause cause).1 h in cc)
    (λ compact batch h. (c.in-Ok.ensures.message compact batch).1 h)
    (λ verdict v. c.piece_of.ensures.piece verdict (subst (λ (f : Form). IsVerdict f c.args.to c.args.limits.now c.in-Ok.message.batch.now verdict) (sym c.form_in.ensures) v))

pub returns-in-Err-clause-exists : goal.returns-in-Err-clause-exists
returns-in-Err-clause-exists c = (_, no_message c.in-Err.cause ((c.in-Err.ensures.cause c.in-Err.cause).0 refl) refl)

pub returns-in-Err-clause-piece : goal.returns-in-Err-clause-piece
returns-in-Err-clause-piece c =
    says_cause c.args.to c.args.limits.now c.args.datagram.now c.in-Err.cause
    (λ other h. let same = (c.in-Err.ensures.cause other).1 h in cc)
    (λ compact batch h. (c.in-Err.ensures.message compact batch).1 h)
