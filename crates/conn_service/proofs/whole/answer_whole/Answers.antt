use Rattle.std.proofs.Common.{Err, take, sym, ap, subst, ◌∙◌}
use Rattle.std.proofs.lemmas.Result.{err_from_is_err_and}
use Rattle.http_conn.specs.NextRequests.{IsNext, Knows}
use Rattle.http_conn.specs.declared.next.Next.TheVariants.{Whole, Refuse}
use Rattle.conn_service.specs.private.Steps.{Replies}
use Rattle.conn_service.proofs.WholeLemmas.{closed, refusal_fault, refused_last, replied, reply_fault}
use Rattle.conn_service.proofs.whole.answer_whole.Goals as goal

pub next_request_from-requires-clause-known : goal.next_request_from-requires-clause-known
next_request_from-requires-clause-known g c =
    subst (λ l. Knows c.args.limits.now l c.requests.known) (sym c.as_slice.ensures) c.requests.invariant.knows

pub returns-in-Need-clause-known : goal.returns-in-Need-clause-known
returns-in-Need-clause-known g c = λ none.
    subst (λ l. Knows c.args.limits.now l c.next_request_from.new.known) c.as_slice.ensures c.in-Need.ensures.known

pub returns-in_err-refuse-in-Refuse-clause-answers : goal.returns-in_err-refuse-in-Refuse-clause-answers
returns-in_err-refuse-in-Refuse-clause-answers g c =
    let limits = c.args.limits.now in
    let status = c.in-Refuse.status in
    let p = err_from_is_err_and c.from_residual.result c.from_residual.ensures.1 in
    let refuses : IsNext limits c.requests.pending (Refuse status) = subst (λ l. IsNext limits l (Refuse status)) c.as_slice.ensures c.in-Refuse.ensures.is in
    rw (p.1 ∙ ap Err p.2)
    (refusal_fault (g.S.Service.answers limits) (g.S.Service.halts limits) limits c.gains_then.ensures c.args.service.now (g.C.Duplex.link c.args.conn.now) c.args.pending.now
    c.requests.service status (g.C.Duplex.link c.requests.conn) (g.C.Duplex.link c.refuse.new.conn) c.requests.pending c.in_err-refuse-in-Refuse.field-0.0 refuses
    c.requests.invariant.so_far c.in_err-refuse-in-Refuse.ensures c.requests.pending)

pub returns-in-Refuse-clause-answers : goal.returns-in-Refuse-clause-answers
returns-in-Refuse-clause-answers g c =
    let limits = c.args.limits.now in
    let status = c.in-Refuse.status in
    let refuses : IsNext limits c.requests.pending (Refuse status) = subst (λ l. IsNext limits l (Refuse status)) c.as_slice.ensures c.in-Refuse.ensures.is in
    refused_last (g.S.Service.answers limits) (g.S.Service.halts limits) limits c.gains_then.ensures c.args.service.now (g.C.Duplex.link c.args.conn.now) c.args.pending.now
    c.requests.service (g.C.Duplex.link c.requests.conn) (g.C.Duplex.link c.refuse.new.conn) c.requests.pending status
    c.requests.invariant.so_far refuses c.in_ok-refuse-in-Refuse.ensures

pub returns-in_err-reply-in-Whole-clause-answers : goal.returns-in_err-reply-in-Whole-clause-answers
returns-in_err-reply-in-Whole-clause-answers g c =
    let limits = c.args.limits.now in
    let answers = g.S.Service.answers limits in
    let halts = g.S.Service.halts limits in
    let request = c.in-Whole.request in
    let p = err_from_is_err_and c.from_residual-in_err-reply-in-Whole.result c.from_residual-in_err-reply-in-Whole.ensures.1 in
    let whole : IsNext limits c.requests.pending (Whole request) = subst (λ l. IsNext limits l (Whole request)) c.as_slice.ensures c.in-Whole.ensures.is in
    let fault = c.in_err-reply-in-Whole.field-0.0 in
    let before = g.C.Duplex.link c.requests.conn in
    let after = g.C.Duplex.link c.reply.new.conn in
    rw (p.1 ∙ ap Err p.2)
    (reply_fault answers halts limits c.gains_then.ensures c.args.service.now (g.C.Duplex.link c.args.conn.now) c.args.pending.now
    c.requests.service c.reply.new.service request before after c.requests.pending fault whole c.requests.invariant.so_far
    (subst (λ l. Replies answers halts limits c.requests.service c.reply.new.service before after request (take request.length l) (Err fault))
    c.as_slice-in-Whole.ensures c.in_err-reply-in-Whole.ensures.replies)
    c.requests.pending)

pub returns-then-request-clause-answers : goal.returns-then-request-clause-answers
returns-then-request-clause-answers g c =
    let limits = c.args.limits.now in
    let answers = g.S.Service.answers limits in
    let request = c.in-Whole.request in
    let whole : IsNext limits c.requests.pending (Whole request) = subst (λ l. IsNext limits l (Whole request)) c.as_slice.ensures c.in-Whole.ensures.is in
    let sent = c.in_ok-reply-in-Whole.ensures.replies in
    let answered : answers c.requests.service request (take request.length c.requests.pending) sent.0 c.reply.new.service =
    subst (λ l. answers c.requests.service request (take request.length l) sent.0 c.reply.new.service) c.as_slice-in-Whole.ensures sent.1 in
    closed answers (g.S.Service.halts limits) limits c.gains_then.ensures c.args.service.now (g.C.Duplex.link c.args.conn.now) c.args.pending.now
    c.requests.service c.reply.new.service request c.requests.pending sent.0 whole answered
    (g.C.Duplex.link c.requests.conn) (g.C.Duplex.link c.reply.new.conn) c.requests.invariant.so_far c.if-request.true sent.2

pub requests-preserved : goal.requests-preserved
requests-preserved g c =
    let limits = c.args.limits.now in
    let answers = g.S.Service.answers limits in
    let halts = g.S.Service.halts limits in
    let request = c.in-Whole.request in
    let whole : IsNext limits c.requests.pending (Whole request) = subst (λ l. IsNext limits l (Whole request)) c.as_slice.ensures c.in-Whole.ensures.is in
    let sent = c.in_ok-reply-in-Whole.ensures.replies in
    let answered : answers c.requests.service request (take request.length c.requests.pending) sent.0 c.reply.new.service =
    subst (λ l. answers c.requests.service request (take request.length l) sent.0 c.reply.new.service) c.as_slice-in-Whole.ensures sent.1 in
    let start = g.C.Duplex.link c.args.conn.now in
    let after = g.C.Duplex.link c.reply.new.conn in
    record {
      so_far = replied answers halts limits c.gains_then.ensures c.args.service.now start c.args.pending.now
          c.requests.service c.reply.new.service request c.requests.pending sent.0 whole answered (g.C.Duplex.link c.requests.conn) after c.advance.new.self
          c.requests.invariant.so_far c.if-request.false sent.2 c.advance.ensures;
      led = g.met.S.Service.leads_then c.args.service.now c.requests.service c.reply.new.service c.requests.invariant.led c.in_ok-reply-in-Whole.ensures.leads;
      knows = c.known_stays.ensures.first limits c.advance.new.self;
    }
