use Rattle.std.proofs.Common.{ℕ, List, Ok, Err, Option, sym, ap, subst, ◌∙◌, arith}
use Rattle.std.proofs.lemmas.Result.{err_from_is_err_and}
use Rattle.http_conn.specs.NextRequests.{Knows}
use Rattle.conn_service.specs.private.Steps.{AnswersAll, AnswersLast, AnswersWhole, EndsHere}
use Rattle.conn_service.specs.declared.ended.Ended.{Ended}
use Rattle.conn_service.proofs.ServeLemmas.{Progress, exit_answers, exit_last, exit_nothing, exit_reads, goes_none, goes_piece, progress_more, progress_start, waits_answers}
use Rattle.conn_service.proofs.serving.serve_pieces.Goals as goal

pub pieces-init : goal.pieces-init
pieces-init g c =
    let limits = c.args.limits.now in
    let now = g.C.Duplex.link c.args.conn.now in
    let answers = g.S.Service.answers limits in
    let halts = g.S.Service.halts limits in
    record {
      room = c.requires.room;
      progress = subst (λ l. Progress answers halts g.S.Service.leads limits c.args.service.now c.args.service.now now now l limits.binary) (sym c.new-pending.ensures)
          (progress_start answers halts g.S.Service.leads limits c.gains_then.ensures c.args.service.now now);
      goes = goes_none now;
      led = g.met.S.Service.leads_none c.args.service.now;
      knows = c.known_stays.ensures.first limits c.new-pending.result;
    }

pub returns-in_err-ended : goal.returns-in_err-ended
returns-in_err-ended g c =
    let limits = c.args.limits.now in
    let p = err_from_is_err_and c.from_residual.result c.from_residual.ensures.1 in
    let e = exit_answers (g.S.Service.answers limits) (g.S.Service.halts limits) g.S.Service.leads limits g.met.S.Service.leads_none g.met.S.Service.leads_then
    c.gains_then.ensures c.one_next_request.ensures c.whole_requests.ensures c.args.service.now (g.C.Duplex.link c.args.conn.now)
    c.pieces.service c.answer_whole.new.service (g.C.Duplex.link c.pieces.conn) (g.C.Duplex.link c.answer_whole.new.conn)
    c.pieces.pending c.answer_whole.new.pending c.pieces.most c.in_err-ended.field-0.0 c.in_err-ended.ensures.leads
    c.pieces.invariant.progress c.pieces.invariant.goes c.in_err-ended.ensures.answers in
    record {
      serves = rw (p.1 ∙ ap Err p.2) e.serves;
      mark = e.mark;
      leads = g.met.S.Service.leads_then c.args.service.now c.pieces.service c.answer_whole.new.service c.pieces.invariant.led c.in_err-ended.ensures.leads;
    }

pub returns-in-Some : goal.returns-in-Some
returns-in-Some g c =
    let limits = c.args.limits.now in
    let answers = g.S.Service.answers limits in
    let halts = g.S.Service.halts limits in
    let before = g.C.Duplex.link c.pieces.conn in
    let after = g.C.Duplex.link c.answer_whole.new.conn in
    let last : AnswersLast answers limits c.pieces.service c.answer_whole.new.service before after c.pieces.pending c.in-Some.ended =
    subst (λ (o : Option Ended). AnswersWhole answers halts limits c.pieces.service c.answer_whole.new.service before after c.pieces.pending c.answer_whole.new.pending (Ok o))
    c.in-Some.is c.in_ok-ended.ensures.answers in
    let e = exit_last answers halts g.S.Service.leads limits g.met.S.Service.leads_none g.met.S.Service.leads_then
    c.gains_then.ensures c.one_next_request.ensures c.whole_requests.ensures c.args.service.now (g.C.Duplex.link c.args.conn.now)
    c.pieces.service c.answer_whole.new.service before after c.pieces.pending c.pieces.most c.in-Some.ended c.in_ok-ended.ensures.leads
    c.pieces.invariant.progress c.pieces.invariant.goes last in
    record {
      serves = e.serves;
      mark = e.mark;
      leads = g.met.S.Service.leads_then c.args.service.now c.pieces.service c.answer_whole.new.service c.pieces.invariant.led c.in_ok-ended.ensures.leads;
    }

pub returns-in_err-given : goal.returns-in_err-given
returns-in_err-given g c =
    let limits = c.args.limits.now in
    let answers = g.S.Service.answers limits in
    let halts = g.S.Service.halts limits in
    let start = g.C.Duplex.link c.args.conn.now in
    let before = g.C.Duplex.link c.pieces.conn in
    let now = g.C.Duplex.link c.answer_whole.new.conn in
    let state = c.answer_whole.new.service in
    let all : AnswersAll answers limits c.pieces.service state before now c.pieces.pending c.answer_whole.new.pending =
    subst (λ (o : Option Ended). AnswersWhole answers halts limits c.pieces.service state before now c.pieces.pending c.answer_whole.new.pending (Ok o))
    c.in_default.is c.in_ok-ended.ensures.answers in
    let w = waits_answers answers halts g.S.Service.leads limits g.met.S.Service.leads_none g.met.S.Service.leads_then
    c.gains_then.ensures c.one_next_request.ensures c.whole_requests.ensures c.args.service.now start
    c.pieces.service state before now c.pieces.pending c.answer_whole.new.pending c.pieces.most c.in_ok-ended.ensures.leads c.pieces.invariant.progress c.pieces.invariant.goes all in
    let p = err_from_is_err_and c.from_residual-in_err-given.result c.from_residual-in_err-given.ensures.1 in
    let e = exit_reads answers halts g.S.Service.leads limits g.met.S.Service.leads_none g.met.S.Service.leads_then
    c.gains_then.ensures c.one_next_request.ensures c.whole_requests.ensures c.args.service.now start
    state now (g.C.Duplex.link c.read_more.new.conn) c.answer_whole.new.pending c.read_more.new.pending c.pieces.most
    c.in_err-given.field-0.0 w.progress w.goes w.waits c.in_err-given.ensures in
    record {
      serves = rw (p.1 ∙ ap Err p.2) e.serves;
      mark = e.mark;
      leads = g.met.S.Service.leads_then c.args.service.now c.pieces.service state c.pieces.invariant.led c.in_ok-ended.ensures.leads;
    }

pub returns-then-given-eq0 : goal.returns-then-given-eq0
returns-then-given-eq0 g c =
    let limits = c.args.limits.now in
    let answers = g.S.Service.answers limits in
    let halts = g.S.Service.halts limits in
    let start = g.C.Duplex.link c.args.conn.now in
    let before = g.C.Duplex.link c.pieces.conn in
    let now = g.C.Duplex.link c.answer_whole.new.conn in
    let state = c.answer_whole.new.service in
    let all : AnswersAll answers limits c.pieces.service state before now c.pieces.pending c.answer_whole.new.pending =
    subst (λ (o : Option Ended). AnswersWhole answers halts limits c.pieces.service state before now c.pieces.pending c.answer_whole.new.pending (Ok o))
    c.in_default.is c.in_ok-ended.ensures.answers in
    let w = waits_answers answers halts g.S.Service.leads limits g.met.S.Service.leads_none g.met.S.Service.leads_then
    c.gains_then.ensures c.one_next_request.ensures c.whole_requests.ensures c.args.service.now start
    c.pieces.service state before now c.pieces.pending c.answer_whole.new.pending c.pieces.most c.in_ok-ended.ensures.leads c.pieces.invariant.progress c.pieces.invariant.goes all in
    let e = exit_nothing answers halts g.S.Service.leads limits g.met.S.Service.leads_none g.met.S.Service.leads_then
    c.gains_then.ensures c.one_next_request.ensures c.whole_requests.ensures c.args.service.now start
    state now (g.C.Duplex.link c.read_more.new.conn) c.answer_whole.new.pending c.read_more.new.pending c.pieces.most c.in_ok-given.given
    c.ended_by.result w.progress w.goes w.waits c.in_ok-given.ensures c.if-given-eq0.true
    (subst (λ (l : List ℕ). EndsHere l c.ended_by.result) c.as_slice.ensures c.ended_by.ensures) in
    record {
      serves = e.serves;
      mark = e.mark;
      leads = g.met.S.Service.leads_then c.args.service.now c.pieces.service state c.pieces.invariant.led c.in_ok-ended.ensures.leads;
    }

pub pieces-preserved : goal.pieces-preserved
pieces-preserved g c =
    let limits = c.args.limits.now in
    let answers = g.S.Service.answers limits in
    let halts = g.S.Service.halts limits in
    let start = g.C.Duplex.link c.args.conn.now in
    let before = g.C.Duplex.link c.pieces.conn in
    let now = g.C.Duplex.link c.answer_whole.new.conn in
    let after = g.C.Duplex.link c.read_more.new.conn in
    let state = c.answer_whole.new.service in
    let all : AnswersAll answers limits c.pieces.service state before now c.pieces.pending c.answer_whole.new.pending =
    subst (λ (o : Option Ended). AnswersWhole answers halts limits c.pieces.service state before now c.pieces.pending c.answer_whole.new.pending (Ok o))
    c.in_default.is c.in_ok-ended.ensures.answers in
    let w = waits_answers answers halts g.S.Service.leads limits g.met.S.Service.leads_none g.met.S.Service.leads_then
    c.gains_then.ensures c.one_next_request.ensures c.whole_requests.ensures c.args.service.now start
    c.pieces.service state before now c.pieces.pending c.answer_whole.new.pending c.pieces.most c.in_ok-ended.ensures.leads c.pieces.invariant.progress c.pieces.invariant.goes all in
    let r = c.in_ok-given.ensures in
    record {
      room = omega (arith, c.read_more.auto.buffer, c.pieces.invariant.room);
      progress = progress_more answers halts g.S.Service.leads limits g.met.S.Service.leads_none g.met.S.Service.leads_then
          c.gains_then.ensures c.one_next_request.ensures c.whole_requests.ensures c.args.service.now start
          state now after c.answer_whole.new.pending c.read_more.new.pending c.pieces.most c.in_ok-given.given w.progress w.waits r;
      goes = goes_piece start now after c.pieces.most r.piece w.goes r.reads (omega (arith, r.number, c.if-given-eq0.false));
      led = g.met.S.Service.leads_then c.args.service.now c.pieces.service state c.pieces.invariant.led c.in_ok-ended.ensures.leads;
      knows = subst (λ (l : List ℕ). Knows limits l c.answer_whole.new.known) (sym r.appends)
          (c.known_stays.ensures.stays limits c.answer_whole.new.pending r.piece c.answer_whole.new.known (c.in_ok-ended.ensures.known (ap Ok c.in_default.is)));
    }
