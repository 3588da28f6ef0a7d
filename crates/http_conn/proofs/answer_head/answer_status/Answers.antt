use Rattle.std.proofs.Common.{sym, subst}
use Rattle.http_conn.specs.AnswerHeads.{IsAnswerHead}
use Rattle.http_conn.proofs.AnswerHeadLemmas.{same_head}
use Rattle.http_conn.proofs.answer_head.answer_status.Goals as goal

pub returns-clause-only : goal.returns-clause-only
returns-clause-only c = λ status told.
    c.read_status.ensures.only status
    (subst (λ l. IsAnswerHead l status) (sym c.front-2.ensures)
    (same_head c.args.limits.now.head c.args.bytes.now c.front.result.now c.in_ok-place.place status c.front.ensures c.in_ok-place.ensures.some told))
