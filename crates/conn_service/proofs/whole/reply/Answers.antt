use Rattle.conn_service.proofs.WholeLemmas.{sent_reply}
use Rattle.conn_service.proofs.whole.reply.Goals as goal

pub returns-in-Ok-answer-clause-replies : goal.returns-in-Ok-answer-clause-replies
returns-in-Ok-answer-clause-replies g c =
    let limits = c.args.limits.now in
    sent_reply (g.S.Service.answers limits) (g.S.Service.halts limits) limits c.args.service.now c.answer.new.self c.args.request.now c.args.bytes.now c.answer.new.out
    (g.C.Duplex.link c.args.conn.now) (g.C.Duplex.link c.send.new.conn) c.send.result (rw c.in-Ok.ensures at c.in-Ok-answer.ensures.ok) c.send.ensures
