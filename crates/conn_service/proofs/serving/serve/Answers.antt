use Rattle.conn_service.proofs.ServeLemmas.{wants_at_once}
use Rattle.conn_service.proofs.serving.serve.Goals as goal

pub returns-in_default-clause-serves : goal.returns-in_default-clause-serves
returns-in_default-clause-serves g c =
    let limits = c.args.limits.now in
    wants_at_once (g.S.Service.answers limits) (g.S.Service.halts limits) g.S.Service.leads limits c.gains_then.ensures c.args.service.now (g.C.Duplex.link c.args.conn.now)
