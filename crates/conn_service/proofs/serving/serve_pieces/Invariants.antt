use Rattle.std.proofs.Common.{◌<◌, length}
use Rattle.http_conn.specs.NextRequests.{Knows}
use Rattle.conn_service.proofs.ServeLemmas.{Goes, Progress}
use Rattle.conn_service.proofs.serving.serve_pieces.Given as goal

abbrev pub invariant-pieces : goal.invariant-pieces
invariant-pieces g l = record {
  room : 0 < length l.buffer;
  progress : Progress (g.S.Service.answers l.limits) (g.S.Service.halts l.limits) g.S.Service.leads l.limits l.initial.service l.service
      (g.C.Duplex.link l.initial.conn) (g.C.Duplex.link l.conn) l.pending l.most;
  goes : Goes (g.C.Duplex.link l.initial.conn) (g.C.Duplex.link l.conn);
  led : g.S.Service.leads l.initial.service l.service;
  knows : Knows l.limits l.pending l.known;
}

abbrev pub decreases-pieces : goal.decreases-pieces
decreases-pieces g l = l.most
