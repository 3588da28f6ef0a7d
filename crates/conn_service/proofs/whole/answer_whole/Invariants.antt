use Rattle.std.proofs.Common.{length}
use Rattle.http_conn.specs.NextRequests.{Knows}
use Rattle.conn_service.proofs.WholeLemmas.{SoFar}
use Rattle.conn_service.proofs.whole.answer_whole.Given as goal

abbrev pub invariant-requests : goal.invariant-requests
invariant-requests g l = record {
  so_far : SoFar (g.S.Service.answers l.limits) (g.S.Service.halts l.limits) l.limits l.initial.service l.service
      (g.C.Duplex.link l.initial.conn) (g.C.Duplex.link l.conn) l.initial.pending l.pending;
  led : g.S.Service.leads l.initial.service l.service;
  knows : Knows l.limits l.pending l.known;
}

abbrev pub decreases-requests : goal.decreases-requests
decreases-requests g l = length l.pending
