use Rattle.http_conn.specs.NextRequests.{Knows}
use Rattle.conn_vectors.proofs.pieces.in_pieces.Given as goal

abbrev pub invariant-pieces : goal.invariant-pieces
invariant-pieces l = Knows l.limits l.came l.known
