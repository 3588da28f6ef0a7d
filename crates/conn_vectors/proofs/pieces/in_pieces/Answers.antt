use Rattle.std.proofs.Common.{subst}
use Rattle.http_conn.specs.NextRequests.{Knows}
use Rattle.conn_vectors.proofs.pieces.in_pieces.Goals as goal

pub pieces-preserved : goal.pieces-preserved
pieces-preserved c =
    subst (λ l. Knows c.shipped-limits.result l c.next_request_from.new.known) c.as_slice.ensures c.in-Need.ensures.known
