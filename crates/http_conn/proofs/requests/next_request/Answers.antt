use Rattle.http_conn.proofs.NextLemmas.{known_first}
use Rattle.http_conn.proofs.requests.next_request.Goals as goal

pub next_request_from-requires-clause-known : goal.next_request_from-requires-clause-known
next_request_from-requires-clause-known c = known_first c.args.limits.now c.args.bytes.now
