use Rattle.http_conn.proofs.NextLemmas.{next_stays, one_next}
use Rattle.http_conn.proofs.laws.one_next_request.Goals as goal

pub returns : goal.returns
returns c = record { one = one_next; stays = next_stays }
