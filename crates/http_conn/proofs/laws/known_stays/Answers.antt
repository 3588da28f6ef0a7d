use Rattle.http_conn.proofs.NextLemmas.{known_first, known_more}
use Rattle.http_conn.proofs.laws.known_stays.Goals as goal

pub returns : goal.returns
returns c = record { first = known_first; stays = known_more }
