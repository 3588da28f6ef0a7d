use Rattle.http_conn.proofs.StatusLemmas.{next_status, next_within, none_needs}
use Rattle.http_conn.proofs.laws.whole_requests.Goals as goal

pub returns : goal.returns
returns c = record { within = next_within; status = next_status; none = none_needs }
