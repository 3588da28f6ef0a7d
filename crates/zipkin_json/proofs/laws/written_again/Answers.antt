use Rattle.zipkin_json.proofs.TextLemmas.{all_again}
use Rattle.zipkin_json.proofs.laws.written_again.Goals as goal

pub returns : goal.returns
returns c = all_again c.identifiers_read_back.ensures
