use Rattle.zipkin_json.proofs.ProperLemmas.{text_writable}
use Rattle.zipkin_json.proofs.laws.reads_proper.Goals as goal

pub returns : goal.returns
returns c = text_writable
