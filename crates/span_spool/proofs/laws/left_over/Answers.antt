use Rattle.span_spool.proofs.RunLemmas.{left_over}
use Rattle.span_spool.proofs.laws.left_over.Goals as goal

pub returns : goal.returns
returns c = left_over
