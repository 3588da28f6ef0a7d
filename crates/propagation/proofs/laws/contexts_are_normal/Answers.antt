use Rattle.propagation.proofs.NormalLemmas.{normal_once, written_alike}
use Rattle.propagation.proofs.laws.contexts_are_normal.Goals as goal

pub returns : goal.returns
returns c = record { normal_again = normal_once; same_lines = written_alike }
