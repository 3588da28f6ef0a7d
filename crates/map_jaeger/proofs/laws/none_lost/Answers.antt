use Rattle.map_jaeger.proofs.NoneLost.{none_lost}
use Rattle.map_jaeger.proofs.laws.none_lost.Goals as goal

pub returns : goal.returns
returns c = none_lost
