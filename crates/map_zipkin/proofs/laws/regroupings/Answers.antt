use Rattle.map_zipkin.proofs.Regrouping.{regroupings}
use Rattle.map_zipkin.proofs.laws.regroupings.Goals as goal

pub returns : goal.returns
returns c = regroupings
