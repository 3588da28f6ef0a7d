use Rattle.map_jaeger.proofs.LossesMeant.{losses_mean}
use Rattle.map_jaeger.proofs.laws.losses_mean.Goals as goal

pub returns : goal.returns
returns c = losses_mean
