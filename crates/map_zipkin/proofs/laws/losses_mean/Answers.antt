use Rattle.map_zipkin.proofs.LossesMeant.{losses_mean}
use Rattle.map_zipkin.proofs.laws.losses_mean.Goals as goal

pub returns : goal.returns
returns c = losses_mean c.texts_for_bytes.ensures.none
