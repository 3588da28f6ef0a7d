use Rattle.map_zipkin.proofs.NothingLost.{nothing_lost}
use Rattle.map_zipkin.proofs.laws.nothing_lost.Goals as goal

pub returns : goal.returns
returns c = nothing_lost c.texts_for_bytes.ensures.none
