use Rattle.map_jaeger.proofs.ProperBatches.{batch_proper}
use Rattle.map_jaeger.proofs.laws.written_is_proper.Goals as goal

pub returns : goal.returns
returns c = batch_proper c.texts_of_values.ensures.utf8
