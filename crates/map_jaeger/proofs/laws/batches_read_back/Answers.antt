use Rattle.map_jaeger.proofs.GroupLaws.{batches_read_back}
use Rattle.map_jaeger.proofs.laws.batches_read_back.Goals as goal

pub returns : goal.returns
returns c = batches_read_back c.rising_attributes.ensures.unrepeated
