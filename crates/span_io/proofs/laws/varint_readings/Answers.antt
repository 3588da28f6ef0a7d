use Rattle.span_io.proofs.VarintFacts.{varint_laws}
use Rattle.span_io.proofs.laws.varint_readings.Goals as goal

pub returns : goal.returns
returns c = varint_laws
