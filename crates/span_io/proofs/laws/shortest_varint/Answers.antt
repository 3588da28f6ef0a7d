use Rattle.span_io.proofs.VarintFacts.{shortest_laws}
use Rattle.span_io.proofs.laws.shortest_varint.Goals as goal

pub returns : goal.returns
returns c = shortest_laws
