use Rattle.propagation.proofs.WrittenValues.{traceparent_back, b3_back, uber_back}
use Rattle.propagation.proofs.laws.values_read_back.Goals as goal

pub returns : goal.returns
returns c = record {
  traceparent = traceparent_back c.identifiers_read_back.ensures;
  b3 = b3_back c.identifiers_read_back.ensures;
  uber = uber_back c.identifiers_read_back.ensures;
}
