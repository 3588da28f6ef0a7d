use Rattle.span_vectors.proofs.Verdicts.{held, converted}
use Rattle.span_vectors.proofs.laws.gauge_is_converted.Goals as goal

pub returns : goal.returns
returns c = record {
  held = held;
  converted = λ to spans few. converted c.shortest_record.ensures c.converts_to_itself.ensures c.equal_texts.ensures spans few to;
}
