use Rattle.map_zipkin.proofs.SpanBack.{spans_read_back}
use Rattle.map_zipkin.proofs.laws.spans_read_back.Goals as goal

pub returns : goal.returns
returns c = spans_read_back c.event_texts_exact.ensures c.event_texts_read_back.ensures.read_back
