use Rattle.span_moves.proofs.PairLaws.{from_jaeger_to_zipkin}
use Rattle.span_moves.proofs.pairs.from_jaeger_to_zipkin.Goals as goal

pub returns : goal.returns
returns c = from_jaeger_to_zipkin c.texts_for_bytes.ensures.double c.zipkin_normal_forms.ensures
