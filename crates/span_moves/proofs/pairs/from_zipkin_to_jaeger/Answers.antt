use Rattle.span_moves.proofs.PairLaws.{from_zipkin_to_jaeger}
use Rattle.span_moves.proofs.pairs.from_zipkin_to_jaeger.Goals as goal

pub returns : goal.returns
returns c = from_zipkin_to_jaeger c.normal_forms.ensures c.regroupings.ensures
