use Rattle.span_convert.proofs.MoveLaws.{there_and_back}
use Rattle.span_convert.proofs.move_laws.there_and_back.Goals as goal

pub returns : goal.returns
returns c = there_and_back c.normal_forms.ensures c.zipkin_normal_forms.ensures c.from_jaeger_to_zipkin.ensures c.from_zipkin_to_jaeger.ensures c.no_double_made.ensures
