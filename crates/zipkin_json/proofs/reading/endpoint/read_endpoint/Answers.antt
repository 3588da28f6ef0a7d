use Rattle.json_members.proofs.PartLaws.{reading_ends}
use Rattle.zipkin_json.specs.Span.{endpoint_members}
use Rattle.zipkin_json.proofs.reading.endpoint.read_endpoint.Goals as goal

pub returns-clause-judged : goal.returns-clause-judged
unfolding endpoint_members
returns-clause-judged c = reading_ends endpoint_members _ 4 c.in_ok-port.ensures.goes_on tt
