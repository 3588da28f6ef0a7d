use Rattle.json_members.proofs.PartLaws.{reading_ends}
use Rattle.zipkin_json.specs.Span.{annotation_members}
use Rattle.zipkin_json.proofs.reading.annotation.read_annotation.Goals as goal

pub returns-clause-judged : goal.returns-clause-judged
unfolding annotation_members
returns-clause-judged c = reading_ends annotation_members _ 2 c.in_ok-value.ensures.goes_on tt
