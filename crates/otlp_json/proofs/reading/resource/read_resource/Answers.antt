use Rattle.json_members.proofs.PartLaws.{reading_ends}
use Rattle.otlp_json.specs.Group.{resource_members}
use Rattle.otlp_json.proofs.reading.resource.read_resource.Goals as goal

pub returns-clause-judged : goal.returns-clause-judged
unfolding resource_members
returns-clause-judged c = reading_ends resource_members _ 2 c.in_ok-dropped.ensures.goes_on tt
