use Rattle.json_members.proofs.PartLaws.{reading_ends}
use Rattle.otlp_json.specs.Span.{status_members}
use Rattle.otlp_json.proofs.reading.status.read_status.Goals as goal

pub returns-clause-judged : goal.returns-clause-judged
unfolding status_members
returns-clause-judged c = reading_ends status_members _ 2 c.in_ok-code.ensures.goes_on tt
