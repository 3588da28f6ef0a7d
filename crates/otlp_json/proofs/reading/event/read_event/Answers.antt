use Rattle.json_members.proofs.PartLaws.{reading_ends}
use Rattle.otlp_json.specs.Span.{event_members}
use Rattle.otlp_json.proofs.reading.event.read_event.Goals as goal

pub returns-clause-judged : goal.returns-clause-judged
unfolding event_members
returns-clause-judged c = reading_ends event_members _ 4 c.in_ok-dropped.ensures.goes_on tt
