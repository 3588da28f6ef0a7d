use Rattle.json_members.proofs.PartLaws.{reading_ends}
use Rattle.otlp_json.specs.Span.{link_members}
use Rattle.otlp_json.proofs.reading.link.read_link.Goals as goal

pub returns-clause-judged : goal.returns-clause-judged
unfolding link_members
returns-clause-judged c = reading_ends link_members _ 6 c.in_ok-flags.ensures.goes_on tt
