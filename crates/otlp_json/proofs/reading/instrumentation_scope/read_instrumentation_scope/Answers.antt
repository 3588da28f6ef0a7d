use Rattle.json_members.proofs.PartLaws.{reading_ends}
use Rattle.otlp_json.specs.Group.{instrumentation_scope_members}
use Rattle.otlp_json.proofs.reading.instrumentation_scope.read_instrumentation_scope.Goals as goal

pub returns-clause-judged : goal.returns-clause-judged
unfolding instrumentation_scope_members
returns-clause-judged c = reading_ends instrumentation_scope_members _ 4 c.in_ok-dropped.ensures.goes_on tt
