use Rattle.std.proofs.Common.{refl}
use Rattle.trace_model.specs.GroupRemarks.{scopes_remarks}
use Rattle.otlp_json.proofs.reading.scopes.FoundScopesRows.with_room.Goals as goal

pub returns-clause-none : goal.returns-clause-none
unfolding scopes_remarks
returns-clause-none c = λ number. record { scopes = c.in_ok-with_room.ensures; remarked = c.new.ensures; next_span = refl }
