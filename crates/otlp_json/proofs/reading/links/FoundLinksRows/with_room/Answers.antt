use Rattle.std.proofs.Common.{refl}
use Rattle.trace_model.specs.Remarks.{numbered}
use Rattle.otlp_json.proofs.reading.links.FoundLinksRows.with_room.Goals as goal

pub returns-clause-none : goal.returns-clause-none
unfolding numbered
returns-clause-none c = λ span. record { links = c.in_ok-with_room.ensures; any_dropped = refl; remarked = c.new.ensures }
