use Rattle.trace_model.specs.Remarks.{numbered}
use Rattle.otlp_json.proofs.reading.events.FoundEventsRows.with_room.Goals as goal

pub returns-clause-none : goal.returns-clause-none
unfolding numbered
returns-clause-none c = λ span. record { events = c.in_ok-with_room.ensures; remarked = c.new.ensures }
