use Rattle.trace_model.proofs.EventSome.{some_or_none}
use Rattle.trace_model.proofs.laws.event_texts_or_none.Goals as goal

pub returns : goal.returns
returns c = record { some_or_none = some_or_none }
