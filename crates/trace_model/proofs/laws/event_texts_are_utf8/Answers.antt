use Rattle.trace_model.proofs.EventExact.{texts_utf8}
use Rattle.trace_model.proofs.laws.event_texts_are_utf8.Goals as goal

pub returns : goal.returns
returns c = texts_utf8
