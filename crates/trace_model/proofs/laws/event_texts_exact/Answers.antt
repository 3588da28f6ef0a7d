use Rattle.trace_model.proofs.EventExact.{texts_exact}
use Rattle.trace_model.proofs.laws.event_texts_exact.Goals as goal

pub returns : goal.returns
returns c = texts_exact
