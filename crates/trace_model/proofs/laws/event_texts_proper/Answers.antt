use Rattle.trace_model.proofs.EventProper.{texts_proper}
use Rattle.trace_model.proofs.laws.event_texts_proper.Goals as goal

pub returns : goal.returns
returns c = texts_proper
