use Rattle.trace_model.proofs.EventBack.{read_back}
use Rattle.trace_model.proofs.laws.event_texts_read_back.Goals as goal

pub returns : goal.returns
returns c = record { read_back = read_back }
