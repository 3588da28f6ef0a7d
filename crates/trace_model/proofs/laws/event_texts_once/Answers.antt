use Rattle.trace_model.proofs.EventOnce.{one_name, one_list, no_bytes, no_double}
use Rattle.trace_model.proofs.laws.event_texts_once.Goals as goal

pub returns : goal.returns
returns c = record { one_name = one_name; one_list = one_list; no_bytes = no_bytes; no_double = no_double }
