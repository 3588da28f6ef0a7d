use Rattle.trace_model.proofs.RisingAttributes.{themselves, none_repeated}
use Rattle.trace_model.proofs.laws.rising_attributes.Goals as goal

pub returns : goal.returns
returns c = record { themselves = themselves; unrepeated = none_repeated }
