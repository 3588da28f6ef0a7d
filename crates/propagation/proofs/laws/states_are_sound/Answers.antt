use Rattle.propagation.proofs.OneTracestate.{state_reads_back}
use Rattle.propagation.proofs.SoundHeads.{state_sound}
use Rattle.propagation.proofs.laws.states_are_sound.Goals as goal

pub returns : goal.returns
returns c = record { own = λ value state h. state_reads_back h; sound = state_sound }
