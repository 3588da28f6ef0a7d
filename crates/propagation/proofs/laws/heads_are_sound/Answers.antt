use Rattle.propagation.proofs.ProperHeads.{head_proper}
use Rattle.propagation.proofs.SoundHeads.{head_sound}
use Rattle.propagation.proofs.laws.heads_are_sound.Goals as goal

pub returns : goal.returns
returns c = record { sound = head_sound; proper = head_proper }
