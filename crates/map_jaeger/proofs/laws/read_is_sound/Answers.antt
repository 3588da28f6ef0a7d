use Rattle.map_jaeger.proofs.SoundGroups.{resource_sound, scopes_sound}
use Rattle.map_jaeger.proofs.laws.read_is_sound.Goals as goal

pub returns : goal.returns
returns c = λ batch. record { resource = resource_sound batch; scopes = scopes_sound batch.spans }
