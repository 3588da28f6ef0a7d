use Rattle.map_jaeger.proofs.GroupLaws.{read_is_normal}
use Rattle.map_jaeger.proofs.laws.read_is_normal.Goals as goal

pub returns : goal.returns
returns c = read_is_normal
