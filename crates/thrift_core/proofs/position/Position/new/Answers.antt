use Rattle.std.proofs.Common.{refl}
use Rattle.thrift_core.proofs.position.Position.new.Goals as goal

pub returns : goal.returns
returns c = (c.new.ensures, (c.new-2.ensures, refl))
