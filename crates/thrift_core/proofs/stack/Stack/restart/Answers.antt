use Rattle.thrift_core.proofs.Stacks.{opens_struct}
use Rattle.thrift_core.proofs.stack.Stack.restart.Goals as goal

pub returns : goal.returns
returns c = opens_struct c.clear.new.self.items c.clear.ensures
