use Rattle.thrift_core.proofs.Stacks.{opens_struct}
use Rattle.thrift_core.proofs.stack.Stack.new.Goals as goal

pub returns : goal.returns
returns c = opens_struct c.new.result.items c.new.ensures
