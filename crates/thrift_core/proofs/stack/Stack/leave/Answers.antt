use Rattle.thrift_core.proofs.Stacks.{none_around, outer_on}
use Rattle.thrift_core.proofs.stack.Stack.leave.Goals as goal

pub returns-in-None-clause-open : goal.returns-in-None-clause-open
returns-in-None-clause-open c = none_around c.args.self.now.below.items (λ some. (let e = c.in-None.ensures.variant.1 some in cc))

pub returns-in-Some-clause-open : goal.returns-in-Some-clause-open
returns-in-Some-clause-open c = outer_on c.in-Some.outer c.pop.new.self.items c.args.self.now.below.items c.in-Some.ensures.items
