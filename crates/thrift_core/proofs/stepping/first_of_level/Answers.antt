use Rattle.std.proofs.Common.{arith}
use Rattle.thrift_core.proofs.StackSteps.{elements_over, pairs_over}
use Rattle.thrift_core.proofs.stepping.first_of_level.Goals as goal

pub returns-in-None-clause-first : goal.returns-in-None-clause-first
returns-in-None-clause-first c = elements_over c.args.level c.in-Elements.kind c.in-Elements.many c.in-Elements.is (omega (arith, c.in-None.ensures))

pub returns-in-None-checked_sub-clause-first : goal.returns-in-None-checked_sub-clause-first
returns-in-None-checked_sub-clause-first c = pairs_over c.args.level c.in-Pairs.key c.in-Pairs.value c.in-Pairs.many c.in-Pairs.is (omega (arith, c.in-None-checked_sub.ensures))
