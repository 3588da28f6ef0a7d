use Rattle.std.proofs.Common.{arith}
use Rattle.thrift_core.proofs.StackSteps.{struct_entered}
use Rattle.thrift_core.proofs.stepping.value_step.Goals as goal

pub returns-in_ok-level_below-in-Struct-clause-stepped : goal.returns-in_ok-level_below-in-Struct-clause-stepped
returns-in_ok-level_below-in-Struct-clause-stepped g c =
    struct_entered g.P.Parts.spells c.args.c.now.rest c.left.result c.in_ok-level_below-in-Struct.field-0 c.args.kind c.args.held c.args.behind c.args.stack.now c.enter.new.self
    (omega (arith, c.left.ensures)) c.in_ok-level_below-in-Struct.ensures.value c.in-Struct.is c.enter.ensures.top c.enter.ensures.below
