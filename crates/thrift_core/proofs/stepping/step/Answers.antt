use Rattle.std.proofs.Common.{arith}
use Rattle.thrift_core.proofs.StackSteps.{value_halted_as, value_passed, end_opened, left_level}
use Rattle.thrift_core.proofs.stepping.step.Goals as goal

pub returns-in_err-value_step-in-Value-clause-stepped : goal.returns-in_err-value_step-in-Value-clause-stepped
returns-in_err-value_step-in-Value-clause-stepped g c =
    value_halted_as g.P.Parts.spells g.P.Parts.reads c.args.stack.now c.value_step.new.stack c.args.c.now.rest c.value_step.new.c.rest c.in-Value.kind c.in-Value.held c.in-Value.behind
    c.in_err-value_step-in-Value.field-0.0 c.from_residual.result c.in-Value.ensures.first c.in_err-value_step-in-Value.ensures.stepped c.from_residual.ensures.1

pub returns-in-End-clause-stepped : goal.returns-in-End-clause-stepped
returns-in-End-clause-stepped g c =
    left_level g.P.Parts.spells g.P.Parts.reads c.args.stack.now c.leave.new.self c.args.c.now.rest c.args.c.now.rest c.leave.result
    (end_opened g.P.Parts.spells c.args.stack.now c.args.c.now.rest c.in-End.ensures.first) c.leave.ensures.open c.leave.ensures.fewer (omega (arith, c.in-End.ensures.first.0))

pub returns-in_ok-value_step-in-Value-clause-stepped : goal.returns-in_ok-value_step-in-Value-clause-stepped
returns-in_ok-value_step-in-Value-clause-stepped g c =
    value_passed g.P.Parts.spells g.P.Parts.reads c.args.stack.now c.value_step.new.stack c.args.c.now.rest c.value_step.new.c.rest c.in-Value.kind c.in-Value.held c.in-Value.behind
    c.in-Value.ensures.first c.in_ok-value_step-in-Value.ensures.stepped (c.in_ok-value_step-in-Value.ensures.nearer c.in-Value.ensures.held)
