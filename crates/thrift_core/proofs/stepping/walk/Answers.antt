use Rattle.std.proofs.Common.{[], refl, arith}
use Rattle.thrift_core.specs.private.StackWalks.{open_of}
use Rattle.thrift_core.proofs.Determined.{no_turns, passes_on}
use Rattle.thrift_core.proofs.StackSteps.{walk_halted, over, not_over}
use Rattle.thrift_core.proofs.stepping.walk.Goals as goal

pub steps-init : goal.steps-init
steps-init g c = record { passes = no_turns g.P.Parts.spells (open_of c.args.stack.now) c.args.c.now.rest; stays = refl }

pub returns-in_err-step-clause-walked : goal.returns-in_err-step-clause-walked
returns-in_err-step-clause-walked g c =
    walk_halted g.P.Parts.spells g.P.Parts.reads c.args.stack.now c.steps.stack c.step.new.stack c.args.c.now.rest c.steps.c.rest c.step.new.c.rest c.in_err-step.field-0.0 c.from_residual.result
    c.steps.invariant.passes c.in_err-step.ensures.stepped c.from_residual.ensures.1

pub returns-then-not-branch-clause-walked : goal.returns-then-not-branch-clause-walked
returns-then-not-branch-clause-walked g c =
    passes_on g.P.Parts.spells (open_of c.args.stack.now) c.args.c.now.rest (open_of c.steps.stack) c.steps.c.rest [] c.step.new.c.rest c.steps.invariant.passes
    (over g.P.Parts.spells g.P.Parts.reads c.steps.stack c.step.new.stack c.steps.c.rest c.step.new.c.rest c.in_ok-step.field-0 c.if-not-branch.true c.in_ok-step.ensures.stepped)

pub steps-smaller : goal.steps-smaller
steps-smaller g c = (not_over g.P.Parts.spells g.P.Parts.reads c.steps.stack c.step.new.stack c.steps.c.rest c.step.new.c.rest c.in_ok-step.field-0 c.if-not-branch.false c.in_ok-step.ensures.stepped).1

pub steps-preserved : goal.steps-preserved
steps-preserved g c = record {
  passes = passes_on g.P.Parts.spells (open_of c.args.stack.now) c.args.c.now.rest (open_of c.steps.stack) c.steps.c.rest (open_of c.step.new.stack) c.step.new.c.rest c.steps.invariant.passes
      (not_over g.P.Parts.spells g.P.Parts.reads c.steps.stack c.step.new.stack c.steps.c.rest c.step.new.c.rest c.in_ok-step.field-0 c.if-not-branch.false c.in_ok-step.ensures.stepped).0;
  stays = omega (arith, c.in_ok-step.ensures.place, c.steps.invariant.stays);
}
