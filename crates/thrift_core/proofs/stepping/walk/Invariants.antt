use Rattle.thrift_core.proofs.StackSteps.{Onward}
use Rattle.thrift_core.specs.private.StackWalks.{steps_left}
use Rattle.thrift_core.proofs.stepping.walk.Given as goal

abbrev pub invariant-steps : goal.invariant-steps
invariant-steps g l = Onward g.P.Parts.spells l.initial.stack l.initial.c l.stack l.c

abbrev pub decreases-steps : goal.decreases-steps
decreases-steps g l = steps_left l.stack l.c.rest
