use Rattle.std.proofs.Common.{length}
use Rattle.span_agent.specs.private.Arguments.{SoFar}
use Rattle.span_agent.proofs.arguments.batches_in.Given as goal

abbrev pub invariant-fields : goal.invariant-fields
invariant-fields g l = SoFar g.P.Parts.spells l.batches l.last l.initial.c.rest l.c.rest

abbrev pub decreases-fields : goal.decreases-fields
decreases-fields g l = length l.c.rest
