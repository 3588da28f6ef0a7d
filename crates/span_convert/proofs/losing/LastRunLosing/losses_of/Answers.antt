use Rattle.std.proofs.Common.{◌∙◌}
use Rattle.span_convert.proofs.LossTargets.{stands_behind}
use Rattle.span_convert.proofs.losing.LastRunLosing.losses_of.Goals as goal

pub returns-clause-behind : goal.returns-clause-behind
returns-clause-behind c = λ groups was.
    stands_behind groups c.args.group.now c.take-before.result c.in_ok-self.field-0 c.in_ok-self.ensures (c.take-before.ensures.value ∙ was)
