use Rattle.std.proofs.Common.{ap}
use Rattle.std.specs.Prelude.{Some}
use Rattle.propagation.proofs.UberLemmas.{parent_once}
use Rattle.propagation.proofs.uber.read_parent.Goals as goal

pub returns-then-is_zero-clause-only : goal.returns-then-is_zero-clause-only
returns-then-is_zero-clause-only c = λ parent h. ap Some (parent_once c.args.text.now parent (c.is_zero.ensures.0 c.if-is_zero.true) h)
