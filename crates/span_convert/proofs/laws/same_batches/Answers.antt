use Rattle.span_convert.specs.Reports.{written_target}
use Rattle.span_convert.proofs.SameVerdicts.{same_verdicts}
use Rattle.span_convert.proofs.laws.same_batches.Goals as goal

pub returns : goal.returns
returns c = λ from other what. same_verdicts c.input_laws.ensures c.tree_laws.ensures from other (written_target what)
