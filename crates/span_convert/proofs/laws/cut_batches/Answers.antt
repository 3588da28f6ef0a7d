use Rattle.span_convert.proofs.CutLaws.{cut_short}
use Rattle.span_convert.proofs.laws.cut_batches.Goals as goal

pub returns : goal.returns
returns c = λ from to limits bytes text unit h. cut_short c.input_laws.ensures to limits bytes text unit from h
