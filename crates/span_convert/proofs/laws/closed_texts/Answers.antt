use Rattle.span_convert.proofs.TargetLaws.{closed}
use Rattle.span_convert.proofs.laws.closed_texts.Goals as goal

pub returns : goal.returns
returns c = closed
