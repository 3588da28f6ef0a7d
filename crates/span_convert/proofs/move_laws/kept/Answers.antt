use Rattle.span_convert.proofs.MoveLaws.{kept}
use Rattle.span_convert.proofs.move_laws.kept.Goals as goal

pub returns : goal.returns
returns c = kept c.spans_kept.ensures
