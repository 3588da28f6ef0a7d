use Rattle.span_moves.proofs.KeptSpans.{spans_kept}
use Rattle.span_moves.proofs.kept.spans_kept.Goals as goal

pub returns : goal.returns
returns c = spans_kept c.regroupings.ensures.spans
