use Rattle.span_moves.proofs.KeptDoubles.{no_double_made}
use Rattle.span_moves.proofs.kept.no_double_made.Goals as goal

pub returns : goal.returns
returns c = no_double_made c.texts_for_bytes.ensures.double c.regroupings.ensures
