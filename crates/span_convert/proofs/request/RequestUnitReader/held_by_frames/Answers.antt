use Rattle.span_convert.proofs.WalkLemmas.{request_frames}
use Rattle.span_convert.proofs.request.RequestUnitReader.held_by_frames.Goals as goal

pub returns : goal.returns
returns c = request_frames c.one_step.ensures c.pieces.ensures
