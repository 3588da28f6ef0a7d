use Rattle.span_convert.specs.BatchFiles.{words}
use Rattle.span_convert.proofs.WalkLemmas.{batch_frames}
use Rattle.span_convert.proofs.batch_file.BatchesUnitReader.held_by_frames.Goals as goal

pub returns : goal.returns
returns g c = batch_frames (words g.P.Parts.spells g.P.Parts.reads g.P.Parts.then_varint g.P.Parts.refuses g.P.Parts.keeps g.P.Parts.writes) c.one_step.ensures c.pieces.ensures
