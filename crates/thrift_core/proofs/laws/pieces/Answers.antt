use Rattle.span_io.proofs.PieceSteps.{piece_laws}
use Rattle.thrift_core.specs.Values.{struct_frames, RefusedStruct}
use Rattle.thrift_core.proofs.TextsFrom.{outer_laws}
use Rattle.thrift_core.proofs.laws.pieces.Goals as goal

pub returns : goal.returns
returns g c = piece_laws (struct_frames g.P.Parts.spells g.P.Parts.then_varint) (RefusedStruct g.P.Parts.spells g.P.Parts.refuses)
    (outer_laws g.P.Parts.spells g.P.Parts.reads g.P.Parts.then_varint g.P.Parts.refuses g.met.P.Parts.reads_exactly g.met.P.Parts.part_laws)
