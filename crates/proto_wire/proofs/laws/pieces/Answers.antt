use Rattle.span_io.proofs.PieceSteps.{piece_laws}
use Rattle.proto_wire.specs.Wire.{records, RefusedBy}
use Rattle.proto_wire.proofs.FirstFrame.{record_laws}
use Rattle.proto_wire.proofs.laws.pieces.Goals as goal

pub returns : goal.returns
returns c = piece_laws records RefusedBy (record_laws c.varint_readings.ensures)
