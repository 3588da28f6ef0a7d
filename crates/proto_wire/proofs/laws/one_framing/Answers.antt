use Rattle.span_io.proofs.FramingSteps.{framing_laws}
use Rattle.proto_wire.specs.Wire.{records, RefusedBy}
use Rattle.proto_wire.proofs.FirstFrame.{record_laws}
use Rattle.proto_wire.proofs.laws.one_framing.Goals as goal

pub returns : goal.returns
returns c = framing_laws records RefusedBy (record_laws c.varint_readings.ensures)
