use Rattle.span_io.proofs.FramingSteps.{step_laws}
use Rattle.proto_wire.specs.Wire.{records, RefusedBy}
use Rattle.proto_wire.proofs.FirstFrame.{record_laws}
use Rattle.proto_wire.proofs.laws.one_step.Goals as goal

pub returns : goal.returns
returns c = step_laws records RefusedBy (record_laws c.varint_readings.ensures)
