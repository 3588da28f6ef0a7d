use Rattle.span_io.proofs.FramingLaws.{open_front}
use Rattle.proto_wire.specs.Wire.{records}
use Rattle.proto_wire.proofs.OpenBytes.{walked, completed, every_place}
use Rattle.proto_wire.proofs.Refusals.{record_fronts}
use Rattle.proto_wire.proofs.laws.open_fronts.Goals as goal

pub returns : goal.returns
returns c = record { walked = walked c.varint_readings.ensures; completed = completed; all = every_place c.varint_readings.ensures; fronts = open_front records (record_fronts c.varint_readings.ensures) }
