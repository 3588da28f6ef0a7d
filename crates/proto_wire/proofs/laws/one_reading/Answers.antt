use Rattle.proto_wire.proofs.Messages.{one_record, one_message}
use Rattle.proto_wire.proofs.laws.one_reading.Goals as goal

pub returns : goal.returns
returns c = record { one_record = one_record c.varint_readings.ensures; message = one_message c.varint_readings.ensures }
