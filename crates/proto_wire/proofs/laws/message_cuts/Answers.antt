use Rattle.proto_wire.proofs.OffenceFormat.{message_laws, whole_message, cut_whole}
use Rattle.proto_wire.proofs.laws.message_cuts.Goals as goal

pub returns : goal.returns
returns c = record { laws = message_laws c.varint_readings.ensures; whole = whole_message; cut = cut_whole }
