use Rattle.proto_wire.proofs.Messages.{spelled, shortest, opened}
use Rattle.proto_wire.proofs.laws.shortest_record.Goals as goal

pub returns : goal.returns
returns c = record { spelled = spelled c.shortest_varint.ensures; shortest = shortest c.shortest_varint.ensures; opened = opened }
