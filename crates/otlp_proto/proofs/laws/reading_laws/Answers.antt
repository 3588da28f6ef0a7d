use Rattle.otlp_proto.proofs.NextRecord.{next_record}
use Rattle.otlp_proto.proofs.laws.reading_laws.Goals as goal

pub returns : goal.returns
returns c = record {
  facts = record { format = c.message_cuts.ensures.laws; one_reading = c.one_reading.ensures.message };
  once = c.attributes_once.ensures;
  exist = c.attributes_exist.ensures;
  ids = c.identifiers_read_back.ensures;
  next = next_record c.open_fronts.ensures;
}
