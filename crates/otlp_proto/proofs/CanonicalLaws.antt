-- The laws of other crates by which canonical texts are read back.
use Rattle.span_ids.specs.StatedLaws.{IdentifiersReadBack}
use Rattle.proto_wire.specs.Records.{Record, IsProper}
use Rattle.proto_wire.specs.Wire.{SpellsRecord, record_text}
use Rattle.trace_model.specs.StatedLaws.{MembersOfValues, MembersOfProperValues, RisingAttributes}

pub record Laws : Type 0 where
  pub spelled : (r : Record) → IsProper r → SpellsRecord (record_text r) r
  pub ids : IdentifiersReadBack
  pub values : MembersOfValues
  pub proper : MembersOfProperValues
  pub rising : RisingAttributes
