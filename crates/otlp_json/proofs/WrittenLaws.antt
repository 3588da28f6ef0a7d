-- The laws of other crates by which canonical texts are read back.
use Rattle.span_ids.specs.StatedLaws.{IdentifiersReadBack}
use Rattle.trace_model.specs.StatedLaws.{MembersOfValues, MembersOfProperValues, RisingAttributes, TextsOfValues}

pub record Laws : Type 0 where
  pub ids : IdentifiersReadBack
  pub values : MembersOfValues
  pub proper : MembersOfProperValues
  pub rising : RisingAttributes
  pub texts : TextsOfValues
