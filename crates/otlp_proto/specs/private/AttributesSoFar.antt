-- What the reader of attributes has gathered.
use Rattle.std.specs.Prelude.{ℕ, List}
use Rattle.std.specs.List.{AllZip}
use Rattle.otlp_proto.specs.declared.reading.attributes.AttributeRows.{AttributeRows}
use Rattle.otlp_proto.specs.Attributes.{attribute_at}
use Rattle.trace_model.specs.declared.noted.KeyValue.{KeyValue}
use Rattle.trace_model.specs.private.OtlpTold.{AreToldPairs}

-- of these bytes of `KeyValue`s
pub record GatheredAttributes (texts : List (List ℕ)) (rows : AttributeRows) : Type 0 where
  pub members : List KeyValue
  pub each : AllZip attribute_at texts members
  pub told : AreToldPairs members rows.pairs rows.noted
