-- Attributes of a message, by the bytes of its `KeyValue` records. The value of an attribute stands at level 1 of 24.
use Rattle.std.specs.Prelude.{ℕ, List, map}
use Rattle.std.specs.List.{AllZip}
use Rattle.span_io.specs.Offences.{Rules, Offence}
use Rattle.span_io.specs.Tables.{Row}
use Rattle.proto_wire.specs.Messages.{messages}
use Rattle.proto_wire.specs.Records.{Record}
use Rattle.trace_model.specs.declared.value.Value.{Value}
use Rattle.trace_model.specs.Remarks.{Keys}
use Rattle.otlp_proto.specs.Rows.{bytes_row}
use Rattle.otlp_proto.specs.Values.{key_value_at, key_value_rules}
use Rattle.trace_model.specs.declared.noted.Noted.{Noted}
use Rattle.trace_model.specs.declared.noted.KeyValue.{KeyValue}
use Rattle.trace_model.specs.OtlpParts.{entry, keys_inside, AreNotedAttributes, levels_below}

-- the bytes are the `KeyValue` of an attribute, whose value has 23 levels of lists and maps left below it
abbrev pub attribute_at : List ℕ → KeyValue → Type 0
attribute_at held p = key_value_at levels_below held p

-- how such a `KeyValue` offends, by its fields
abbrev pub attribute_rules : Rules Record
attribute_rules = key_value_rules levels_below

-- what the pairs of these bytes make
pub record AttributesOf (texts : List (List ℕ)) (attributes : List (List ℕ × Value)) (keys : Keys) : Type 0 where
  pub pairs : List KeyValue
  pub each : AllZip attribute_at texts pairs
  pub make : AreNotedAttributes (map entry pairs) (keys_inside pairs) attributes keys

-- repeated `KeyValue`s
abbrev pub attributes : ℕ → Row Record
attributes number =
    bytes_row number (Noted (List (List ℕ × Value)) Keys) (λ held a. AttributesOf held a.means a.notes) (λ earlier held n. ⊥)
    (λ held place n. Offence messages attribute_rules held place n)
