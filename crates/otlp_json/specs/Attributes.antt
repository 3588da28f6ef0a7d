-- Attributes in OTLP/JSON: an array of `KeyValue`s. The value of an attribute stands at level 1 of 24.
use Rattle.std.specs.Prelude.{◌≡◌, ℕ, List, [], map, Option}
use Rattle.serde_json.specs.Data.{Data}
use Rattle.span_io.specs.Paths.{Offences, Given}
use Rattle.trace_model.specs.Remarks.{Keys}
use Rattle.trace_model.specs.declared.value.Value.{Value}
use Rattle.trace_model.specs.declared.noted.KeyValue.{KeyValue}
use Rattle.trace_model.specs.OtlpParts.{levels_below, entry, keys_inside, AreNotedAttributes}
use Rattle.json_members.specs.Members.{AreHeld, elements_offend}
use Rattle.otlp_json.specs.Values.{json_key_value_at, json_key_value_offends}

-- an array of `KeyValue`s (common.proto) means these pairs, one for each element; each value stands at level 1 of 24
abbrev pub AreJsonPairs : List KeyValue → Data → Type 0
AreJsonPairs pairs d = AreHeld (json_key_value_at levels_below) pairs d

-- what the pairs of this array make, which may be absent
pub record AreJsonAttributes (attributes : List (List ℕ × Value)) (keys : Keys) (o : Option Data) : Type 0 where
  pub pairs : List KeyValue
  pub each : Given AreJsonPairs (λ ps. ps ≡ []) pairs o
  pub make : AreNotedAttributes (map entry pairs) (keys_inside pairs) attributes keys

-- how an array of attributes offends: BadShape where it is no array, else what offends in one of its `KeyValue`s
abbrev pub pairs_offend : Data → Offences
pairs_offend d = elements_offend (json_key_value_offends levels_below) d
