-- What the writers of OTLP/JSON append, as tokens of JSON.
use Rattle.std.specs.Prelude.{ℕ, List}
use Rattle.json.specs.Token.{Token}
use Rattle.trace_model.specs.declared.value.Value.{Value}
use Rattle.json_members.specs.Canonical.{MemberRow}
use Rattle.json_members.specs.Writing.{data_tokens, given_tokens}
use Rattle.json_members.specs.private.Pieces.{pieces}
use Rattle.otlp_json.specs.Canonical.{any_value_data, key_value_data}

-- the tokens of a value, an `AnyValue`, in its canonical form
unfoldable pub value_tokens : Value → List Token
value_tokens value = data_tokens (any_value_data value)

-- the tokens of a `KeyValue`, in its canonical form
unfoldable pub key_value_tokens : List ℕ × Value → List Token
key_value_tokens pair = data_tokens (key_value_data pair.0 (any_value_data pair.1))

-- part of the members of an object
abbrev pub part_tokens : List MemberRow → List Token
part_tokens rows = pieces (λ row. given_tokens row.0 row.1) rows
