-- Plain pairs: `KeyValue`s of a key and a value, in this order, whose lengths take a byte each, and whose value is one field: a text
-- of such a length, a number, or a truth. Each byte that begins a field is its number times 8 plus its wire type.
use Rattle.std.specs.Prelude.{◌≡◌, ℕ, ◌<◌, if◌then◌else◌, List, [], ◌∷◌, ◌++◌, length, IsUtf8}
use Rattle.std.specs.Int.{w64, cast_signed}
use Rattle.span_io.specs.Varint.{SpellsVarint}
use Rattle.trace_model.specs.declared.value.Value.{Value}
use Rattle.trace_model.specs.declared.value.Value.TheVariants as values
use Rattle.otlp_proto.specs.declared.reading.plain.PlainPair.{PlainPair}
use Rattle.otlp_proto.specs.declared.reading.plain.PlainValue.{PlainValue}
use Rattle.otlp_proto.specs.declared.reading.plain.PlainValue.TheVariants as plain

-- a field of wire type 2: the byte that begins it, its length, what it holds, and then others
abbrev pub short_field : ℕ → List ℕ → List ℕ → List ℕ
short_field begins held behind = begins ∷ length held ∷ (held ++ behind)

-- the value that it is
abbrev pub value_of : PlainValue → Value
value_of (plain.Text text) = values.Text text.now
value_of (plain.Number n) = values.Number n
value_of (plain.Truth b) = values.Truth b

-- the bytes of an `AnyValue`: `string_value` 1, `int_value` 3, or `bool_value` 2
abbrev pub IsPlainValue : PlainValue → List ℕ → Type 0
IsPlainValue (plain.Text text) held = IsUtf8 text.now × (length text.now < 128) × (held ≡ short_field 10 text.now [])
IsPlainValue (plain.Number n) held =
    (digits : List ℕ) × (bits : ℕ) × SpellsVarint digits bits × (n ≡ cast_signed w64 bits) × (held ≡ 24 ∷ digits)
IsPlainValue (plain.Truth b) held = held ≡ 16 ∷ (if b then 1 else 0) ∷ []

-- the bytes of a `KeyValue`: `key` 1 and `value` 2
pub record IsPlainPair (pair : PlainPair) (text : List ℕ) : Type 0 where
  pub utf8 : IsUtf8 pair.key.now
  pub short_key : length pair.key.now < 128
  pub held : List ℕ
  pub short_value : length held < 128
  pub value : IsPlainValue pair.value held
  pub parts : text ≡ short_field 10 pair.key.now (short_field 18 held [])
