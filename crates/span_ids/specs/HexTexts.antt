-- Identifiers in text: hexadecimal digits, the most significant first (OTLP/JSON, Zipkin v2, W3C Trace Context, B3, `uber-trace-id`).
use Rattle.std.specs.Prelude.{◌≡◌, ◌<◌, ◌≤◌, ◌⊎◌, ℕ, List, length, All}
use Rattle.std.specs.Char.{IsAsciiHexdigit}
use Rattle.std.specs.Int.{IsInRange}
use Rattle.std.specs.Str.Parse.{digits_value}
use Rattle.span_ids.specs.declared.hex_text.IdRule.{IdRule}
use Rattle.span_ids.specs.declared.hex_text.IdRule.TheVariants.{Exact, ExactLower, Half, Padded}

-- `0` to `9` or `a` to `f`
abbrev pub IsLowerDigit : ℕ → Type 0
IsLowerDigit c = IsInRange 48 57 c ⊎ IsInRange 97 102 c

-- the text is of the rule, where an identifier has `full` digits
abbrev pub IsOfRule : IdRule → ℕ → List ℕ → Type 0
IsOfRule Exact full text = (length text ≡ full) × All IsAsciiHexdigit text
IsOfRule ExactLower full text = (length text ≡ full) × All IsLowerDigit text
IsOfRule Half full text = ((length text ≡ 16) ⊎ (length text ≡ full)) × All IsAsciiHexdigit text
IsOfRule Padded full text = (1 ≤ length text) × (length text ≤ full) × All IsAsciiHexdigit text

-- such a text, not zero
abbrev pub IsIdHexText : IdRule → ℕ → List ℕ → Type 0
IsIdHexText rule full text = IsOfRule rule full text × (0 < digits_value 16 text)

-- the text is of the rule, and is this identifier
abbrev pub SpellsInHex : IdRule → ℕ → List ℕ → ℕ → Type 0
SpellsInHex rule full text id = IsIdHexText rule full text × (id ≡ digits_value 16 text)
