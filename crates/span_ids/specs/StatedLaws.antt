-- What the laws of identifiers say.
use Rattle.std.specs.Prelude.{◌≡◌, ℕ, ◌<◌, ◌^◌, List}
use Rattle.std.specs.Int.{w64, w128, to_be_bytes}
use Rattle.hex.specs.Hex.{encode_lower}
use Rattle.span_ids.specs.HexTexts.{SpellsInHex}
use Rattle.span_ids.specs.declared.hex_text.IdRule.{IdRule}
use Rattle.span_ids.specs.Identifiers.{SpellsTraceId, SpellsSpanId}

-- the bytes of an identifier spell it, and bytes spell at most one identifier
pub record IdentifiersReadBack : Type 0 where
  pub trace_written : (id : ℕ) → 0 < id → id < 2 ^ 128 → SpellsTraceId (to_be_bytes w128 id) id
  pub trace_once : (bytes : List ℕ) (a b : ℕ) → SpellsTraceId bytes a → SpellsTraceId bytes b → a ≡ b
  pub span_written : (id : ℕ) → 0 < id → id < 2 ^ 64 → SpellsSpanId (to_be_bytes w64 id) id
  pub span_once : (bytes : List ℕ) (a b : ℕ) → SpellsSpanId bytes a → SpellsSpanId bytes b → a ≡ b
  -- so do hexadecimal digits: all of them in lower case spell the identifier under each rule, and a text has one identifier, whatever its rule
  pub trace_in_hex : (rule : IdRule) (id : ℕ) → 0 < id → id < 2 ^ 128
      → SpellsInHex rule 32 (encode_lower (to_be_bytes w128 id)) id
  pub span_in_hex : (rule : IdRule) (id : ℕ) → 0 < id → id < 2 ^ 64 → SpellsInHex rule 16 (encode_lower (to_be_bytes w64 id)) id
  pub hex_once : (rule other : IdRule) (full : ℕ) (text : List ℕ) (a b : ℕ) → SpellsInHex rule full text a
      → SpellsInHex other full text b → a ≡ b
