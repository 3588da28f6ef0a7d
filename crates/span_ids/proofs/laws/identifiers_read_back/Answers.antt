use Rattle.std.proofs.Common.{◌≡◌, ℕ, List, sym, ◌∙◌}
use Rattle.span_ids.specs.HexTexts.{SpellsInHex}
use Rattle.span_ids.specs.declared.hex_text.IdRule.{IdRule}
use Rattle.span_ids.specs.Identifiers.{SpellsTraceId, SpellsSpanId}
use Rattle.span_ids.proofs.BigEndian.{trace_spelled, span_spelled}
use Rattle.span_ids.proofs.HexLemmas.{trace_text, span_text}
use Rattle.span_ids.proofs.laws.identifiers_read_back.Goals as goal

trace_once : (bytes : List ℕ) (a b : ℕ) → SpellsTraceId bytes a → SpellsTraceId bytes b → a ≡ b
trace_once bytes a b one other = one.1 ∙ sym other.1

span_once : (bytes : List ℕ) (a b : ℕ) → SpellsSpanId bytes a → SpellsSpanId bytes b → a ≡ b
span_once bytes a b one other = one.1 ∙ sym other.1

hex_once : (rule other : IdRule) (full : ℕ) (text : List ℕ) (a b : ℕ) → SpellsInHex rule full text a → SpellsInHex other full text b → a ≡ b
hex_once rule other full text a b one second = one.1 ∙ sym second.1

pub returns : goal.returns
returns c = record {
  trace_written = trace_spelled;
  trace_once = trace_once;
  span_written = span_spelled;
  span_once = span_once;
  hex_once = hex_once;
  trace_in_hex = λ rule id some fits. trace_text id some fits rule;
  span_in_hex = λ rule id some fits. span_text id some fits rule;
}
