use Rattle.std.proofs.Common.{ℕ, List, refl, ◌∙◌, rules}
use Rattle.otlp_json.specs.Numbers.{SpellsBytes}
use Rattle.otlp_json.proofs.ValueLemmas.{no_bytes, bytes_below}
use Rattle.otlp_json.proofs.reading.identifiers.bytes_in.Goals as goal

pub returns-in-Err-DecodeError-clause-judged : goal.returns-in-Err-DecodeError-clause-judged
returns-in-Err-DecodeError-clause-judged c = no_bytes _ c.in-Some.text.now (search rules) never
  where
    never : (held : List ℕ) → ¬ SpellsBytes c.in-Some.text.now held
    never held h =
        let ok = (c.decode.ensures.strict (refl, search rules) held (bytes_below held h.0)).1 (c.as_bytes.ensures.value ∙ h.1) in
        let failed = rw c.in-Err-DecodeError.field-0-is at c.in-Err-DecodeError.ensures.err in
        cc
