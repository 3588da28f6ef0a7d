-- An event that was read of a text is the one that the computation finds.
use Rattle.std.proofs.Common.{◌≡◌, ℕ, List, Option, Some, None, refl, sym}
use Rattle.std.specs.Prelude.{IfSome, IfNone}
use Rattle.trace_model.specs.EventExact.{EventTextsExact}
use Rattle.trace_model.specs.EventReading.{event_text_read}
use Rattle.trace_model.specs.EventTexts.{IsEventText}
use Rattle.span_tags.specs.TagWords.{Pairs}

none_read : (exact : EventTextsExact) (text : List ℕ) → ((name : List ℕ) (attributes : Pairs) → ¬ IsEventText text name attributes)
    → (o : Option (List ℕ × Pairs)) → event_text_read text ≡ o → None ≡ o
none_read exact text never None e = refl
none_read exact text never (Some (name, attributes)) e = absurd (never name attributes ((exact text name attributes).0 e))

pub event_found : EventTextsExact → (text : List ℕ) (o : Option (List ℕ × Pairs)) → IfSome o (λ parts. IsEventText text parts.0 parts.1)
    → IfNone o ((name : List ℕ) (attributes : Pairs) → ¬ IsEventText text name attributes) → o ≡ event_text_read text
event_found exact text None found none = none_read exact text none (event_text_read text) refl
event_found exact text (Some (name, attributes)) found none = sym ((exact text name attributes).1 found)
