-- The laws of event text that are used here.
use Rattle.std.proofs.Common.{◌≡◌, ℕ, false, List, Some}
use Rattle.std.specs.Prelude.{◌↔◌, IsUtf8}
use Rattle.span_tags.specs.TagWords.{Pairs}
use Rattle.trace_model.specs.EventReading.{event_text_read}
use Rattle.trace_model.specs.EventTexts.{IsEventText, event_text, holds_double, with_texts}
use Rattle.trace_model.specs.Proper.{AreProper}

-- what is read of a text
pub record EventsRead : Type 0 where
  pub reads : (text name : List ℕ) (attributes : Pairs) → (event_text_read text ≡ Some (name, attributes)) ↔ IsEventText text name attributes
  pub no_bytes : (text name : List ℕ) (attributes : Pairs) → IsEventText text name attributes → with_texts attributes ≡ attributes
  pub no_double : (text name : List ℕ) (attributes : Pairs) → IsEventText text name attributes → holds_double attributes ≡ false

-- what is read of a text in UTF-8 is proper
abbrev pub EventsProper : Type 0
EventsProper = (text name : List ℕ) (attributes : Pairs) → IsEventText text name attributes → IsUtf8 text → IsUtf8 name × AreProper attributes

-- the text is that of the attributes with texts for bytes
abbrev pub SameEventText : Type 0
SameEventText = (name : List ℕ) (attributes : Pairs) → event_text name (with_texts attributes) ≡ event_text name attributes
