-- What the laws say of event text as it is read and written for a form that has texts alone.
use Rattle.std.specs.Prelude.{◌≡◌, ◌↔◌, ℕ, List, Some, IsUtf8}
use Rattle.trace_model.specs.EventReading.{event_text_read}
use Rattle.trace_model.specs.EventTexts.{IsEventText, event_text}
use Rattle.trace_model.specs.Proper.{AreProper}
use Rattle.trace_model.specs.declared.value.Value.{Value}

-- reading as a computation finds the event of which a text is, and no other
abbrev pub EventTextsExact : Type 0
EventTextsExact =
    (text name : List ℕ) (attributes : List (List ℕ × Value))
    → (event_text_read text ≡ Some (name, attributes)) ↔ IsEventText text name attributes

-- the text of a proper event is UTF-8
abbrev pub EventTextsAreUtf8 : Type 0
EventTextsAreUtf8 =
    (name : List ℕ) (attributes : List (List ℕ × Value)) → IsUtf8 name → AreProper attributes
    → IsUtf8 (event_text name attributes)

-- the event of a text in UTF-8 is proper
abbrev pub EventTextsProper : Type 0
EventTextsProper =
    (text name : List ℕ) (attributes : List (List ℕ × Value)) → IsEventText text name attributes → IsUtf8 text → IsUtf8 name
    × AreProper attributes
