-- What Zipkin can't hold of a group.
use Rattle.std.specs.Prelude.{◌≡◌, ℕ, ◌<◌, ◌⊎◌, true, false, List, [], Any, Bool, Option, Some, None}
use Rattle.span_tags.specs.PlacedFaults.{CountsBy}
use Rattle.span_tags.specs.TagWords.{Pairs}
use Rattle.trace_model.specs.Attributes.{at}
use Rattle.trace_model.specs.EventTexts.{IsEventText}
use Rattle.trace_model.specs.ValueTexts.{has_double}
use Rattle.trace_model.specs.declared.fault.Fault.{Fault}
use Rattle.trace_model.specs.declared.fault.Fault.TheVariants.{EndBeforeStart, OwnKey, EventText, ChildOfLink, DoubleInText}
use Rattle.trace_model.specs.declared.span.Event.{Event}
use Rattle.trace_model.specs.declared.span.Span.{Span}
use Rattle.trace_model.specs.declared.group.Group.{Group}
use Rattle.trace_model.specs.declared.value.Value.{Value}
use Rattle.map_zipkin.specs.OwnColumns.{own_forms}

-- the attribute of a key of Zipkin's own isn't of its form
abbrev pub IsOutOfForm : (Value → Bool) → Option Value → Type 0
IsOutOfForm is_of_form None = ⊥
IsOutOfForm is_of_form (Some value) = is_of_form value ≡ false

-- the span has an attribute under this key, which is one of Zipkin's own, and its value isn't of the form of that key
abbrev pub HasOwnKey : Span → List ℕ → Type 0
HasOwnKey span key = Any (λ own. (key ≡ own.0) × IsOutOfForm own.1 (at own.0 span.attributes)) own_forms

-- an event without attributes, of which the name would be read as another name with attributes
pub record IsToldWrong (event : Event) : Type 0 where
  pub bare : event.attributes ≡ []
  pub name : List ℕ
  pub attributes : Pairs
  pub reads : IsEventText event.name name attributes

-- each value is told as a text, or in one
abbrev pub HasDoubleIn : Pairs → Type 0
HasDoubleIn attributes = Any (λ attribute. has_double attribute.1 ≡ true) attributes

-- why Zipkin can't hold a span: it ends before its start, an own key is out of form, an event is told wrong, or a double stands
-- in a value of its attributes or of an event's. A link is no fault.
abbrev pub IsZipkinSpanFault : Span → Fault → Type 0
IsZipkinSpanFault span EndBeforeStart = span.end < span.start
IsZipkinSpanFault span (OwnKey key) = HasOwnKey span key
IsZipkinSpanFault span EventText = Any IsToldWrong span.events
IsZipkinSpanFault span ChildOfLink = ⊥
IsZipkinSpanFault span DoubleInText = HasDoubleIn span.attributes ⊎ Any (λ event. HasDoubleIn event.attributes) span.events

-- why Zipkin can't hold a resource: a double stands in a value, at any depth
abbrev pub IsZipkinResourceFault : Pairs → Fault → Type 0
IsZipkinResourceFault resource DoubleInText = HasDoubleIn resource
IsZipkinResourceFault resource other = ⊥

-- the fault that counts, if there is any
abbrev pub IsZipkinFaultOf : Group → Option Fault → Type 0
IsZipkinFaultOf group fault = CountsBy IsZipkinResourceFault IsZipkinSpanFault group fault

-- neither the resource of the group nor any of its spans has a fault
abbrev pub HasNoZipkinFault : Group → Type 0
HasNoZipkinFault group = IsZipkinFaultOf group None
