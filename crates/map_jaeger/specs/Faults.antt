-- What Jaeger can't hold of a group. A fault stands at a place: 0 is the group's resource, and n is its span of that number, with the
-- events and links in it, counted through the scopes from 1. Of all faults the one at the first place counts, there the one of the least
-- number, and of equal numbers that of the least key.
use Rattle.std.specs.Prelude.{◌≡◌, ℕ, ◌<◌, ◌⊎◌, true, List, Any, Contains, Option, Some, None}
use Rattle.trace_model.specs.Attributes.{keys, at}
use Rattle.trace_model.specs.ValueTexts.{has_double}
use Rattle.trace_model.specs.declared.fault.Fault.{Fault}
use Rattle.trace_model.specs.declared.fault.Fault.TheVariants.{EndBeforeStart, OwnKey, EventText, ChildOfLink, DoubleInText}
use Rattle.trace_model.specs.declared.span.Link.{Link}
use Rattle.trace_model.specs.declared.span.Span.{Span}
use Rattle.trace_model.specs.declared.group.Group.{Group}
use Rattle.trace_model.specs.declared.value.Value.{Value, List', Map'}
use Rattle.span_tags.specs.PlacedFaults.{CountsBy}
use Rattle.span_tags.specs.TagKeys.{service_key}
use Rattle.map_jaeger.specs.ColumnWords.{flags_in}
use Rattle.map_jaeger.specs.Keys.{flags_key, reference_key}
use Rattle.map_jaeger.specs.Writing.{is_child_of}

-- ---- the rows of a span

-- the attribute of Jaeger's own key isn't of its form
abbrev pub HasOwn : Span → List ℕ → Type 0
HasOwn span key = (key ≡ flags_key) × Contains (keys span.attributes) flags_key × (flags_in (at flags_key span.attributes) ≡ None)

-- a child_of link of the span's own trace, where the span is a root or the link names its parent
abbrev pub IsOwnParent : Span → Link → Type 0
IsOwnParent span link =
    (is_child_of (at reference_key link.attributes) ≡ true) × (link.trace ≡ span.trace)
    × ((span.parent ≡ None) ⊎ (span.parent ≡ Some link.span))

-- a double inside a list or map, whose text is wanted
abbrev pub HasDoubleInside : Value → Type 0
HasDoubleInside (List' shape members) = has_double (List' shape members) ≡ true
HasDoubleInside (Map' shape members) = has_double (Map' shape members) ≡ true
HasDoubleInside other = ⊥

-- one of the attributes is a list or map with a double in it, at any depth
abbrev pub HasDouble : List (List ℕ × Value) → Type 0
HasDouble attributes = Any (λ attribute. HasDoubleInside attribute.1) attributes

-- the faults of a span: it ends before it starts (20), its `jaeger.flags` isn't of its form (22), a CHILD_OF link would be read
-- as its parent (24), or a list or map of it or of an event of it has a double in it (25). EventText (23) is none here.
abbrev pub IsSpanFault : Span → Fault → Type 0
IsSpanFault span EndBeforeStart = span.end < span.start
IsSpanFault span (OwnKey key) = HasOwn span key
IsSpanFault span EventText = ⊥
IsSpanFault span ChildOfLink = Any (IsOwnParent span) span.links
IsSpanFault span DoubleInText = HasDouble span.attributes ⊎ Any (λ event. HasDouble event.attributes) span.events

-- ---- the rows of a resource: `service.name` is told as a text

-- there is a value, and it is a double or has one in it
abbrev pub HasDoubleAt : Option Value → Type 0
HasDoubleAt None = ⊥
HasDoubleAt (Some value) = has_double value ≡ true

-- a resource has one fault alone, DoubleInText (25): a double is or stands in `service.name`, or stands in a list or map
abbrev pub IsResourceFault : List (List ℕ × Value) → Fault → Type 0
IsResourceFault resource DoubleInText = HasDoubleAt (at service_key resource) ⊎ HasDouble resource
IsResourceFault resource other = ⊥

-- ---- the group

-- the fault that counts, if there is any
abbrev pub IsFaultOf : Group → Option Fault → Type 0
IsFaultOf group fault = CountsBy IsResourceFault IsSpanFault group fault

-- nothing in the group is a fault, so that Jaeger can hold it
abbrev pub HasNoFault : Group → Type 0
HasNoFault group = IsFaultOf group None
