-- How Jaeger finds the faults of a group.
use Rattle.std.specs.Prelude.{ℕ, Bool, true, false, ◌&&◌, ◌==◌, is_some, is_none, List, Option, Some, None}
use Rattle.std.specs.List.{list_any}
use Rattle.trace_model.specs.Attributes.{at}
use Rattle.trace_model.specs.ValueTexts.{has_double}
use Rattle.trace_model.specs.declared.span.Link.{Link}
use Rattle.trace_model.specs.declared.span.Span.{Span}
use Rattle.trace_model.specs.declared.value.Value.{Value, List', Map'}
use Rattle.span_tags.specs.Doubles.{double_at}
use Rattle.span_tags.specs.FaultTables.{FaultTable, if_so, doubles_in, doubles_in_span, doubles_in_resource}
use Rattle.span_tags.specs.TagKeys.{service_key}
use Rattle.span_tags.specs.TagWords.{Pairs}
use Rattle.map_jaeger.specs.ColumnWords.{flags_in}
use Rattle.map_jaeger.specs.Keys.{flags_key, reference_key}
use Rattle.map_jaeger.specs.Writing.{is_child_of}

-- the key `jaeger.flags`, where there is such an attribute and it isn't of its form: fault 22, OwnKey
abbrev pub own_key : Pairs → Option (List ℕ)
own_key attributes = if_so (is_some (at flags_key attributes) && is_none (flags_in (at flags_key attributes))) flags_key

-- the identifier is the parent's, or there is no parent, so that it would be read as one
abbrev pub names_parent : Option ℕ → ℕ → Bool
names_parent None id = true
names_parent (Some parent) id = parent == id

-- the link is a CHILD_OF of the span's own trace and would be read as its parent: fault 24, ChildOfLink
abbrev pub is_own_link : Span → Link → Bool
is_own_link span link =
    is_child_of (at reference_key link.attributes) && ((link.trace == span.trace) && names_parent span.parent link.span)

-- the value is a list or map with a double in it, at any depth; a double by itself is held as a DOUBLE
abbrev pub double_inside : Value → Bool
double_inside (List' shape members) = has_double (List' shape members)
double_inside (Map' shape members) = has_double (Map' shape members)
double_inside other = false

-- how Jaeger's faults are found: a `jaeger.flags` not of its form, a link that would be read as the parent, a double inside what
-- is written as a text; no event has a fault by its name
abbrev pub jaeger_faults : FaultTable
jaeger_faults = record {
  own_key = own_key;
  has_event_fault = λ events. false;
  has_link_fault = λ span. list_any (is_own_link span) span.links;
  has_double = double_inside;
  has_double_besides = λ resource. double_at (at service_key resource);
}

-- ---- doubles

-- the attribute's value is a list or map with a double in it
abbrev pub has_double_inside : List ℕ × Value → Bool
has_double_inside pair = double_inside pair.1

-- one of these attributes has a list or map with a double in it
abbrev pub doubles_inside : Pairs → Bool
doubles_inside = doubles_in jaeger_faults

-- an attribute of the span, or of one of its events, has a list or map with a double in it
abbrev pub span_has_double : Span → Bool
span_has_double = doubles_in_span jaeger_faults

-- an attribute of the resource has a list or map with a double in it, or `service.name` is a double or has one in it
abbrev pub resource_has_double : Pairs → Bool
resource_has_double = doubles_in_resource jaeger_faults
