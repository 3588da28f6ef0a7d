-- Where a double stands in a group: OTLP/JSON as it is written here has no place for one (DoubleInText).
use Rattle.std.specs.Prelude.{◌≡◌, Bool, true, ◌||◌}
use Rattle.std.specs.List.{list_any}
use Rattle.trace_model.specs.EventTexts.{holds_double}
use Rattle.trace_model.specs.declared.fault.Fault.{Fault}
use Rattle.trace_model.specs.declared.fault.Fault.TheVariants.{DoubleInText}
use Rattle.trace_model.specs.declared.span.Event.{Event}
use Rattle.trace_model.specs.declared.span.Link.{Link}
use Rattle.trace_model.specs.declared.span.Span.{Span}
use Rattle.trace_model.specs.declared.group.Scope.{Scope}
use Rattle.trace_model.specs.declared.group.Group.{Group}

-- a double stands in an attribute of the event, at any depth
abbrev pub double_in_event : Event → Bool
double_in_event event = holds_double event.attributes

-- a double stands in an attribute of the link, at any depth
abbrev pub double_in_link : Link → Bool
double_in_link link = holds_double link.attributes

-- a double stands in an attribute of the span, or in one of its events or links
abbrev pub double_in_span : Span → Bool
double_in_span span = holds_double span.attributes || (list_any double_in_event span.events || list_any double_in_link span.links)

-- a double stands in an attribute of the scope, or in one of its spans
abbrev pub double_in_scope : Scope → Bool
double_in_scope scope = holds_double scope.attributes || list_any double_in_span scope.spans

-- a double stands in an attribute of the group's resource, or in one of its scopes
abbrev pub double_in_group : Group → Bool
double_in_group group = holds_double group.resource || list_any double_in_scope group.scopes

-- how a group can't be written
abbrev pub IsJsonFault : Fault → Group → Type 0
IsJsonFault fault group = (fault ≡ DoubleInText) × (double_in_group group ≡ true)
