-- Where a double stands inside a list or map that is told as a text, in a batch to be written.
use Rattle.std.specs.Prelude.{Bool, ◌||◌}
use Rattle.std.specs.List.{list_any}
use Rattle.trace_model.specs.declared.span.Event.{Event}
use Rattle.trace_model.specs.declared.group.Group.{Group}
use Rattle.trace_model.specs.declared.group.Scope.{Scope}
use Rattle.map_jaeger.specs.LeastFault.{doubles_inside, span_has_double, resource_has_double}

-- an attribute of the event is a list or map with a double in it
abbrev pub event_has_double : Event → Bool
event_has_double event = doubles_inside event.attributes

-- the same of a span of the scope, or of an event in one
abbrev pub scope_has_double : Scope → Bool
scope_has_double scope = list_any span_has_double scope.spans

-- the same of a span of the group, or of its resource, where `service.name` may be no double either
abbrev pub group_has_double : Group → Bool
group_has_double group = resource_has_double group.resource || list_any scope_has_double group.scopes
