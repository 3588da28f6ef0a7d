-- What no span of Zipkin is written of: a double in what is told as a text, and a port of more than 16 bits.
use Rattle.std.specs.Prelude.{Bool, nat_lt, ◌||◌, Option}
use Rattle.std.specs.List.{list_any}
use Rattle.span_tags.specs.TagWords.{Pairs}
use Rattle.trace_model.specs.EventTexts.{holds_double}
use Rattle.trace_model.specs.declared.span.Event.{Event}
use Rattle.trace_model.specs.declared.span.Span.{Span}
use Rattle.trace_model.specs.declared.group.Group.{Group}
use Rattle.trace_model.specs.declared.group.Scope.{Scope}
use Rattle.trace_model.specs.declared.value.Value.{Value}
use Rattle.map_zipkin.specs.OwnColumns.{own_in}
use Rattle.map_zipkin.specs.TagColumns.{port_told}
use Rattle.map_zipkin.specs.declared.own.Own.TheVariants as owns

-- a double stands in an attribute of the event, at any depth
abbrev pub event_unfit : Event → Bool
event_unfit event = holds_double event.attributes

-- the text is the decimal of a number above 65535, so that it is no port of 16 bits
abbrev pub port_unfit : Option Value → Bool
port_unfit port = nat_lt 65535 (port_told port)

-- the port of the local endpoint or of the remote one is unfit
abbrev pub ports_unfit : Pairs → Bool
ports_unfit attributes = port_unfit (own_in attributes owns.LocalPort) || port_unfit (own_in attributes owns.RemotePort)

-- a double stands in an attribute of the span, or one of its ports or events is unfit
abbrev pub span_unfit : Span → Bool
span_unfit span = holds_double span.attributes || (ports_unfit span.attributes || list_any event_unfit span.events)

-- one of its spans is unfit
abbrev pub scope_unfit : Scope → Bool
scope_unfit scope = list_any span_unfit scope.spans

-- a double stands in an attribute of its resource, or one of its scopes is unfit
abbrev pub group_unfit : Group → Bool
group_unfit group = holds_double group.resource || list_any scope_unfit group.scopes
