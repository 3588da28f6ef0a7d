-- Parts of a trace that are sound: all attributes in them are.
use Rattle.std.specs.Prelude.{List, All}
use Rattle.trace_model.specs.declared.span.Event.{Event}
use Rattle.trace_model.specs.declared.span.Link.{Link}
use Rattle.trace_model.specs.declared.span.Span.{Span}
use Rattle.trace_model.specs.declared.group.Scope.{Scope}
use Rattle.trace_model.specs.declared.group.Group.{Group}
use Rattle.trace_model.specs.Values.{AreSound}

-- the event's attributes are sound: their keys rise, and each value is sound
abbrev pub IsSoundEvent : Event → Type 0
IsSoundEvent event = AreSound event.attributes

-- the same of a link's attributes
abbrev pub IsSoundLink : Link → Type 0
IsSoundLink link = AreSound link.attributes

-- a span's own attributes are sound, and so are those of its events and links
pub record IsSoundSpan (span : Span) : Type 0 where
  pub attributes : AreSound span.attributes
  pub events : All IsSoundEvent span.events
  pub links : All IsSoundLink span.links

-- the attributes of a scope are sound, and so are its spans
pub record IsSoundScope (scope : Scope) : Type 0 where
  pub attributes : AreSound scope.attributes
  pub spans : All IsSoundSpan scope.spans

-- the attributes of a group's resource are sound, and so are its scopes
pub record IsSoundGroup (group : Group) : Type 0 where
  pub resource : AreSound group.resource
  pub scopes : All IsSoundScope group.scopes

-- each group of a trace is sound, so that all attributes in the trace are
abbrev pub IsSoundTrace : List Group → Type 0
IsSoundTrace groups = All IsSoundGroup groups
