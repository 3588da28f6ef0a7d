-- What Jaeger can hold of a trace in which nothing is a fault: its normal form.
use Rattle.std.specs.Prelude.{ℕ, ◌%◌, List, [], ◌∷◌, ◌++◌, map, if◌then◌else◌}
use Rattle.span_ids.specs.Times.{floor}
use Rattle.trace_model.specs.Attributes.{attrs, at}
use Rattle.trace_model.specs.declared.span.Code.{Code}
use Rattle.trace_model.specs.declared.span.Code.TheVariants as statuses
use Rattle.trace_model.specs.declared.span.Event.{Event}
use Rattle.trace_model.specs.declared.span.Kind.{Kind}
use Rattle.trace_model.specs.declared.span.Kind.TheVariants as kinds
use Rattle.trace_model.specs.declared.span.Link.{Link}
use Rattle.trace_model.specs.declared.span.Span.{Span}
use Rattle.trace_model.specs.declared.span.Status.{Status}
use Rattle.trace_model.specs.declared.group.Group.{Group}
use Rattle.trace_model.specs.declared.value.Value.{Value, Text}
use Rattle.span_tags.specs.Runs.{Scoped, scoped, runs}
use Rattle.span_tags.specs.TagKeys.{service_key}
use Rattle.span_tags.specs.TagWords.{row, text_given, without, text_or_none}
use Rattle.map_jaeger.specs.Keys.{reference_key, child_of_word}
use Rattle.map_jaeger.specs.TagValues.{normal_attribute}
use Rattle.map_jaeger.specs.Writing.{is_child_of}

-- lists, maps and no value become their texts
abbrev pub normal_attributes : List (List ℕ × Value) → List (List ℕ × Value)
normal_attributes attributes = map normal_attribute attributes

-- a kind that isn't given becomes INTERNAL, as a span without the tag `span.kind` is read
abbrev pub normal_kind : Kind → Kind
normal_kind kinds.Unspecified = kinds.Internal
normal_kind kind = kind

-- the message stays with a code
abbrev pub normal_status : Status → Status
normal_status status = record { code = status.code; message = message_by status.code status.message }
  where
    message_by : Code → List ℕ → List ℕ
    message_by statuses.Unset message = []
    message_by code message = message

-- an event keeps its time to the microsecond, its name and its attributes, and no dropped count
abbrev pub normal_event : Event → Event
normal_event event =
    record { time = floor event.time; name = event.name; attributes = normal_attributes event.attributes; dropped = 0 }

-- a link keeps its identifiers, and the mark of CHILD_OF
abbrev pub normal_link : Link → Link
normal_link link = record {
  trace = link.trace;
  span = link.span;
  state = [];
  attributes = if is_child_of (at reference_key link.attributes) then (reference_key, Text child_of_word) ∷ [] else [];
  dropped = 0;
  flags = 0;
}

-- times to the microsecond, and of the flags the first bit
abbrev pub normal_span : Span → Span
normal_span span = record span {
  kind = normal_kind span.kind;
  start = floor span.start;
  end = floor span.end;
  attributes = normal_attributes span.attributes;
  events = map normal_event span.events;
  links = map normal_link span.links;
  status = normal_status span.status;
  flags = span.flags % 2;
}

-- the normal form of a span under its scope, of which the name and version stay
abbrev pub normal_scoped : Scoped Span → Scoped Span
normal_scoped one = record { name = one.name; version = one.version; span = normal_span one.span }

-- `service.name` is a text, and goes where that is empty
abbrev pub normal_resource : List (List ℕ × Value) → List (List ℕ × Value)
normal_resource resource = attrs (row service_key (text_given (text_or_none (at service_key resource))) ++ normal_attributes (without service_key resource))

-- scopes keep their names and versions; those without spans go, and then adjacent ones that are equal are joined
abbrev pub normal_group : Group → Group
normal_group group = record {
  resource = normal_resource group.resource;
  dropped = 0;
  schema_url = [];
  scopes = runs (map normal_scoped (scoped group.scopes));
}

-- groups stay
abbrev pub normal : List Group → List Group
normal groups = map normal_group groups
