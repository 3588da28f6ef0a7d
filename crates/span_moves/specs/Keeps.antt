-- What a move of a trace to another form keeps, since the normal form of the target has it in common with the trace: all spans in their order,
-- and of each span what is named here. And no move makes a double.
use Rattle.std.specs.Prelude.{◌≡◌, ℕ, List, length, map, All, None}
use Rattle.std.specs.List.{AllZip}
use Rattle.span_ids.specs.Times.{micros}
use Rattle.trace_model.specs.Flat.{flat}
use Rattle.trace_model.specs.declared.span.Code.TheVariants.{Fail}
use Rattle.trace_model.specs.declared.span.Event.{Event}
use Rattle.trace_model.specs.declared.span.Link.{Link}
use Rattle.trace_model.specs.declared.span.Span.{Span}
use Rattle.trace_model.specs.declared.group.Group.{Group}
use Rattle.map_jaeger.specs.Normal.{normal}
use Rattle.map_zipkin.specs.Normal.{zipkin_normal}
use Rattle.otlp_json.specs.Held.{IsJsonFaultOf}

-- ---- of a span

-- the names of events, in the order of the events
abbrev pub names_of : List Event → List (List ℕ)
names_of events = map (λ event. event.name) events

-- A span keeps its identifiers, its name, its times to the microsecond, its status code, and the message of an error. It keeps each event, by
-- its name. Here `span` stands in the trace, and `moved` at its place in the normal form.
pub record Keeps (span moved : Span) : Type 0 where
  pub trace : moved.trace ≡ span.trace
  pub id : moved.id ≡ span.id
  pub parent : moved.parent ≡ span.parent
  pub name : moved.name ≡ span.name
  pub start : micros moved.start ≡ micros span.start
  pub end : micros moved.end ≡ micros span.end
  pub code : moved.status.code ≡ span.status.code
  pub message : span.status.code ≡ Fail → moved.status.message ≡ span.status.message
  pub events : names_of moved.events ≡ names_of span.events

-- the trace and the span that each link names
abbrev pub identifiers_of : List Link → List (ℕ × ℕ)
identifiers_of links = map (λ link. (link.trace, link.span)) links

-- it keeps each link as well, by its identifiers
pub record KeepsWithLinks (span moved : Span) : Type 0 where
  pub kept : Keeps span moved
  pub links : identifiers_of moved.links ≡ identifiers_of span.links

-- ---- of a trace

-- there are as many spans, and each keeps so much, place by place
pub record EachSpan (IsKept : Span → Span → Type 0) (groups moved : List Group) : Type 0 where
  pub as_many : length (flat moved) ≡ length (flat groups)
  pub each : AllZip IsKept (flat groups) (flat moved)

-- The normal form of Jaeger keeps each span with its links, and so does that of OTLP, which is the trace itself. That of Zipkin keeps each
-- span, but no links.
pub record SpansKept : Type 0 where
  pub otlp : (groups : List Group) → EachSpan KeepsWithLinks groups groups
  pub jaeger : (groups : List Group) → EachSpan KeepsWithLinks groups (normal groups)
  pub zipkin : (groups : List Group) → EachSpan Keeps groups (zipkin_normal groups)

-- ---- doubles

-- no double stands in the trace, so that OTLP/JSON can hold it
abbrev pub HaveNoDouble : List Group → Type 0
HaveNoDouble groups = All (λ group. IsJsonFaultOf group None) groups

-- no row of a normal form makes a double
pub record NoDoubleMade : Type 0 where
  pub jaeger : (groups : List Group) → HaveNoDouble groups → HaveNoDouble (normal groups)
  pub zipkin : (groups : List Group) → HaveNoDouble groups → HaveNoDouble (zipkin_normal groups)
