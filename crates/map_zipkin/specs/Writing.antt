-- The spans of Zipkin of a group (OpenTelemetry exporter page for Zipkin; Zipkin v2 API), where nothing in it is a fault. Tags stand by rising
-- keys, and each value is told as its text. An attribute of a span whose key is reserved, behind copies of the front or not, stands behind one
-- copy more.
use Rattle.std.specs.Prelude.{ℕ, Bool, not, ◌||◌, is_some, List, ◌++◌, map, filter}
use Rattle.std.specs.Str.{bytes_eq}
use Rattle.span_ids.specs.Times.{floor}
use Rattle.span_tags.specs.Escapes.{escaped}
use Rattle.span_tags.specs.Runs.{Scoped, scoped}
use Rattle.span_tags.specs.TagKeys.{service_key}
use Rattle.span_tags.specs.TagWords.{Pairs, without, text_or_none}
use Rattle.trace_model.specs.Attributes.{attrs, at}
use Rattle.trace_model.specs.EventTexts.{event_text}
use Rattle.trace_model.specs.ValueTexts.{value_text}
use Rattle.trace_model.specs.declared.span.Event.{Event}
use Rattle.trace_model.specs.declared.span.Kind.{Kind}
use Rattle.trace_model.specs.declared.span.Kind.TheVariants as kinds
use Rattle.trace_model.specs.declared.span.Span.{Span}
use Rattle.trace_model.specs.declared.group.Group.{Group}
use Rattle.trace_model.specs.declared.value.Value.{Value, Text}
use Rattle.zipkin_json.specs.declared.span.Endpoint.{Endpoint}
use Rattle.zipkin_json.specs.declared.span.ZKind.{ZKind}
use Rattle.zipkin_json.specs.declared.span.ZKind.TheVariants as zkinds
use Rattle.zipkin_json.specs.declared.span.ZSpan.{ZSpan}
use Rattle.map_zipkin.specs.Keys.{resource_prefix, is_zipkin_reserved, peer_key}
use Rattle.map_zipkin.specs.OwnColumns.{OwnColumns, is_own, own_in}
use Rattle.map_zipkin.specs.TagColumns.{column_rows, zipkin_columns_of, text_told, port_told}
use Rattle.map_zipkin.specs.declared.own.Own.TheVariants as owns

-- the `kind` of a span (Zipkin v2), which an internal span doesn't have, nor one whose kind is unspecified
abbrev pub zipkin_kind : Kind → ZKind
zipkin_kind kinds.Unspecified = zkinds.Absent
zipkin_kind kinds.Internal = zkinds.Absent
zipkin_kind kinds.Server = zkinds.Server
zipkin_kind kinds.Client = zkinds.Client
zipkin_kind kinds.Producer = zkinds.Producer
zipkin_kind kinds.Consumer = zkinds.Consumer

-- ---- tags

-- an attribute with the text of its value in place of the value
abbrev pub as_text : List ℕ × Value → List ℕ × Value
as_text pair = (pair.0, Text (value_text pair.1))

-- the same of each, in order
abbrev pub as_texts : Pairs → Pairs
as_texts pairs = map as_text pairs

-- those of the resource but its service, under the prefix
abbrev pub prefixed : List ℕ × Value → List ℕ × Value
prefixed pair = (resource_prefix ++ pair.0, pair.1)

-- all of a resource but its service, as texts under the keys of their tags
abbrev pub resource_pairs : Pairs → Pairs
resource_pairs resource = map prefixed (as_texts (without service_key resource))

-- those of the span but what has a place of its own
abbrev pub is_told : List ℕ → Bool
is_told key = not (is_own key || bytes_eq peer_key key)

-- the attributes of a span that are told as tags, as texts under the keys that they have
abbrev pub told_pairs : Pairs → Pairs
told_pairs attributes = as_texts (filter (λ attribute. is_told attribute.0) attributes)

-- under the keys by which they are written
abbrev pub escaped_pairs : Pairs → Pairs
escaped_pairs attributes = escaped is_zipkin_reserved (told_pairs attributes)

-- a tag is a text
abbrev pub zipkin_tag_of : List ℕ × Value → List ℕ × List ℕ
zipkin_tag_of pair = (pair.0, value_text pair.1)

-- the `tags` of a span (Zipkin v2), by rising keys: its columns, those of its resource, and those of its attributes
abbrev pub zipkin_tags_of : Pairs → Scoped Span → List (List ℕ × List ℕ)
zipkin_tags_of resource one = map zipkin_tag_of (attrs (column_rows (zipkin_columns_of one) ++ (resource_pairs resource ++ escaped_pairs one.span.attributes)))

-- ---- endpoints and annotations

-- `localEndpoint` (Zipkin v2): the service of the resource, and the addresses and port that stand under Zipkin's own keys
abbrev pub local_endpoint : Pairs → OwnColumns → Endpoint
local_endpoint resource own = record {
  service = text_or_none (at service_key resource);
  ipv4 = text_told (own owns.LocalIpv4);
  ipv6 = text_told (own owns.LocalIpv6);
  port = port_told (own owns.LocalPort);
}

-- `remoteEndpoint` (Zipkin v2): the service of `peer.service`, and the addresses and port that stand under Zipkin's own keys
abbrev pub remote_endpoint : Pairs → OwnColumns → Endpoint
remote_endpoint attributes own = record {
  service = text_or_none (at peer_key attributes);
  ipv4 = text_told (own owns.RemoteIpv4);
  ipv6 = text_told (own owns.RemoteIpv6);
  port = port_told (own owns.RemotePort);
}

-- an annotation (Zipkin v2): the time of an event, in nanoseconds down to a whole microsecond, and its event text
abbrev pub annotation_of : Event → ℕ × List ℕ
annotation_of event = (floor event.time, event_text event.name event.attributes)

-- ---- the span

-- the span of Zipkin v2 by what stands under Zipkin's own keys, the resource, and the span under its scope; its times are in
-- nanoseconds, down to whole microseconds
abbrev pub zipkin_span_by : OwnColumns → Pairs → Scoped Span → ZSpan
zipkin_span_by own resource one = record {
  trace = one.span.trace;
  id = one.span.id;
  parent = one.span.parent;
  name = one.span.name;
  kind = zipkin_kind one.span.kind;
  start = floor one.span.start;
  end = floor one.span.end;
  debug = is_some (own owns.Debug);
  shared = is_some (own owns.Shared);
  local = local_endpoint resource own;
  remote = remote_endpoint one.span.attributes own;
  annotations = map annotation_of one.span.events;
  tags = zipkin_tags_of resource one;
}

-- the same, with what the attributes of the span have under Zipkin's own keys
abbrev pub zipkin_span : Pairs → Scoped Span → ZSpan
zipkin_span resource one = zipkin_span_by (own_in one.span.attributes) resource one

-- the spans of Zipkin that a group is written as: one for each of its spans, in order
abbrev pub spans_of_group : Group → List ZSpan
spans_of_group group = map (zipkin_span group.resource) (scoped group.scopes)
