-- What a span of Zipkin means (OpenTelemetry exporter page for Zipkin, read backwards; Zipkin v2 API): a span of a run. Its tags are attributes,
-- all of them texts, but for those of the resource and of the reserved keys; one behind copies of the front, whose key is reserved without
-- them, stands behind one copy fewer. Its endpoints and marks stand under keys of Zipkin's own.
use Rattle.std.specs.Prelude.{ℕ, Bool, not, ◌||◌, if◌then◌else◌, List, [], ◌∷◌, ◌++◌, map, filter, Option, Some, None, option_and_then, unwrap_or, is_some}
use Rattle.std.specs.Option.{option_or}
use Rattle.std.specs.Str.{bytes_eq}
use Rattle.span_tags.specs.Escapes.{unescaped}
use Rattle.span_tags.specs.TagKeys.{service_key}
use Rattle.span_tags.specs.TagWords.{Pairs, row, without, text_in, count_in, code_in, name_in, text_given}
use Rattle.trace_model.specs.Attributes.{attrs, at}
use Rattle.trace_model.specs.EventReading.{event_text_read}
use Rattle.trace_model.specs.declared.span.Code.{Code}
use Rattle.trace_model.specs.declared.span.Code.TheVariants as statuses
use Rattle.trace_model.specs.declared.span.Event.{Event}
use Rattle.trace_model.specs.declared.span.Kind.{Kind}
use Rattle.trace_model.specs.declared.span.Kind.TheVariants as kinds
use Rattle.trace_model.specs.declared.span.Span.{Span}
use Rattle.trace_model.specs.declared.group.Group.{Group}
use Rattle.trace_model.specs.declared.value.Value.{Value, Text}
use Rattle.zipkin_json.specs.declared.span.ZKind.{ZKind}
use Rattle.zipkin_json.specs.declared.span.ZKind.TheVariants as zkinds
use Rattle.zipkin_json.specs.declared.span.ZSpan.{ZSpan}
use Rattle.map_zipkin.specs.Keys.{resource_key, is_zipkin_reserved, peer_key}
use Rattle.map_zipkin.specs.OwnColumns.{is_own, own_rows, own_of}
use Rattle.map_zipkin.specs.Regrouped.{RunSpan, regrouped}
use Rattle.map_zipkin.specs.TagColumns.{TagColumns, columns_in}
use Rattle.map_zipkin.specs.declared.columns.Column.TheVariants as columns
use Rattle.map_zipkin.specs.declared.run.Run.{Run}

-- the tags as pairs with values
abbrev pub pair_of : List ℕ × List ℕ → List ℕ × Value
pair_of tag = (tag.0, Text tag.1)

-- the tags of a span of Zipkin, in order, each value as a text
abbrev pub pairs_of : ZSpan → Pairs
pairs_of span = map pair_of span.tags

-- ---- the resource

-- the tags of the resource, under the keys that they have there
abbrev pub resource_row : Option (List ℕ) → Value → Pairs
resource_row None value = []
resource_row (Some key) value = (key, value) ∷ []

-- the tags whose keys have the prefix of a resource's, in order, under their keys without it
abbrev pub resource_tags : Pairs → Pairs
resource_tags [] = []
resource_tags (pair ∷ pairs) = resource_row (resource_key pair.0) pair.1 ++ resource_tags pairs

-- the local service is the one of the resource
abbrev pub resource_by : List ℕ → Pairs → Pairs
resource_by service tags = attrs (row service_key (text_given service) ++ without service_key (resource_tags tags))

-- ---- columns

-- an `error` is an error where there is no code
abbrev pub code_of_error : Option Value → Code
code_of_error error = if is_some error then statuses.Fail else statuses.Unset

-- the code that `otel.status_code` names; where it names none, it is an error if there is a tag `error`, else unset
abbrev pub status_code : TagColumns → Code
status_code c = unwrap_or (code_in (c columns.Code)) (code_of_error (c columns.Error))

-- and its message
abbrev pub message_of : Code → Option Value → List ℕ
message_of statuses.Fail error = unwrap_or (text_in error) []
message_of statuses.Okay error = []
message_of statuses.Unset error = []

-- ---- attributes: the remote service counts before the tag of it

-- the service at the other end: that of the remote endpoint, else the text of the tag; an empty text counts as absent
abbrev pub peer_of : List ℕ → Option Value → Option Value
peer_of service tag = option_or (text_given service) (option_and_then text_given (text_in tag))

-- a tag of this key is an attribute: the key isn't reserved, none of Zipkin's own, and not `peer.service`
abbrev pub is_free_tag : List ℕ → Bool
is_free_tag key = not (is_zipkin_reserved key || (is_own key || bytes_eq peer_key key))

-- the tags that are attributes, under the keys that they have as such
abbrev pub free_pairs : Pairs → Pairs
free_pairs tags = unescaped is_zipkin_reserved (filter (λ tag. is_free_tag tag.0) tags)

-- the attributes of a span: the service at its other end, what stands under Zipkin's own keys, and its free tags
abbrev pub attributes_by : ZSpan → Pairs → Pairs
attributes_by span tags =
    attrs (row peer_key (peer_of span.remote.service (at peer_key tags)) ++ (own_rows (own_of span) ++ free_pairs tags))

-- ---- events: an annotation is an event text, or a name alone

-- an event at this time, in nanoseconds: with the name and attributes read of its text, or else with the text as its name
abbrev pub event_by : ℕ → List ℕ → Option (List ℕ × Pairs) → Event
event_by time text None = record { time = time; name = text; attributes = []; dropped = 0 }
event_by time text (Some read) = record { time = time; name = read.0; attributes = read.1; dropped = 0 }

-- the event that an annotation is (Zipkin v2 `annotations`): its time and its text
abbrev pub zipkin_event_of : ℕ × List ℕ → Event
zipkin_event_of annotation = event_by annotation.0 annotation.1 (event_text_read annotation.1)

-- the kind of a span by its `kind` (Zipkin v2); a span without one is internal
abbrev pub zipkin_kind_read : ZKind → Kind
zipkin_kind_read zkinds.Absent = kinds.Internal
zipkin_kind_read zkinds.Client = kinds.Client
zipkin_kind_read zkinds.Server = kinds.Server
zipkin_kind_read zkinds.Producer = kinds.Producer
zipkin_kind_read zkinds.Consumer = kinds.Consumer

-- ---- the span and its run, by its columns and its tags

-- the span that a span of Zipkin means, by its columns and its tags; it has no links and no flags
abbrev pub span_read_by : ZSpan → TagColumns → Pairs → Span
span_read_by span c tags = record {
  trace = span.trace;
  id = span.id;
  state = unwrap_or (text_in (c columns.State)) [];
  parent = span.parent;
  name = span.name;
  kind = zipkin_kind_read span.kind;
  start = span.start;
  end = span.end;
  attributes = attributes_by span tags;
  dropped_attributes = unwrap_or (count_in (c columns.DroppedAttributes)) 0;
  events = map zipkin_event_of span.annotations;
  dropped_events = unwrap_or (count_in (c columns.DroppedEvents)) 0;
  links = [];
  dropped_links = unwrap_or (count_in (c columns.DroppedLinks)) 0;
  status = record { code = status_code c; message = message_of (status_code c) (c columns.Error) };
  flags = 0;
}

-- the resource of a span and the name and version of its scope; an older `otel.library` key counts where the newer is absent
abbrev pub run_by : ZSpan → TagColumns → Pairs → Run
run_by span c tags = record {
  resource = resource_by span.local.service tags;
  name = name_in (c columns.ScopeName) (c columns.LibraryName);
  version = name_in (c columns.ScopeVersion) (c columns.LibraryVersion);
}

-- what a span of Zipkin means: a span, with its resource and the name and version of its scope
abbrev pub run_span_of : ZSpan → RunSpan
run_span_of span =
    (run_by span (columns_in (pairs_of span)) (pairs_of span), span_read_by span (columns_in (pairs_of span)) (pairs_of span))

-- ---- the trace

-- the trace that spans of Zipkin mean, in their order: neighbours of the same resource stand in one group
abbrev pub groups_of : List ZSpan → List Group
groups_of spans = regrouped (map run_span_of spans)
