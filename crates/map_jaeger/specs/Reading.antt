-- What a batch means (OpenTelemetry exporter page for Jaeger, read backwards; jaeger.thrift): its process is a resource, and each of its
-- spans a span, whose tags are attributes but for those of the table. Of equal tags the last counts, wherever it stands. Where
-- the key of such an attribute is a reserved one behind copies of `otel.attr.`, one copy is taken off; so it is in a log.
use Rattle.std.specs.Prelude.{ℕ, ◌-◌, ◌%◌, ◌^◌, ℤ, Bool, false, not, ◌&&◌, ◌==◌, if◌then◌else◌, List, [], ◌∷◌, ◌++◌, map, filter, find, Option, Some, None, option_map, unwrap_or, decimal}
use Rattle.std.specs.Int.{w32, cast_unsigned}
use Rattle.std.specs.Option.{option_or}
use Rattle.jaeger_model.specs.declared.batch.Batch.{Batch}
use Rattle.jaeger_model.specs.declared.span.JSpan.{JSpan}
use Rattle.jaeger_model.specs.declared.span.Log.{Log}
use Rattle.jaeger_model.specs.declared.span.SpanRef.{SpanRef}
use Rattle.jaeger_model.specs.declared.tag.Tag.{Tag}
use Rattle.trace_model.specs.Attributes.{attrs, at}
use Rattle.trace_model.specs.declared.span.Event.{Event}
use Rattle.trace_model.specs.declared.span.Kind.TheVariants as kinds
use Rattle.trace_model.specs.declared.span.Link.{Link}
use Rattle.trace_model.specs.declared.span.Span.{Span}
use Rattle.trace_model.specs.declared.group.Group.{Group}
use Rattle.trace_model.specs.declared.value.Value.{Value, Text}
use Rattle.span_tags.specs.Escapes.{unescaped}
use Rattle.span_tags.specs.Runs.{Scoped, runs}
use Rattle.span_tags.specs.TagKeys.{service_key}
use Rattle.span_tags.specs.TagWords.{row, text_in, count_in, text_given, name_in, without}
use Rattle.map_jaeger.specs.ColumnWords.{kind_in, message_by}
use Rattle.map_jaeger.specs.Columns.{Columns, looked, status_of_columns, is_free, is_reserved}
use Rattle.map_jaeger.specs.Keys.{flags_key, event_key, is_event_reserved, reference_key, child_of_word}
use Rattle.map_jaeger.specs.TagValues.{attribute_of}
use Rattle.map_jaeger.specs.declared.columns.Column.TheVariants as columns

-- the attributes that tags are
abbrev pub attributes_of : List Tag → List (List ℕ × Value)
attributes_of tags = attrs (map attribute_of tags)

-- ---- flags: the first bit is the span's, and the others stand under a key of their own

-- their 32 bits
abbrev pub flag_bits : ℤ → ℕ
flag_bits flags = cast_unsigned w32 flags % 2 ^ 32

-- flags as the attribute `jaeger.flags`: the text of their decimal, or none where they are 0
abbrev pub high_flags : ℕ → Option Value
high_flags n = if n == 0 then None else Some (Text (decimal n))

-- that attribute of a span's `flags` (jaeger.thrift, struct Span, field 7): their 32 bits but the first
abbrev pub high_flags_of : ℤ → Option Value
high_flags_of flags = high_flags (flag_bits flags - flag_bits flags % 2)

-- ---- attributes, events and links

-- a span's attributes, by its `flags` and its tags: `jaeger.flags`, and the tags that the table has no row for, without the
-- `otel.attr.` of an escaped key
abbrev pub span_attributes : ℤ → List (List ℕ × Value) → List (List ℕ × Value)
span_attributes flags tags =
    attrs (row flags_key (high_flags_of flags) ++ unescaped is_reserved (filter (λ tag. is_free tag.0) tags))

-- a log as an event (jaeger.thrift, struct Log): the field `event` is the name where it is a text, the fields of other keys are
-- attributes, and the time is in nanoseconds
abbrev pub event_of : Log → Event
event_of log = record {
  time = log.time;
  name = unwrap_or (text_in (at event_key (attributes_of log.fields))) [];
  attributes = unescaped is_event_reserved (without event_key (attributes_of log.fields));
  dropped = 0;
}

-- a reference as a link (jaeger.thrift, struct SpanRef): its identifiers, and the mark of CHILD_OF where it is one
abbrev pub link_of_reference : SpanRef → Link
link_of_reference reference = record {
  trace = reference.trace;
  span = reference.span;
  state = [];
  attributes = if reference.child_of then (reference_key, Text child_of_word) ∷ [] else [];
  dropped = 0;
  flags = 0;
}

-- a CHILD_OF reference of the span's own trace
abbrev pub is_own_parent : ℕ → SpanRef → Bool
is_own_parent trace reference = reference.child_of && (reference.trace == trace)

-- the parent, or where there is none the span of the first such reference
abbrev pub parent_of : JSpan → Option ℕ
parent_of span =
    option_or span.parent (option_map (λ reference. reference.span) (find (is_own_parent span.trace) span.references))

-- there is a parent, and this is its identifier
abbrev pub names : Option ℕ → ℕ → Bool
names None id = false
names (Some parent) id = parent == id

-- every reference but those of CHILD_OF in this trace that name the parent
abbrev pub links_but : ℕ → Option ℕ → List SpanRef → List Link
links_but trace parent references =
    map link_of_reference (filter (λ reference. not (is_own_parent trace reference && names parent reference.span)) references)

-- a span's links: its references but those of CHILD_OF in its own trace that name its parent
abbrev pub links_of : JSpan → List Link
links_of span = links_but span.trace (parent_of span) span.references

-- ---- the span, by its columns and its tags

-- the span that a span of a batch means (jaeger.thrift, struct Span), by what stands in the columns of the table and by all its
-- tags; times are in nanoseconds
abbrev pub span_by : JSpan → Columns → List (List ℕ × Value) → Span
span_by span c tags = record {
  trace = span.trace;
  id = span.id;
  state = unwrap_or (text_in (c columns.State)) [];
  parent = parent_of span;
  name = span.name;
  kind = unwrap_or (kind_in (c columns.Kind)) kinds.Internal;
  start = span.start;
  end = span.end;
  attributes = span_attributes span.flags tags;
  dropped_attributes = unwrap_or (count_in (c columns.DroppedAttributes)) 0;
  events = map event_of span.logs;
  dropped_events = unwrap_or (count_in (c columns.DroppedEvents)) 0;
  links = links_of span;
  dropped_links = unwrap_or (count_in (c columns.DroppedLinks)) 0;
  status = record { code = status_of_columns c; message = message_by (status_of_columns c) (c columns.Description) };
  flags = flag_bits span.flags % 2;
}

-- the same, with the name and version of its scope: the older library keys count where the newer are absent or no texts
abbrev pub scoped_by : JSpan → Columns → List (List ℕ × Value) → Scoped Span
scoped_by span c tags = record {
  name = name_in (c columns.ScopeName) (c columns.LibraryName);
  version = name_in (c columns.ScopeVersion) (c columns.LibraryVersion);
  span = span_by span c tags;
}

-- the same, with the columns that its own tags fill
abbrev pub scoped_of : JSpan → Scoped Span
scoped_of span = scoped_by span (looked (attributes_of span.tags)) (attributes_of span.tags)

-- ---- the batch

-- the attributes of a process: its service's name as `service.name`, unless empty, and its tags but one of that key
abbrev pub process_attributes : List ℕ → List (List ℕ × Value) → List (List ℕ × Value)
process_attributes service tags = attrs (row service_key (text_given service) ++ without service_key tags)

-- the resource that the process of a batch is (jaeger.thrift, struct Process)
abbrev pub resource_of : Batch → List (List ℕ × Value)
resource_of batch = process_attributes batch.service (attributes_of batch.tags)

-- the group that a batch means (jaeger.thrift, struct Batch); spans one behind the other whose scopes have equal names and
-- versions share a scope
abbrev pub group_of : Batch → Group
group_of batch = record {
  resource = resource_of batch;
  dropped = 0;
  schema_url = [];
  scopes = runs (map scoped_of batch.spans);
}
