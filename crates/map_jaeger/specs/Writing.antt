-- The batch of a group (OpenTelemetry exporter page for Jaeger; jaeger.thrift), where nothing in it is a fault. Tags and log fields stand by
-- rising keys. An attribute of a span or event under a reserved key, or under one behind copies of `otel.attr.`, gets one copy more.
use Rattle.std.specs.Prelude.{◌+◌, ◌%◌, ℤ, Bool, false, List, ◌++◌, map, Option, Some, unwrap_or}
use Rattle.std.specs.Int.{w32, cast_signed}
use Rattle.std.specs.Str.{bytes_eq}
use Rattle.jaeger_model.specs.declared.batch.Batch.{Batch}
use Rattle.jaeger_model.specs.declared.span.JSpan.{JSpan}
use Rattle.jaeger_model.specs.declared.span.Log.{Log}
use Rattle.jaeger_model.specs.declared.span.SpanRef.{SpanRef}
use Rattle.jaeger_model.specs.declared.tag.Tag.{Tag}
use Rattle.span_ids.specs.Times.{floor}
use Rattle.trace_model.specs.Attributes.{attrs, at}
use Rattle.trace_model.specs.declared.span.Event.{Event}
use Rattle.trace_model.specs.declared.span.Link.{Link}
use Rattle.trace_model.specs.declared.span.Span.{Span}
use Rattle.trace_model.specs.declared.group.Group.{Group}
use Rattle.trace_model.specs.declared.value.Value.{Value, Text}
use Rattle.span_tags.specs.Escapes.{escaped}
use Rattle.span_tags.specs.Runs.{Scoped, scoped}
use Rattle.span_tags.specs.TagKeys.{service_key}
use Rattle.span_tags.specs.TagWords.{row, text_given, without, text_or_none}
use Rattle.map_jaeger.specs.ColumnWords.{flags_in}
use Rattle.map_jaeger.specs.Columns.{columns_of, rows, is_reserved}
use Rattle.map_jaeger.specs.Keys.{flags_key, event_key, is_event_reserved, reference_key, child_of_word}
use Rattle.map_jaeger.specs.TagValues.{tag_of}

-- ---- flags: the first bit of the span's, and those under the key of their own

-- a span's `flags`, as a signed number of 32 bits (jaeger.thrift, struct Span, field 7): bit 0 of its own, and the others as
-- `jaeger.flags` tells them
abbrev pub flags_of : Span → ℤ
flags_of span = cast_signed w32 (span.flags % 2 + unwrap_or (flags_in (at flags_key span.attributes)) 0)

-- ---- tags, logs and references

-- a span's tags: those of the table, and its attributes but `jaeger.flags`, under escaped keys where they are reserved
abbrev pub tags_of : Scoped Span → List Tag
tags_of one = map tag_of (attrs (rows (columns_of one) ++ escaped is_reserved (without flags_key one.span.attributes)))

-- an event as a log (jaeger.thrift, struct Log): its time down to a whole microsecond, in nanoseconds still, its name as the
-- field `event`, unless empty, and its attributes
abbrev pub log_of : Event → Log
log_of event = record {
  time = floor event.time;
  fields = map tag_of (attrs (row event_key (text_given event.name) ++ escaped is_event_reserved event.attributes));
}

-- the mark of a link that is CHILD_OF
abbrev pub is_child_of : Option Value → Bool
is_child_of (Some (Text text)) = bytes_eq text child_of_word
is_child_of other = false

-- a link as a reference (jaeger.thrift, struct SpanRef): CHILD_OF where it has that mark, else FOLLOWS_FROM
abbrev pub reference_of : Link → SpanRef
reference_of link = record { child_of = is_child_of (at reference_key link.attributes); trace = link.trace; span = link.span }

-- a span as a span of a batch (jaeger.thrift, struct Span): its times are down to a whole microsecond, in nanoseconds still
abbrev pub jaeger_span : Scoped Span → JSpan
jaeger_span one = record {
  trace = one.span.trace;
  id = one.span.id;
  parent = one.span.parent;
  name = one.span.name;
  references = map reference_of one.span.links;
  invalid_refs = 0;
  flags = flags_of one.span;
  start = floor one.span.start;
  end = floor one.span.end;
  tags = tags_of one;
  logs = map log_of one.span.events;
}

-- ---- the batch

-- its service is the text of `service.name`
abbrev pub batch_of : Group → Batch
batch_of group = record {
  service = text_or_none (at service_key group.resource);
  tags = map tag_of (without service_key group.resource);
  spans = map jaeger_span (scoped group.scopes);
}
