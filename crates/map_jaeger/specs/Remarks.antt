-- What is remarked on a batch: keys that stand more than once among the tags of the process, of a span or of a log; references to no span;
-- and tags under the keys of Jaeger's own that say nothing, which are left out.
use Rattle.std.specs.Prelude.{ℕ, nat_lt, Bool, List, ◌++◌, map, is_some, ◌≡◌}
use Rattle.std.specs.List.{AllZip, zip}
use Rattle.jaeger_model.specs.declared.batch.Batch.{Batch}
use Rattle.jaeger_model.specs.declared.span.JSpan.{JSpan}
use Rattle.jaeger_model.specs.declared.span.Log.{Log}
use Rattle.trace_model.specs.Attributes.{AreRepeated, at}
use Rattle.trace_model.specs.Remarks.{Keys, equal_keys, link_dropped, tags_dropped, numbered}
use Rattle.trace_model.specs.declared.place.Place.TheVariants as places
use Rattle.trace_model.specs.declared.remark.Remark.{Remark}
use Rattle.span_tags.specs.TagKeys.{service_key}
use Rattle.span_tags.specs.TagWords.{text_in, if_left, is_idle}
use Rattle.map_jaeger.specs.Columns.{looked, left_out}
use Rattle.map_jaeger.specs.Keys.{event_key}
use Rattle.map_jaeger.specs.Reading.{attributes_of}
use Rattle.map_jaeger.specs.TagValues.{attribute_of}

-- ---- remarks, by the keys that stand more than once

-- there is an `event` in the log that isn't a text
abbrev pub is_idle_event : Log → Bool
is_idle_event log = is_idle (at event_key (attributes_of log.fields)) (text_in (at event_key (attributes_of log.fields)))

-- the remarks on a log, by the number of its span and its own: keys that stand more than once, and a field `event` that isn't
-- a text
abbrev pub log_remarks : ℕ → ℕ → Log × Keys → List Remark
log_remarks span n log =
    equal_keys (places.Event span n) log.1 ++ tags_dropped (places.Event span n) (if_left event_key (is_idle_event log.0))

-- the keys that stand more than once: those among a span's tags, and those in each of its logs
pub record SpanKeys : Type 0 where
  pub span : Keys
  pub logs : List Keys

-- the remarks on a span, by its number: keys that stand more than once, that references to no span were left out, tags of the
-- table that say nothing, and then the remarks on each of its logs, counted from 1
abbrev pub jspan_remarks : ℕ → JSpan × SpanKeys → List Remark
jspan_remarks n noted =
    equal_keys (places.Span n) noted.1.span
    ++ (link_dropped (places.Span n) (nat_lt 0 noted.0.invalid_refs)
    ++ (tags_dropped (places.Span n) (left_out (looked (attributes_of noted.0.tags)))
    ++ numbered (log_remarks n) 1 (zip noted.0.logs noted.1.logs)))

-- these are the keys that stand more than once in the log
abbrev pub RepeatsOf : Log → Keys → Type 0
RepeatsOf log repeated = AreRepeated repeated (map attribute_of log.fields)

-- the same of a span, in its tags and in each of its logs
pub record RepeatsOfSpan (span : JSpan) (repeated : SpanKeys) : Type 0 where
  pub tags : AreRepeated repeated.span (map attribute_of span.tags)
  pub logs : AllZip RepeatsOf span.logs repeated.logs

-- these are the remarks on the batch, in their order: those on its process, of which a tag `service.name` is left out, and then
-- those on each span, counted from 1
pub record AreRemarks (batch : Batch) (remarks : List Remark) : Type 0 where
  pub process : Keys
  pub its_process : AreRepeated process (map attribute_of batch.tags)
  pub spans : List SpanKeys
  pub its_spans : AllZip RepeatsOfSpan batch.spans spans
  pub all : remarks ≡ equal_keys places.Resource process
      ++ (tags_dropped places.Resource (if_left service_key (is_some (at service_key (attributes_of batch.tags))))
      ++ numbered jspan_remarks 1 (zip batch.spans spans))
