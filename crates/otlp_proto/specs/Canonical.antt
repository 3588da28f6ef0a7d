-- The one canonical text of each message: fields by rising number, repeated ones in their order, each varint in its shortest
-- spelling. A field is left out where it is its default, and a message inside where all of it is. An element of a list is always
-- written, and so is the one member of a value.
use Rattle.std.specs.Prelude.{ℕ, ◌==◌, if◌then◌else◌, Bool, List, [], ◌∷◌, ◌++◌, Option, Some, None}
use Rattle.std.specs.List.{flat_map}
use Rattle.std.specs.Int.{w64, w128, to_be_bytes, from_be_bytes, cast_unsigned}
use Rattle.proto_wire.specs.Records.{varint, fixed64, bytes, fixed32}
use Rattle.proto_wire.specs.Wire.{record_text}
use Rattle.trace_model.specs.declared.span.Status.{Status}
use Rattle.trace_model.specs.declared.span.Event.{Event}
use Rattle.trace_model.specs.declared.span.Link.{Link}
use Rattle.trace_model.specs.declared.span.Span.{Span}
use Rattle.trace_model.specs.declared.group.Scope.{Scope}
use Rattle.trace_model.specs.declared.group.Group.{Group}
use Rattle.trace_model.specs.declared.value.Value.{Value, Text, Truth, Number, Eight, Bytes, List', Map', Nothing, Row_of-Value, end_of-Value, more_of-Value, Row_of-Value-Map-0-2, end_of-Value-Map-0-2, more_of-Value-Map-0-2}
use Rattle.trace_model.specs.OtlpParts.{kind_number, code_number}

-- ---- fields

-- a field of wire type 2 that is always written
abbrev pub bytes_field : ℕ → List ℕ → List ℕ
bytes_field number held = record_text (record { number = number; held = bytes held })

-- the same, left out where it holds nothing
abbrev pub filled_field : ℕ → List ℕ → List ℕ
filled_field number [] = []
filled_field number (b ∷ held) = bytes_field number (b ∷ held)

-- a number of wire type 0, left out where it is 0
abbrev pub count_field : ℕ → ℕ → List ℕ
count_field number n = if n == 0 then [] else record_text (record { number = number; held = varint n })

-- a time, of wire type 1
abbrev pub time_field : ℕ → ℕ → List ℕ
time_field number n = if n == 0 then [] else record_text (record { number = number; held = fixed64 n })

-- flags, of wire type 5
abbrev pub flags_field : ℕ → ℕ → List ℕ
flags_field number n = if n == 0 then [] else record_text (record { number = number; held = fixed32 n })

-- a repeated field of messages, in their order
unfoldable pub list_text : {A : Type 0} → ℕ → (A → List ℕ) → List A → List ℕ
list_text number text xs = flat_map (λ x. bytes_field number (text x)) xs

-- ---- values (common.proto)

-- the varint of a `bool_value`: 1 if it is true, else 0
abbrev pub truth_bit : Bool → ℕ
truth_bit truth = if truth then 1 else 0

abbrev mutual
  -- `AnyValue`: string 1, bool 2, int 3, double 4, array 5, kvlist 6, bytes 7. An integer is the two's complement of 64 bits.
  pub value_text : Value → List ℕ
  value_text (Text text) = bytes_field 1 text
  value_text (Truth truth) = record_text (record { number = 2; held = varint (truth_bit truth) })
  value_text (Number n) = record_text (record { number = 3; held = varint (cast_unsigned w64 n) })
  value_text (Eight double) = record_text (record { number = 4; held = fixed64 (from_be_bytes w64 double) })
  value_text (List' shape members) = bytes_field 5 (members_text members)
  value_text (Map' shape members) = bytes_field 6 (entries_text members)
  value_text (Bytes held) = bytes_field 7 held
  value_text Nothing = []

  -- `ArrayValue`: values 1
  pub members_text : {n : _} → Row_of-Value n → List ℕ
  members_text end_of-Value = []
  members_text (more_of-Value value rest) = bytes_field 1 (value_text value) ++ members_text rest

  -- `KeyValueList`: values 1, each a `KeyValue`: key 1, value 2
  pub entries_text : {n : _} → Row_of-Value-Map-0-2 n → List ℕ
  entries_text end_of-Value-Map-0-2 = []
  entries_text (more_of-Value-Map-0-2 key value rest) =
      bytes_field 1 (filled_field 1 key ++ filled_field 2 (value_text value)) ++ entries_text rest

-- `KeyValue`: key 1, left out where it is empty, and value 2, left out where it is nothing
abbrev pub key_value_text : List ℕ × Value → List ℕ
key_value_text pair = filled_field 1 pair.0 ++ filled_field 2 (value_text pair.1)

-- attributes, under the number that they have in their message
abbrev pub attributes_text : ℕ → List (List ℕ × Value) → List ℕ
attributes_text number attributes = list_text number key_value_text attributes

-- ---- spans (trace.proto)

-- `Status`: message 2, code 3
abbrev pub status_text : Status → List ℕ
status_text status = filled_field 2 status.message ++ count_field 3 (code_number status.code)

-- `Event`: time_unix_nano 1, name 2, attributes 3, dropped_attributes_count 4
unfoldable pub otlp_event_text : Event → List ℕ
otlp_event_text event =
    time_field 1 event.time ++ (filled_field 2 event.name ++ (attributes_text 3 event.attributes ++ count_field 4 event.dropped))

-- a trace's identifier, always written: 16 bytes, the most significant first
abbrev pub trace_field : ℕ → ℕ → List ℕ
trace_field number id = bytes_field number (to_be_bytes w128 id)

-- a span's identifier, always written: 8 bytes, the most significant first
abbrev pub span_field : ℕ → ℕ → List ℕ
span_field number id = bytes_field number (to_be_bytes w64 id)

-- `parent_span_id`, 8 bytes, left out where the span has no parent
abbrev pub parent_field : ℕ → Option ℕ → List ℕ
parent_field number None = []
parent_field number (Some id) = span_field number id

-- `Link`: trace_id 1, span_id 2, trace_state 3, attributes 4, dropped_attributes_count 5, flags 6
unfoldable pub link_text : Link → List ℕ
link_text link = trace_field 1 link.trace ++ (span_field 2 link.span ++ (filled_field 3 link.state
    ++ (attributes_text 4 link.attributes ++ (count_field 5 link.dropped ++ flags_field 6 link.flags))))

-- `Span`: trace_id 1, span_id 2, trace_state 3, parent_span_id 4, name 5, kind 6, start_time_unix_nano 7, end_time_unix_nano 8,
-- attributes 9, dropped_attributes_count 10, events 11, dropped_events_count 12, links 13, dropped_links_count 14, status 15,
-- flags 16
unfoldable pub span_text : Span → List ℕ
span_text span = trace_field 1 span.trace ++ (span_field 2 span.id ++ (filled_field 3 span.state ++ (parent_field 4 span.parent
    ++ (filled_field 5 span.name ++ (count_field 6 (kind_number span.kind) ++ (time_field 7 span.start ++ (time_field 8 span.end
    ++ (attributes_text 9 span.attributes ++ (count_field 10 span.dropped_attributes ++ (list_text 11 otlp_event_text span.events
    ++ (count_field 12 span.dropped_events ++ (list_text 13 link_text span.links ++ (count_field 14 span.dropped_links
    ++ (filled_field 15 (status_text span.status) ++ flags_field 16 span.flags))))))))))))))

-- ---- groups (trace.proto, resource.proto)

-- `InstrumentationScope`: name 1, version 2, attributes 3, dropped_attributes_count 4
unfoldable pub instrumentation_scope_text : Scope → List ℕ
instrumentation_scope_text scope =
    filled_field 1 scope.name
    ++ (filled_field 2 scope.version ++ (attributes_text 3 scope.attributes ++ count_field 4 scope.dropped))

-- `ScopeSpans`: scope 1, spans 2, schema_url 3
unfoldable pub scope_text : Scope → List ℕ
scope_text scope =
    filled_field 1 (instrumentation_scope_text scope) ++ (list_text 2 span_text scope.spans ++ filled_field 3 scope.schema_url)

-- `Resource`: attributes 1, dropped_attributes_count 2
unfoldable pub resource_text : Group → List ℕ
resource_text group = attributes_text 1 group.resource ++ count_field 2 group.dropped

-- `ResourceSpans`: resource 1, scope_spans 2, schema_url 3
unfoldable pub group_text : Group → List ℕ
group_text group =
    filled_field 1 (resource_text group) ++ (list_text 2 scope_text group.scopes ++ filled_field 3 group.schema_url)

-- `ExportTraceServiceRequest`: resource_spans 1
abbrev pub group_record : Group → List ℕ
group_record group = bytes_field 1 (group_text group)
