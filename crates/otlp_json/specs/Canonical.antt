-- The one canonical text of a group in OTLP/JSON: compact JSON (RFC 8259), the members of each object in the order of their names'
-- bytes. Numbers of 64 bits are decimal texts, identifiers have all their digits, in lower case. A member that holds its default is
-- left out, and so is an object of which all is default; an element of a list is always written, and so is the one member of a value.
-- It is asked for where no double stands in the group.
use Rattle.std.specs.Prelude.{ℕ, zero, suc, List, [], ◌∷◌, ◌++◌, map, Option, Some, None, option_map, codes}
use Rattle.std.specs.Fmt.{decimal, signed_decimal}
use Rattle.std.specs.List.{join_with_byte}
use Rattle.base64.specs.GeneralPurpose.{encode_of}
use Rattle.base64.specs.Engines.{standard}
use Rattle.serde_json.specs.Data.{Data, null, boolean, string, array, object, Items, no_items, item, no_members, member}
use Rattle.serde_json.specs.View.{items_of}
use Rattle.serde_json.specs.Written.{compact_text}
use Rattle.trace_model.specs.declared.span.Status.{Status}
use Rattle.trace_model.specs.declared.span.Event.{Event}
use Rattle.trace_model.specs.declared.span.Link.{Link}
use Rattle.trace_model.specs.declared.span.Span.{Span}
use Rattle.trace_model.specs.declared.group.Scope.{Scope}
use Rattle.trace_model.specs.declared.group.Group.{Group}
use Rattle.trace_model.specs.declared.value.Value.{Value, Text, Truth, Number, Eight, Bytes, List', Map', Nothing, Row_of-Value, end_of-Value, more_of-Value, Row_of-Value-Map-0-2, end_of-Value-Map-0-2, more_of-Value-Map-0-2}
use Rattle.trace_model.specs.OtlpParts.{kind_number, code_number}
use Rattle.json_members.specs.Canonical.{MemberRow, members_given, unless_empty, text_data, count_data, trace_id_text, span_id_text}

-- ---- values (common.proto)

-- an object with this member alone
abbrev pub one_member : List ℕ → Data → Data
one_member name d = object (member name d no_members)

-- the `values` of a list or map
abbrev pub of_values : Items → Data
of_values no_items = object no_members
of_values (item d more) = one_member (codes "values") (array (item d more))

-- a value, unless it is nothing
abbrev pub unless_bare : Data → Option Data
unless_bare (object no_members) = None
unless_bare d = Some d

-- `KeyValue`: an empty `key` is left out, and so is a `value` that is nothing
abbrev pub key_value_data : List ℕ → Data → Data
key_value_data key value = object (members_given ((codes "key", text_data key) ∷ (codes "value", unless_bare value) ∷ []))

abbrev mutual
  pub any_value_data : Value → Data
  any_value_data (Text text) = one_member (codes "stringValue") (string text)
  any_value_data (Truth truth) = one_member (codes "boolValue") (boolean truth)
  any_value_data (Number n) = one_member (codes "intValue") (string (signed_decimal n))
  any_value_data (Eight double) = one_member (codes "doubleValue") null
  any_value_data (List' shape members) = one_member (codes "arrayValue") (of_values (each_data members))
  any_value_data (Map' shape members) = one_member (codes "kvlistValue") (of_values (pairs_data members))
  any_value_data (Bytes held) = one_member (codes "bytesValue") (string (encode_of standard held))
  any_value_data Nothing = object no_members

  pub each_data : {n : _} → Row_of-Value n → Items
  each_data end_of-Value = no_items
  each_data (more_of-Value value rest) = item (any_value_data value) (each_data rest)

  pub pairs_data : {n : _} → Row_of-Value-Map-0-2 n → Items
  pairs_data end_of-Value-Map-0-2 = no_items
  pairs_data (more_of-Value-Map-0-2 key value rest) = item (key_value_data key (any_value_data value)) (pairs_data rest)

-- ---- members that are left out where they hold their default

-- a number of 64 bits
abbrev pub decimal_data : ℕ → Option Data
decimal_data zero = None
decimal_data (suc n) = Some (string (decimal (suc n)))

-- a list, by its elements
abbrev pub list_data : {A : Type 0} → (A → Data) → List A → Option Data
list_data data_of [] = None
list_data data_of (x ∷ xs) = Some (array (items_of (map data_of (x ∷ xs))))

-- an array of `KeyValue`s in the order of the attributes, left out where there are none
abbrev pub attributes_data : List (List ℕ × Value) → Option Data
attributes_data attributes = list_data (λ pair. key_value_data pair.0 (any_value_data pair.1)) attributes

-- ---- spans (trace.proto)

-- `Status`: its code as a number, and its message
abbrev pub status_rows : Status → List MemberRow
status_rows status = (codes "code", count_data (code_number status.code)) ∷ (codes "message", text_data status.message) ∷ []

-- `Span.Event`: its time in nanoseconds since 1970, as a decimal text
abbrev pub event_rows : Event → List MemberRow
event_rows event = (codes "attributes", attributes_data event.attributes) ∷ (codes "droppedAttributesCount", count_data event.dropped)
    ∷ (codes "name", text_data event.name) ∷ (codes "timeUnixNano", decimal_data event.time) ∷ []

-- the object of an event, written even where all of it is default
abbrev pub event_data : Event → Data
event_data event = object (members_given (event_rows event))

-- `Span.Link`: both identifiers are always written, `traceId` with 32 hex digits and `spanId` with 16
abbrev pub link_rows : Link → List MemberRow
link_rows link = (codes "attributes", attributes_data link.attributes) ∷ (codes "droppedAttributesCount", count_data link.dropped)
    ∷ (codes "flags", count_data link.flags) ∷ (codes "spanId", Some (string (span_id_text link.span)))
    ∷ (codes "traceId", Some (string (trace_id_text link.trace))) ∷ (codes "traceState", text_data link.state) ∷ []

-- the object of a link
abbrev pub link_data : Link → Data
link_data link = object (members_given (link_rows link))

-- `Span`: its own two identifiers are always written, `parentSpanId` where there is a parent; its kind is a number,
-- and its two times are nanoseconds since 1970, as decimal texts
abbrev pub otlp_span_rows : Span → List MemberRow
otlp_span_rows span = (codes "attributes", attributes_data span.attributes) ∷ (codes "droppedAttributesCount", count_data span.dropped_attributes)
    ∷ (codes "droppedEventsCount", count_data span.dropped_events) ∷ (codes "droppedLinksCount", count_data span.dropped_links)
    ∷ (codes "endTimeUnixNano", decimal_data span.end) ∷ (codes "events", list_data event_data span.events) ∷ (codes "flags", count_data span.flags)
    ∷ (codes "kind", count_data (kind_number span.kind)) ∷ (codes "links", list_data link_data span.links) ∷ (codes "name", text_data span.name)
    ∷ (codes "parentSpanId", option_map (λ id. string (span_id_text id)) span.parent) ∷ (codes "spanId", Some (string (span_id_text span.id)))
    ∷ (codes "startTimeUnixNano", decimal_data span.start) ∷ (codes "status", unless_empty (members_given (status_rows span.status)))
    ∷ (codes "traceId", Some (string (trace_id_text span.trace))) ∷ (codes "traceState", text_data span.state) ∷ []

-- the object of a span
abbrev pub otlp_span_data : Span → Data
otlp_span_data span = object (members_given (otlp_span_rows span))

-- ---- groups (trace.proto, resource.proto)

-- `InstrumentationScope` (common.proto): what is told of the scope itself, without its spans and its schema's URL
abbrev pub instrumentation_scope_rows : Scope → List MemberRow
instrumentation_scope_rows scope = (codes "attributes", attributes_data scope.attributes) ∷ (codes "droppedAttributesCount", count_data scope.dropped)
    ∷ (codes "name", text_data scope.name) ∷ (codes "version", text_data scope.version) ∷ []

-- `ScopeSpans`: a `scope` of which all is default is left out, and so are `spans` where there are none
abbrev pub scope_rows : Scope → List MemberRow
scope_rows scope = (codes "schemaUrl", text_data scope.schema_url) ∷ (codes "scope", unless_empty (members_given (instrumentation_scope_rows scope)))
    ∷ (codes "spans", list_data otlp_span_data scope.spans) ∷ []

-- the object of a scope with its spans, written even where all of it is default
abbrev pub scope_data : Scope → Data
scope_data scope = object (members_given (scope_rows scope))

-- `Resource` (resource.proto): the attributes of what made the spans, and the count of those that were dropped
abbrev pub resource_rows : Group → List MemberRow
resource_rows group = (codes "attributes", attributes_data group.resource) ∷ (codes "droppedAttributesCount", count_data group.dropped) ∷ []

-- `ResourceSpans`: a `resource` of which all is default is left out, and so are `scopeSpans` where there are none
abbrev pub group_rows : Group → List MemberRow
group_rows group = (codes "resource", unless_empty (members_given (resource_rows group))) ∷ (codes "schemaUrl", text_data group.schema_url)
    ∷ (codes "scopeSpans", list_data scope_data group.scopes) ∷ []

-- the object of a group, written even where all of it is default
abbrev pub group_data : Group → Data
group_data group = object (members_given (group_rows group))

-- the compact text of one group, as UTF-8 bytes
unfoldable pub json_group_text : Group → List ℕ
json_group_text group = compact_text (group_data group)

-- ---- the whole text: the groups' texts, with commas between them

-- the value of the whole text, `TracesData`: an object whose `resourceSpans` are the groups, also where there are none
abbrev pub groups_data : List Group → Data
groups_data groups = one_member (codes "resourceSpans") (array (items_of (map group_data groups)))

-- the bytes of the whole text; 44 is the comma
unfoldable pub json_groups_text : List Group → List ℕ
json_groups_text groups = codes "{\"resourceSpans\":[" ++ (join_with_byte 44 (map json_group_text groups) ++ codes "]}")
