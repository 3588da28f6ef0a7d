-- The one canonical text of a span of Zipkin v2: compact JSON (RFC 8259), the members of each object in the order of their names' bytes. A
-- member that holds its default is left out, and so is an object of which all is default; `traceId`, `id`, both members of an annotation
-- and every tag are always written. Identifiers have all their digits, in lower case.
use Rattle.std.specs.Prelude.{ℕ, ◌-◌, List, [], ◌∷◌, ◌++◌, map, Option, Some, None, option_map, codes}
use Rattle.std.specs.List.{join_with_byte}
use Rattle.serde_json.specs.Data.{Data, number, string, array, object, unsigned, Members, no_members, member}
use Rattle.serde_json.specs.View.{items_of}
use Rattle.serde_json.specs.Written.{compact_text}
use Rattle.span_ids.specs.Times.{micros}
use Rattle.json_members.specs.Canonical.{MemberRow, members_given, unless_empty, text_data, count_data, truth_data, trace_id_text, span_id_text}
use Rattle.zipkin_json.specs.declared.span.Endpoint.{Endpoint}
use Rattle.zipkin_json.specs.declared.span.ZKind.{ZKind}
use Rattle.zipkin_json.specs.declared.span.ZKind.TheVariants as kinds
use Rattle.zipkin_json.specs.declared.span.ZSpan.{ZSpan}

-- ---- `Endpoint`, `Annotation` and `tags`

-- the members of `Endpoint`, in the order of their names: each text is left out where it is empty, and `port` where it is 0
abbrev pub endpoint_rows : Endpoint → List MemberRow
endpoint_rows e = (codes "ipv4", text_data e.ipv4) ∷ (codes "ipv6", text_data e.ipv6) ∷ (codes "port", count_data e.port)
    ∷ (codes "serviceName", text_data e.service) ∷ []

-- an `Endpoint`, left out where it has no member
abbrev pub endpoint_data : Endpoint → Option Data
endpoint_data e = unless_empty (members_given (endpoint_rows e))

-- an `Annotation`: `timestamp` in whole microseconds, of a time in nanoseconds, and `value`
abbrev pub annotation_json : ℕ × List ℕ → Data
annotation_json a = object (member (codes "timestamp") (number (unsigned (micros a.0))) (member (codes "value") (string a.1) no_members))

-- `annotations`: an array in the order of the list, left out where there are none
abbrev pub annotations_data : List (ℕ × List ℕ) → Option Data
annotations_data [] = None
annotations_data (a ∷ more) = Some (array (items_of (map annotation_json (a ∷ more))))

-- the members of `tags`: under each key its text, in the order of the list
abbrev pub tag_members : List (List ℕ × List ℕ) → Members
tag_members [] = no_members
tag_members (tag ∷ tags) = member tag.0 (string tag.1) (tag_members tags)

-- `tags`: an object, left out where there are none
abbrev pub tags_data : List (List ℕ × List ℕ) → Option Data
tags_data tags = unless_empty (tag_members tags)

-- ---- `Span`

-- `kind`: its word in capital letters, left out where the span has none
abbrev pub kind_data : ZKind → Option Data
kind_data kinds.Absent = None
kind_data kinds.Client = Some (string (codes "CLIENT"))
kind_data kinds.Server = Some (string (codes "SERVER"))
kind_data kinds.Producer = Some (string (codes "PRODUCER"))
kind_data kinds.Consumer = Some (string (codes "CONSUMER"))

-- the members of `Span`, in the order of their names; `timestamp` is the start, `duration` the time to the end, in microseconds
abbrev pub zspan_rows : ZSpan → List MemberRow
zspan_rows s = (codes "annotations", annotations_data s.annotations) ∷ (codes "debug", truth_data s.debug)
    ∷ (codes "duration", count_data (micros s.end - micros s.start)) ∷ (codes "id", Some (string (span_id_text s.id)))
    ∷ (codes "kind", kind_data s.kind) ∷ (codes "localEndpoint", endpoint_data s.local) ∷ (codes "name", text_data s.name)
    ∷ (codes "parentId", option_map (λ id. string (span_id_text id)) s.parent) ∷ (codes "remoteEndpoint", endpoint_data s.remote)
    ∷ (codes "shared", truth_data s.shared) ∷ (codes "tags", tags_data s.tags) ∷ (codes "timestamp", count_data (micros s.start))
    ∷ (codes "traceId", Some (string (trace_id_text s.trace))) ∷ []

-- a `Span`, as an object of the members that aren't left out
abbrev pub span_json : ZSpan → Data
span_json s = object (members_given (zspan_rows s))

-- its bytes, without blanks between the parts
unfoldable pub zspan_text : ZSpan → List ℕ
zspan_text s = compact_text (span_json s)

-- ---- the whole text: the spans' texts in brackets, with commas between them

-- the array of these spans, in their order
abbrev pub spans_json : List ZSpan → Data
spans_json spans = array (items_of (map span_json spans))

-- its bytes; no spans are an empty array
unfoldable pub spans_text : List ZSpan → List ℕ
spans_text spans = codes "[" ++ (join_with_byte 44 (map zspan_text spans) ++ codes "]")
