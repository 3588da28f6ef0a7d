-- `Span`, `Span.Event`, `Span.Link` and `Status` in OTLP/JSON: what each object means, member by member, and how it offends, its members
-- in the order in which their offences count, which is that of their field numbers. Members that the tables don't have are passed over.
use Rattle.std.specs.Prelude.{◌≡◌, ℕ, List, [], ◌∷◌, true, Option, None, is_some, codes}
use Rattle.serde_json.specs.Data.{Data}
use Rattle.serde_json.specs.Find.{as_object}
use Rattle.span_io.specs.Paths.{Offences, optional, Given, Never}
use Rattle.trace_model.specs.Remarks.{Keys}
use Rattle.trace_model.specs.declared.span.Code.TheVariants as statuses
use Rattle.trace_model.specs.declared.span.Event.{Event}
use Rattle.trace_model.specs.declared.span.Kind.TheVariants as kinds
use Rattle.trace_model.specs.declared.span.Link.{Link}
use Rattle.trace_model.specs.declared.span.Span.{Span}
use Rattle.trace_model.specs.declared.span.Status.{Status}
use Rattle.trace_model.specs.declared.noted.Noted.{Noted}
use Rattle.trace_model.specs.Notes.{SpanNotes}
use Rattle.trace_model.specs.declared.noted.LinkParts.{LinkParts}
use Rattle.trace_model.specs.OtlpParts.{link_of, no_status, AreEventsOf, AreLinksOf}
use Rattle.json_members.specs.Members.{member, AreHeld, elements_offend, IsText, text_offends, Spelled}
use Rattle.json_members.specs.Parts.{object_offends}
use Rattle.otlp_json.specs.Attributes.{AreJsonAttributes, pairs_offend}
use Rattle.otlp_json.specs.Identifiers.{SpellsJsonTrace, SpellsJsonSpan, SpellsTraceOrNone, SpellsSpanOrNone, json_trace_offends, json_span_offends, trace_or_none_offends, span_or_none_offends, identified}
use Rattle.otlp_json.specs.Numbers.{IsJsonCount, json_count_offends, IsJsonTime, json_time_offends, enum_offends, IsJsonKind, IsJsonCode}

-- ---- `Status`

-- the object means this status; an absent message is empty, and an absent code is STATUS_CODE_UNSET
pub record IsJsonStatus (s : Status) (d : Data) : Type 0 where
  pub shape : is_some (as_object d) ≡ true
  pub message : Given IsText (λ text. text ≡ []) s.message (member (codes "message") d)
  pub code : Given IsJsonCode (λ code. code ≡ statuses.Unset) s.code (member (codes "code") d)

-- how its members offend, in the order of field numbers: `message` 2, `code` 3, whose last number is 2
unfoldable pub status_members : Data → List Offences
status_members d = optional text_offends (member (codes "message") d) ∷ optional (enum_offends 2) (member (codes "code") d) ∷ []

-- BadShape: a `Status` that is no object; else what offends in its members
abbrev pub status_offends : Data → Offences
status_offends d = object_offends status_members d

-- ---- `Event`

-- the object means this event, its time in nanoseconds since 1970, and the keys that are noted in its attributes;
-- a member that is absent means its default: 0, the empty text, or no attributes
pub record IsJsonEvent (e : Noted Event Keys) (d : Data) : Type 0 where
  pub shape : is_some (as_object d) ≡ true
  pub time : Given IsJsonTime (λ n. n ≡ 0) e.means.time (member (codes "timeUnixNano") d)
  pub name : Given IsText (λ text. text ≡ []) e.means.name (member (codes "name") d)
  pub attributes : AreJsonAttributes e.means.attributes e.notes (member (codes "attributes") d)
  pub dropped : Given IsJsonCount (λ n. n ≡ 0) e.means.dropped (member (codes "droppedAttributesCount") d)

-- how its members offend, in the order of field numbers: `time_unix_nano` 1, `name` 2, `attributes` 3,
-- `dropped_attributes_count` 4
unfoldable pub event_members : Data → List Offences
event_members d = optional json_time_offends (member (codes "timeUnixNano") d) ∷ optional text_offends (member (codes "name") d)
    ∷ optional pairs_offend (member (codes "attributes") d) ∷ optional json_count_offends
    (member (codes "droppedAttributesCount") d) ∷ []

-- BadShape: a `Span.Event` that is no object; else what offends in its members
abbrev pub event_offends : Data → Offences
event_offends d = object_offends event_members d

-- ---- `Link`: one without one of its identifiers is dropped

-- the object means this link, with the keys that are noted in its attributes, or none where `traceId` or `spanId` is absent,
-- empty or all zeros; another member that is absent means its default
pub record IsJsonLink (l : Option (Noted Link Keys)) (d : Data) : Type 0 where
  pub shape : is_some (as_object d) ≡ true
  pub trace : Option ℕ
  pub trace_id : Given (Spelled SpellsTraceOrNone) (λ id. id ≡ None) trace (member (codes "traceId") d)
  pub span : Option ℕ
  pub span_id : Given (Spelled SpellsSpanOrNone) (λ id. id ≡ None) span (member (codes "spanId") d)
  pub parts : LinkParts
  pub state : Given IsText (λ text. text ≡ []) parts.state (member (codes "traceState") d)
  pub attributes : AreJsonAttributes parts.attributes parts.keys (member (codes "attributes") d)
  pub dropped : Given IsJsonCount (λ n. n ≡ 0) parts.dropped (member (codes "droppedAttributesCount") d)
  pub flags : Given IsJsonCount (λ n. n ≡ 0) parts.flags (member (codes "flags") d)
  pub link : l ≡ link_of trace span parts

-- how its members offend, in the order of field numbers: `trace_id` 1, `span_id` 2, `trace_state` 3, `attributes` 4,
-- `dropped_attributes_count` 5, `flags` 6
unfoldable pub link_members : Data → List Offences
link_members d =
    optional trace_or_none_offends (member (codes "traceId") d) ∷ optional span_or_none_offends (member (codes "spanId") d)
    ∷ optional text_offends (member (codes "traceState") d) ∷ optional pairs_offend (member (codes "attributes") d)
    ∷ optional json_count_offends (member (codes "droppedAttributesCount") d) ∷ optional json_count_offends
    (member (codes "flags") d) ∷ []

-- BadShape: a `Span.Link` that is no object; else what offends in its members, also where the link is dropped
abbrev pub link_offends : Data → Offences
link_offends d = object_offends link_members d

-- ---- `Span`

-- the elements of an array mean these events, one by one
abbrev pub AreJsonEvents : List (Noted Event Keys) → Data → Type 0
AreJsonEvents events d = AreHeld IsJsonEvent events d

-- BadShape: `events` that are no array; else what offends in one of them
abbrev pub events_offend : Data → Offences
events_offend d = elements_offend event_offends d

-- the elements of an array mean these links, one by one, and none stands for one that is dropped
abbrev pub AreJsonLinks : List (Option (Noted Link Keys)) → Data → Type 0
AreJsonLinks links d = AreHeld IsJsonLink links d

-- BadShape: `links` that are no array; else what offends in one of them
abbrev pub links_offend : Data → Offences
links_offend d = elements_offend link_offends d

-- the object means this span, and what is noted of it: `traceId` and `spanId` must be there, and any other member that is
-- absent means its default; its two times are nanoseconds since 1970
pub record IsJsonSpan (s : Noted Span SpanNotes) (d : Data) : Type 0 where
  pub shape : is_some (as_object d) ≡ true
  pub trace : Given (Spelled SpellsJsonTrace) Never s.means.trace (member (codes "traceId") d)
  pub id : Given (Spelled SpellsJsonSpan) Never s.means.id (member (codes "spanId") d)
  pub state : Given IsText (λ text. text ≡ []) s.means.state (member (codes "traceState") d)
  pub parent : Given (Spelled SpellsSpanOrNone) (λ id. id ≡ None) s.means.parent (member (codes "parentSpanId") d)
  pub name : Given IsText (λ text. text ≡ []) s.means.name (member (codes "name") d)
  pub kind : Given IsJsonKind (λ kind. kind ≡ kinds.Unspecified) s.means.kind (member (codes "kind") d)
  pub start : Given IsJsonTime (λ n. n ≡ 0) s.means.start (member (codes "startTimeUnixNano") d)
  pub end : Given IsJsonTime (λ n. n ≡ 0) s.means.end (member (codes "endTimeUnixNano") d)
  pub attributes : AreJsonAttributes s.means.attributes s.notes.keys (member (codes "attributes") d)
  pub dropped_attributes : Given IsJsonCount (λ n. n ≡ 0) s.means.dropped_attributes (member (codes "droppedAttributesCount") d)
  pub events : List (Noted Event Keys)
  pub each_event : Given AreJsonEvents (λ xs. xs ≡ []) events (member (codes "events") d)
  pub its_events : AreEventsOf events s
  pub dropped_events : Given IsJsonCount (λ n. n ≡ 0) s.means.dropped_events (member (codes "droppedEventsCount") d)
  pub links : List (Option (Noted Link Keys))
  pub each_link : Given AreJsonLinks (λ xs. xs ≡ []) links (member (codes "links") d)
  pub its_links : AreLinksOf links s
  pub dropped_links : Given IsJsonCount (λ n. n ≡ 0) s.means.dropped_links (member (codes "droppedLinksCount") d)
  pub status : Given IsJsonStatus (λ status. status ≡ no_status) s.means.status (member (codes "status") d)
  pub flags : Given IsJsonCount (λ n. n ≡ 0) s.means.flags (member (codes "flags") d)

-- how its members offend, in the order of field numbers, from `trace_id` 1 to `flags` 16: without one of the first two
-- it is BadId, and the last number of `kind` is 5
unfoldable pub json_span_members : Data → List Offences
json_span_members d =
    identified json_trace_offends (member (codes "traceId") d) ∷ identified json_span_offends (member (codes "spanId") d)
    ∷ optional text_offends (member (codes "traceState") d) ∷ optional span_or_none_offends (member (codes "parentSpanId") d)
    ∷ optional text_offends (member (codes "name") d) ∷ optional (enum_offends 5) (member (codes "kind") d)
    ∷ optional json_time_offends (member (codes "startTimeUnixNano") d) ∷ optional json_time_offends
    (member (codes "endTimeUnixNano") d)
    ∷ optional pairs_offend (member (codes "attributes") d) ∷ optional json_count_offends
    (member (codes "droppedAttributesCount") d)
    ∷ optional events_offend (member (codes "events") d) ∷ optional json_count_offends (member (codes "droppedEventsCount") d)
    ∷ optional links_offend (member (codes "links") d) ∷ optional json_count_offends (member (codes "droppedLinksCount") d)
    ∷ optional status_offends (member (codes "status") d) ∷ optional json_count_offends (member (codes "flags") d) ∷ []

-- BadShape: a `Span` that is no object; else what offends in its members
abbrev pub otlp_span_offends : Data → Offences
otlp_span_offends d = object_offends json_span_members d
