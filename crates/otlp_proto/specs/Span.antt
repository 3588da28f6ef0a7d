-- `Span` (OTLP trace.proto): `trace_id` 1, `span_id` 2, `trace_state` 3, `parent_span_id` 4, `name` 5, `kind` 6, an enum of 0 to 5,
-- `start_time_unix_nano` 7 and `end_time_unix_nano` 8, eight bytes each, `attributes` 9, `dropped_attributes_count` 10, `events` 11,
-- `dropped_events_count` 12, `links` 13, `dropped_links_count` 14, `status` 15 and `flags` 16, four bytes.
use Rattle.std.specs.Prelude.{◌≡◌, ℕ, ◌⊎◌, List, [], ◌∷◌, Option, Some, None}
use Rattle.std.specs.List.{AllZip}
use Rattle.span_io.specs.FreeItems.{Paddings, Same, TextPadded}
use Rattle.span_io.specs.Offences.{Rules, Offence}
use Rattle.span_io.specs.Tables.{Row, Singular, rules_by, MeansText}
use Rattle.proto_wire.specs.Messages.{messages}
use Rattle.proto_wire.specs.Records.{Record}
use Rattle.trace_model.specs.declared.span.Event.{Event}
use Rattle.trace_model.specs.declared.span.Kind.{Kind}
use Rattle.trace_model.specs.declared.span.Kind.TheVariants as kinds
use Rattle.trace_model.specs.declared.span.Link.{Link}
use Rattle.trace_model.specs.declared.span.Span.{Span}
use Rattle.trace_model.specs.declared.span.Status.{Status}
use Rattle.otlp_proto.specs.Attributes.{AttributesOf, attributes}
use Rattle.otlp_proto.specs.Event.{IsEvent, event_rules, EventPadded}
use Rattle.otlp_proto.specs.Identifiers.{MeansTraceId, MeansSpanId}
use Rattle.otlp_proto.specs.Link.{IsLink, link_rules, LinkPadded}
use Rattle.trace_model.specs.Remarks.{Keys}
use Rattle.otlp_proto.specs.PaddedValues.{AttributePadded}
use Rattle.otlp_proto.specs.Rows.{bytes_of, varints_of, fixed64s_of, fixed32s_of, MeansNumber, MeansCount, text, time, count, flags, enum, trace_id, span_id, message, messages_of, MeansMessage}
use Rattle.otlp_proto.specs.Status.{IsStatus, status_rules, StatusPadded}
use Rattle.trace_model.specs.declared.noted.Noted.{Noted}
use Rattle.trace_model.specs.Notes.{SpanNotes}
use Rattle.trace_model.specs.OtlpParts.{no_status, kind_number, AreEventsOf, AreLinksOf}

-- the varint of `kind` is the number of this `Span.SpanKind`; it isn't cut to 32 bits, as a count is
abbrev pub MeansKind : ℕ → Kind → Type 0
MeansKind n kind = n ≡ kind_number kind

-- the records, in any order, are those of this span
pub record IsSpan (s : Noted Span SpanNotes) (records : List Record) : Type 0 where
  pub trace : Singular MeansTraceId (λ id. id ≡ None) (bytes_of 1 records) (Some s.means.trace)
  pub id : Singular MeansSpanId (λ id. id ≡ None) (bytes_of 2 records) (Some s.means.id)
  pub state : Singular MeansText (λ text. text ≡ []) (bytes_of 3 records) s.means.state
  pub parent : Singular MeansSpanId (λ id. id ≡ None) (bytes_of 4 records) s.means.parent
  pub name : Singular MeansText (λ text. text ≡ []) (bytes_of 5 records) s.means.name
  pub kind : Singular MeansKind (λ kind. kind ≡ kinds.Unspecified) (varints_of 6 records) s.means.kind
  pub start : Singular MeansNumber (λ n. n ≡ 0) (fixed64s_of 7 records) s.means.start
  pub end : Singular MeansNumber (λ n. n ≡ 0) (fixed64s_of 8 records) s.means.end
  pub attributes : AttributesOf (bytes_of 9 records) s.means.attributes s.notes.keys
  pub dropped_attributes : Singular MeansCount (λ n. n ≡ 0) (varints_of 10 records) s.means.dropped_attributes
  pub events : List (Noted Event Keys)
  pub each_event : AllZip (MeansMessage IsEvent) (bytes_of 11 records) events
  pub its_events : AreEventsOf events s
  pub dropped_events : Singular MeansCount (λ n. n ≡ 0) (varints_of 12 records) s.means.dropped_events
  pub links : List (Option (Noted Link Keys))
  pub each_link : AllZip (MeansMessage IsLink) (bytes_of 13 records) links
  pub its_links : AreLinksOf links s
  pub dropped_links : Singular MeansCount (λ n. n ≡ 0) (varints_of 14 records) s.means.dropped_links
  pub status : Singular (λ held status. MeansMessage IsStatus held status) (λ status. status ≡ no_status) (bytes_of 15 records) s.means.status
  pub flags : Singular MeansNumber (λ n. n ≡ 0) (fixed32s_of 16 records) s.means.flags

-- the fields of `Span`, a row each, by rising number from `trace_id` 1 to `flags` 16
abbrev pub span_table : List (Row Record)
span_table = trace_id 1 ∷ span_id 2 ∷ text 3 ∷ span_id 4 ∷ text 5 ∷ enum 6 5 Kind kind_number kinds.Unspecified ∷ time 7 ∷ time 8
    ∷ attributes 9 ∷ count 10
    ∷ messages_of 11 (Noted Event Keys) (MeansMessage IsEvent) (λ held p n. Offence messages event_rules held p n) ∷ count 12
    ∷ messages_of 13 (Option (Noted Link Keys)) (MeansMessage IsLink) (λ held p n. Offence messages link_rules held p n)
    ∷ count 14
    ∷ message 15 Status (MeansMessage IsStatus) no_status (λ held p n. Offence messages status_rules held p n) ∷ flags 16 ∷ []

-- BadId: the span has no trace id, or no span id
abbrev pub span_ends : List Record → ℕ → Type 0
span_ends seen number = (number ≡ 12)
    × (Singular MeansTraceId (λ id. id ≡ None) (bytes_of 1 seen) None ⊎ Singular MeansSpanId (λ id. id ≡ None) (bytes_of 2 seen) None)

-- how a `Span` offends: in its rows, and at its end where it has no trace id or no span id
abbrev pub span_rules : Rules Record
span_rules = rules_by span_table span_ends

-- free records added in it, and in what its rows hold
abbrev pub span_padded : Paddings span_table
span_padded = (Same, (Same, (Same, (Same, (Same, (Same, (Same, (Same, (AttributePadded, (Same, (EventPadded, (Same, (LinkPadded, (Same, (StatusPadded, (Same, tt))))))))))))))))

-- the bytes of a span, and the same with free records added at any depth
abbrev pub SpanPadded : List ℕ → List ℕ → Type 0
SpanPadded held other = TextPadded messages span_table span_padded held other
