-- What the reader of a span has gathered, of which the number in its group is known.
use Rattle.std.specs.Prelude.{◌≡◌, ℕ, List, Option, Some, None, Result, IfOk}
use Rattle.std.specs.List.{AllZip}
use Rattle.span_io.specs.declared.cause.Cause.{Cause}
use Rattle.span_io.specs.declared.halt.Halt.{Halt}
use Rattle.span_io.specs.Tables.{Givens, givens, Singular, MeansText}
use Rattle.proto_wire.specs.Records.{Record}
use Rattle.proto_wire.specs.Wire.{Wire}
use Rattle.trace_model.specs.declared.span.Event.{Event}
use Rattle.trace_model.specs.declared.span.Link.{Link}
use Rattle.trace_model.specs.declared.remark.Remark.{Remark}
use Rattle.trace_model.specs.declared.span.Span.{Span}
use Rattle.otlp_proto.specs.declared.reading.span.SpanRows.{SpanRows}
use Rattle.otlp_proto.specs.declared.reading.span.events.EventList.{EventList}
use Rattle.otlp_proto.specs.declared.reading.span.links.LinkList.{LinkList}
use Rattle.otlp_proto.specs.private.AttributesSoFar.{GatheredAttributes}
use Rattle.otlp_proto.specs.Event.{IsEvent}
use Rattle.otlp_proto.specs.Identifiers.{MeansTraceId, MeansSpanId}
use Rattle.otlp_proto.specs.Link.{IsLink}
use Rattle.trace_model.specs.Remarks.{Keys}
use Rattle.otlp_proto.specs.Rows.{MeansNumber, MeansCount, MeansMessage}
use Rattle.span_io.specs.RowsSoFar.{Gave}
use Rattle.otlp_proto.specs.private.ReadParts.{IsReadSpan}
use Rattle.otlp_proto.specs.Span.{MeansKind, span_table}
use Rattle.trace_model.specs.declared.noted.Noted.{Noted}
use Rattle.trace_model.specs.private.OtlpTold.{AreToldEvents, AreToldLinks}
use Rattle.otlp_proto.specs.Status.{IsStatus}

-- of these bytes of events of the span
pub record GatheredEvents (span : ℕ) (texts : List (List ℕ)) (list : EventList) : Type 0 where
  pub members : List (Noted Event Keys)
  pub each : AllZip (MeansMessage IsEvent) texts members
  pub told : AreToldEvents span members list.events list.remarks

-- of these bytes of links of the span
pub record GatheredLinks (span : ℕ) (texts : List (List ℕ)) (list : LinkList) : Type 0 where
  pub members : List (Option (Noted Link Keys))
  pub each : AllZip (MeansMessage IsLink) texts members
  pub told : AreToldLinks span members list.links list.dropped list.remarks

-- each row of the span of this number holds what the records given to it so far mean
pub record GatheredSpan (span : ℕ) (rows : SpanRows) (given : Givens span_table) : Type 0 where
  pub number : rows.number ≡ span
  pub trace : Gave MeansTraceId given.0 rows.trace
  pub id : Gave MeansSpanId given.1.0 rows.id
  pub state : Gave MeansText given.1.1.0 rows.state
  pub parent : Gave MeansSpanId given.1.1.1.0 rows.parent
  pub name : Gave MeansText given.1.1.1.1.0 rows.name
  pub kind : Gave MeansKind given.1.1.1.1.1.0 rows.kind
  pub start : Gave MeansNumber given.1.1.1.1.1.1.0 rows.start
  pub end : Gave MeansNumber given.1.1.1.1.1.1.1.0 rows.end
  pub attributes : GatheredAttributes given.1.1.1.1.1.1.1.1.0 rows.attributes
  pub dropped_attributes : Gave MeansCount given.1.1.1.1.1.1.1.1.1.0 rows.dropped_attributes
  pub events : GatheredEvents span given.1.1.1.1.1.1.1.1.1.1.0 rows.events
  pub dropped_events : Gave MeansCount given.1.1.1.1.1.1.1.1.1.1.1.0 rows.dropped_events
  pub links : GatheredLinks span given.1.1.1.1.1.1.1.1.1.1.1.1.0 rows.links
  pub dropped_links : Gave MeansCount given.1.1.1.1.1.1.1.1.1.1.1.1.1.0 rows.dropped_links
  pub status : Gave (MeansMessage IsStatus) given.1.1.1.1.1.1.1.1.1.1.1.1.1.1.0 rows.status
  pub flags : Gave MeansNumber given.1.1.1.1.1.1.1.1.1.1.1.1.1.1.1.0 rows.flags

-- these records gave the rows of the span of this number
abbrev pub GaveSpan : ℕ → SpanRows → List Record → Type 0
GaveSpan span rows records = GatheredSpan span rows (givens span_table records)

-- what was given as its identifiers is these
abbrev pub GaveTraceId : List (List ℕ) → ℕ → Type 0
GaveTraceId texts id = Singular MeansTraceId (λ x. x ≡ None) texts (Some id)

-- the same of a span's identifier, which stands once and is this
abbrev pub GaveSpanId : List (List ℕ) → ℕ → Type 0
GaveSpanId texts id = Singular MeansSpanId (λ x. x ≡ None) texts (Some id)

-- where a pair of identifiers is answered, its first is the trace's that this row holds, whatever bytes gave it
abbrev pub TakesTraceId : Option (Option ℕ) → Result (ℕ × ℕ) Cause → Type 0
TakesTraceId row result = (seen : List (List ℕ)) → Gave MeansTraceId seen row → IfOk result (λ ids. GaveTraceId seen ids.0)

-- where a pair of identifiers is answered, its second is the span's that this row holds, whatever bytes gave it
abbrev pub TakesSpanId : Option (Option ℕ) → Result (ℕ × ℕ) Cause → Type 0
TakesSpanId row result = (seen : List (List ℕ)) → Gave MeansSpanId seen row → IfOk result (λ ids. GaveSpanId seen ids.1)

-- the rows make the span: whatever text gave them is one of it
abbrev pub MakesSpan : SpanRows → Result (Noted Span (List Remark)) (Halt Cause) → Type 0
MakesSpan rows result =
    (span : ℕ) (records : List Record) (text : List ℕ) → Wire records text → GaveSpan span rows records → IfOk result (λ read. IsReadSpan span read text)
