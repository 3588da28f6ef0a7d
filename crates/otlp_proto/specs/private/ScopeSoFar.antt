-- What the readers of an `InstrumentationScope` and of a `ScopeSpans` have gathered.
use Rattle.std.specs.Prelude.{◌≡◌, ℕ, List}
use Rattle.std.specs.List.{AllZip}
use Rattle.span_io.specs.Tables.{Givens, givens, MeansText}
use Rattle.proto_wire.specs.Records.{Record}
use Rattle.proto_wire.specs.Wire.{Wire}
use Rattle.trace_model.specs.declared.span.Span.{Span}
use Rattle.otlp_proto.specs.declared.reading.instrumentation_scope.InstrumentationScopeRows.{InstrumentationScopeRows}
use Rattle.otlp_proto.specs.declared.reading.scope.ScopeRows.{ScopeRows}
use Rattle.otlp_proto.specs.declared.reading.scope.SpanList.{SpanList}
use Rattle.otlp_proto.specs.private.AttributesSoFar.{GatheredAttributes}
use Rattle.otlp_proto.specs.private.ReadParts.{IsReadScope}
use Rattle.trace_model.specs.declared.noted.InstrumentationScope.{InstrumentationScope}
use Rattle.trace_model.specs.declared.noted.Noted.{Noted}
use Rattle.trace_model.specs.Notes.{SpanNotes}
use Rattle.trace_model.specs.private.OtlpTold.{AreToldSpans}
use Rattle.trace_model.specs.Remarks.{Keys}
use Rattle.trace_model.specs.declared.remark.Remark.{Remark}
use Rattle.trace_model.specs.declared.group.Scope.{Scope}
use Rattle.otlp_proto.specs.Rows.{MeansCount, MeansMessage}
use Rattle.span_io.specs.RowsSoFar.{Gave}
use Rattle.otlp_proto.specs.Scope.{IsInstrumentationScope, instrumentation_scope_table, scope_table}
use Rattle.otlp_proto.specs.Span.{IsSpan}

-- each row of an `InstrumentationScope` holds what the records given to it so far mean
pub record GatheredInstrumentationScope (rows : InstrumentationScopeRows) (given : Givens instrumentation_scope_table)
    : Type 0 where
  pub name : Gave MeansText given.0 rows.name
  pub version : Gave MeansText given.1.0 rows.version
  pub attributes : GatheredAttributes given.1.1.0 rows.attributes
  pub dropped : Gave MeansCount given.1.1.1.0 rows.dropped

-- the rows make it: whatever records gave them mean it
abbrev pub MakesInstrumentationScope : InstrumentationScopeRows → Noted InstrumentationScope Keys → Type 0
MakesInstrumentationScope rows read =
    (records : List Record) → GatheredInstrumentationScope rows (givens instrumentation_scope_table records) → IsInstrumentationScope read records

-- spans, of which the first has this number, and the remarks on them
pub record GatheredSpans (first : ℕ) (texts : List (List ℕ)) (list : SpanList) : Type 0 where
  pub begins : list.first ≡ first
  pub read : List (Noted Span SpanNotes)
  pub each : AllZip (MeansMessage IsSpan) texts read
  pub told : AreToldSpans first read list.spans list.remarks

-- of a scope whose first span has this number
pub record GatheredScope (first : ℕ) (rows : ScopeRows) (given : Givens scope_table) : Type 0 where
  pub instrumentation : Gave (MeansMessage IsInstrumentationScope) given.0 rows.instrumentation
  pub spans : GatheredSpans first given.1.0 rows.spans
  pub schema_url : Gave MeansText given.1.1.0 rows.schema_url

-- the rows make this scope, which has that number: whatever text gave them is one of it
abbrev pub MakesScope : ℕ → ScopeRows → Noted Scope (List Remark) → Type 0
MakesScope number rows read =
    (first : ℕ) (records : List Record) (text : List ℕ) → Wire records text → GatheredScope first rows (givens scope_table records) → IsReadScope number first read text
