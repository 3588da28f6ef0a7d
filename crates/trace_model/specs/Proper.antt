-- Parts of a trace that are proper: each number lies in the range of its type, each text is UTF-8, and no identifier is zero.
use Rattle.std.specs.Prelude.{◌≡◌, ℕ, ◌<◌, ◌^◌, List, length, All, IsUtf8, FitsSigned, ⊤}
use Rattle.std.specs.Int.{w64}
use Rattle.span_ids.specs.Proper.{IsProperTraceId, IsProperSpanId, IsProperParent}
use Rattle.trace_model.specs.declared.span.Status.{Status}
use Rattle.trace_model.specs.declared.span.Event.{Event}
use Rattle.trace_model.specs.declared.span.Link.{Link}
use Rattle.trace_model.specs.declared.span.Span.{Span}
use Rattle.trace_model.specs.declared.group.Scope.{Scope}
use Rattle.trace_model.specs.declared.group.Group.{Group}
use Rattle.trace_model.specs.declared.value.Value.{Value, Text, Number, Eight, Bytes, Row_of-Value, end_of-Value, more_of-Value, Row_of-Value-Map-0-2, end_of-Value-Map-0-2, more_of-Value-Map-0-2, List', Map'}

abbrev mutual
  -- a text is UTF-8, an integer has 64 bits, a double eight bytes, bytes are bytes, and the members of a list or map are proper
  pub IsProperValue : Value → Type 0
  IsProperValue (Text text) = IsUtf8 text
  IsProperValue (Number n) = FitsSigned w64 n
  IsProperValue (Eight double) = (length double ≡ 8) × All (λ b. b < 256) double
  IsProperValue (Bytes held) = All (λ b. b < 256) held
  IsProperValue (List' shape members) = IsProperEach members
  IsProperValue (Map' shape members) = IsProperEachPair members
  IsProperValue _ = ⊤

  pub IsProperEach : {n : _} → Row_of-Value n → Type 0
  IsProperEach end_of-Value = ⊤
  IsProperEach (more_of-Value value rest) = IsProperValue value × IsProperEach rest

  pub IsProperEachPair : {n : _} → Row_of-Value-Map-0-2 n → Type 0
  IsProperEachPair end_of-Value-Map-0-2 = ⊤
  IsProperEachPair (more_of-Value-Map-0-2 key value rest) = IsUtf8 key × IsProperValue value × IsProperEachPair rest

-- OTLP `KeyValue`: the key is UTF-8, and the value is proper
pub record IsProperPair (pair : List ℕ × Value) : Type 0 where
  pub key : IsUtf8 pair.0
  pub value : IsProperValue pair.1

-- each pair of the attributes is proper
abbrev pub AreProper : List (List ℕ × Value) → Type 0
AreProper attributes = All IsProperPair attributes

-- OTLP `Status`: its message is UTF-8, and its code, one of three, is in range anyway
pub record IsProperStatus (status : Status) : Type 0 where
  pub message : IsUtf8 status.message

-- OTLP `Span.Event`: a time in nanoseconds of 64 bits, and a count of dropped attributes of 32 bits
pub record IsProperEvent (event : Event) : Type 0 where
  pub time : event.time < 2 ^ 64
  pub name : IsUtf8 event.name
  pub attributes : AreProper event.attributes
  pub dropped : event.dropped < 2 ^ 32

-- OTLP `Span.Link`: the trace's identifier has 128 bits and the span's 64, and neither is zero; the count of dropped attributes
-- and the flags have 32 bits
pub record IsProperLink (link : Link) : Type 0 where
  pub trace : IsProperTraceId link.trace
  pub span : IsProperSpanId link.span
  pub state : IsUtf8 link.state
  pub attributes : AreProper link.attributes
  pub dropped : link.dropped < 2 ^ 32
  pub flags : link.flags < 2 ^ 32

-- OTLP `Span`: identifiers of 128 and 64 bits that aren't zero, a parent's too where there is one, start and end in nanoseconds
-- of 64 bits, counts and flags of 32 bits. The end may be before the start
pub record IsProperSpan (span : Span) : Type 0 where
  pub trace : IsProperTraceId span.trace
  pub id : IsProperSpanId span.id
  pub state : IsUtf8 span.state
  pub parent : IsProperParent span.parent
  pub name : IsUtf8 span.name
  pub start : span.start < 2 ^ 64
  pub end : span.end < 2 ^ 64
  pub attributes : AreProper span.attributes
  pub dropped_attributes : span.dropped_attributes < 2 ^ 32
  pub events : All IsProperEvent span.events
  pub dropped_events : span.dropped_events < 2 ^ 32
  pub links : All IsProperLink span.links
  pub dropped_links : span.dropped_links < 2 ^ 32
  pub status : IsProperStatus span.status
  pub flags : span.flags < 2 ^ 32

-- OTLP `ScopeSpans` with its `InstrumentationScope`: name, version and schema URL are UTF-8, the count of dropped attributes
-- has 32 bits, and attributes and spans are proper
pub record IsProperScope (scope : Scope) : Type 0 where
  pub name : IsUtf8 scope.name
  pub version : IsUtf8 scope.version
  pub attributes : AreProper scope.attributes
  pub dropped : scope.dropped < 2 ^ 32
  pub schema_url : IsUtf8 scope.schema_url
  pub spans : All IsProperSpan scope.spans

-- OTLP `ResourceSpans` with its `Resource`: the schema URL is UTF-8, the count of dropped attributes has 32 bits, and attributes
-- and scopes are proper
pub record IsProperGroup (group : Group) : Type 0 where
  pub resource : AreProper group.resource
  pub dropped : group.dropped < 2 ^ 32
  pub schema_url : IsUtf8 group.schema_url
  pub scopes : All IsProperScope group.scopes
