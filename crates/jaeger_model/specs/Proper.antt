-- Parts of a batch that are proper: each number lies in the range of its type, each text is UTF-8, and no identifier is zero.
use Rattle.std.specs.Prelude.{◌≡◌, ◌<◌, ◌^◌, length, All, IsUtf8, FitsSigned, ⊤}
use Rattle.std.specs.Int.{w32, w64}
use Rattle.span_ids.specs.Proper.{IsProperTraceId, IsProperSpanId, IsProperParent}
use Rattle.jaeger_model.specs.declared.batch.Batch.{Batch}
use Rattle.jaeger_model.specs.declared.span.JSpan.{JSpan}
use Rattle.jaeger_model.specs.declared.span.Log.{Log}
use Rattle.jaeger_model.specs.declared.span.SpanRef.{SpanRef}
use Rattle.jaeger_model.specs.declared.tag.Tag.{Tag}
use Rattle.jaeger_model.specs.declared.tag.TagValue.{TagValue}
use Rattle.jaeger_model.specs.declared.tag.TagValue.TheVariants as values

-- a text is UTF-8, a double eight bytes, an integer has 64 bits, and bytes are bytes
abbrev pub IsProperTagValue : TagValue → Type 0
IsProperTagValue (values.Text text) = IsUtf8 text
IsProperTagValue (values.Eight double) = (length double ≡ 8) × All (λ b. b < 256) double
IsProperTagValue (values.Truth truth) = ⊤
IsProperTagValue (values.Number number) = FitsSigned w64 number
IsProperTagValue (values.Bytes bytes) = All (λ b. b < 256) bytes

-- `Tag`: the key is UTF-8, and the value is proper
pub record IsProperTag (tag : Tag) : Type 0 where
  pub key : IsUtf8 tag.key
  pub value : IsProperTagValue tag.value

-- `Log`: its time, here in nanoseconds, has 64 bits, and its tags are proper
pub record IsProperLog (log : Log) : Type 0 where
  pub time : log.time < 2 ^ 64
  pub fields : All IsProperTag log.fields

-- `SpanRef`: a trace identifier of 128 bits and a span identifier of 64, neither of which is zero
pub record IsProperReference (reference : SpanRef) : Type 0 where
  pub trace : IsProperTraceId reference.trace
  pub span : IsProperSpanId reference.span

-- `Span`: identifiers of 128 and 64 bits that aren't zero, a parent's too where there is one, start and end in nanoseconds of
-- 64 bits, flags a signed number of 32 bits, and fewer than 2 ^ 32 references to no span. The end may be before the start
pub record IsProperJSpan (span : JSpan) : Type 0 where
  pub trace : IsProperTraceId span.trace
  pub id : IsProperSpanId span.id
  pub parent : IsProperParent span.parent
  pub name : IsUtf8 span.name
  pub references : All IsProperReference span.references
  pub invalid_refs : span.invalid_refs < 2 ^ 32
  pub flags : FitsSigned w32 span.flags
  pub start : span.start < 2 ^ 64
  pub end : span.end < 2 ^ 64
  pub tags : All IsProperTag span.tags
  pub logs : All IsProperLog span.logs

-- `Batch`: the service's name is UTF-8, and the process's tags and all spans are proper
pub record IsProperBatch (batch : Batch) : Type 0 where
  pub service : IsUtf8 batch.service
  pub tags : All IsProperTag batch.tags
  pub spans : All IsProperJSpan batch.spans
