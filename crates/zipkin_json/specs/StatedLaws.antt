-- What is known of what JSON values mean as spans.
use Rattle.std.specs.Prelude.{◌≡◌, ◌↔◌, ◌⊎◌, ℕ, List, All}
use Rattle.serde_json.specs.Data.{Data}
use Rattle.span_io.specs.Causes.{cause_number}
use Rattle.span_io.specs.declared.cause.Cause.{Cause}
use Rattle.span_io.specs.Paths.{NothingOffends, Counts}
use Rattle.zipkin_json.specs.Canonical.{span_json, spans_json, spans_text}
use Rattle.zipkin_json.specs.Known.{spans_agree}
use Rattle.zipkin_json.specs.Proper.{IsWritableZSpan}
use Rattle.zipkin_json.specs.Span.{IsZSpan, AreSpans, spans_offend}
use Rattle.zipkin_json.specs.Texts.{AreSpansText}
use Rattle.zipkin_json.specs.declared.span.ZSpan.{ZSpan}

-- a value has one list of spans at most, and nothing offends in one that has a list
pub record OneList : Type 0 where
  pub once : (d : Data) (spans others : List ZSpan) → AreSpans spans d → AreSpans others d → spans ≡ others
  pub fine : (d : Data) (spans : List ZSpan) → AreSpans spans d → NothingOffends (spans_offend d)

-- a value has a list of spans, or an offence in it counts, and it has a cause
abbrev pub SomeList : Type 0
SomeList =
    (d : Data) → ((spans : List ZSpan) × AreSpans spans d) ⊎ ((cause : Cause) × Counts (spans_offend d) (cause_number cause))

-- what is written of spans means these spans: as a value, as a list of values, and as bytes
pub record SpansWrittenAgain : Type 0 where
  pub span : (s : ZSpan) → IsWritableZSpan s → IsZSpan s (span_json s)
  pub spans : (spans : List ZSpan) → All IsWritableZSpan spans → AreSpans spans (spans_json spans)
  pub text : (spans : List ZSpan) → All IsWritableZSpan spans → AreSpansText spans (spans_text spans)

-- two lists have one text just where they are the same
abbrev pub EqualSpansTexts : Type 0
EqualSpansTexts = (a b : List ZSpan) → All IsWritableZSpan a → All IsWritableZSpan b → (spans_text a ≡ spans_text b) ↔ (a ≡ b)

-- what is read of a text can be written
abbrev pub ReadsWritable : Type 0
ReadsWritable = (spans : List ZSpan) (bytes : List ℕ) → AreSpansText spans bytes → All IsWritableZSpan spans

-- unknown members change nothing: values whose known members agree mean the same spans, and the same offends in them
pub record FreeMembers : Type 0 where
  pub means : (v w : Data) → spans_agree v w → (spans : List ZSpan) → AreSpans spans v ↔ AreSpans spans w
  pub offends : (v w : Data) → spans_agree v w → (path : List ℕ) (number : ℕ)
      → spans_offend v path number ↔ spans_offend w path number
