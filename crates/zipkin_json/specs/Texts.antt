-- The bytes of a text of Zipkin v2: they are a JSON value (RFC 8259), and the value an array of spans.
use Rattle.std.specs.Prelude.{ℕ, List}
use Rattle.serde_json.specs.Data.{Data}
use Rattle.json_members.specs.Texts.{IsJsonText}
use Rattle.zipkin_json.specs.Span.{AreSpans}
use Rattle.zipkin_json.specs.declared.span.ZSpan.{ZSpan}

-- the bytes are a text of JSON whose value is an array of these spans
pub record AreSpansText (spans : List ZSpan) (bytes : List ℕ) : Type 0 where
  pub value : Data
  pub is_text : IsJsonText value bytes
  pub are_spans : AreSpans spans value
