-- Spans that can be written. They are proper: each number lies in the range of its type, each text is UTF-8, and no identifier is zero.
-- They are timely: Zipkin v2 counts whole microseconds, no span ends before its start, and the keys of its tags rise.
use Rattle.std.specs.Prelude.{◌≤◌, ◌<◌, ◌^◌, ℕ, List, All, IsUtf8}
use Rattle.span_ids.specs.Proper.{IsProperTraceId, IsProperSpanId, IsProperParent}
use Rattle.span_ids.specs.Times.{IsWhole}
use Rattle.zipkin_json.specs.Span.{HasRisingTags}
use Rattle.zipkin_json.specs.declared.span.Endpoint.{Endpoint}
use Rattle.zipkin_json.specs.declared.span.ZSpan.{ZSpan}

-- an endpoint: its texts are UTF-8, and its port is a number of 16 bits
pub record IsProperEndpoint (e : Endpoint) : Type 0 where
  pub service : IsUtf8 e.service
  pub ipv4 : IsUtf8 e.ipv4
  pub ipv6 : IsUtf8 e.ipv6
  pub port : e.port < 65536

-- a time and a text, and a key and its text
abbrev pub IsProperAnnotation : ℕ × List ℕ → Type 0
IsProperAnnotation a = (a.0 < 2 ^ 64) × IsUtf8 a.1

-- a tag: its key and its text are UTF-8
abbrev pub IsProperZTag : List ℕ × List ℕ → Type 0
IsProperZTag tag = IsUtf8 tag.0 × IsUtf8 tag.1

-- a span: its identifiers are not zero and fit 128 and 64 bits, its texts are UTF-8, and its times are below 2 ^ 64 nanoseconds
pub record IsProperZSpan (s : ZSpan) : Type 0 where
  pub trace : IsProperTraceId s.trace
  pub id : IsProperSpanId s.id
  pub parent : IsProperParent s.parent
  pub name : IsUtf8 s.name
  pub start : s.start < 2 ^ 64
  pub end : s.end < 2 ^ 64
  pub local : IsProperEndpoint s.local
  pub remote : IsProperEndpoint s.remote
  pub annotations : All IsProperAnnotation s.annotations
  pub tags : All IsProperZTag s.tags

-- times are whole microseconds
abbrev pub IsTimelyAnnotation : ℕ × List ℕ → Type 0
IsTimelyAnnotation a = IsWhole a.0

-- a span: its times and its annotations' are whole microseconds, it doesn't end before its start, and its tags' keys rise
pub record IsTimelyZSpan (s : ZSpan) : Type 0 where
  pub start : IsWhole s.start
  pub end : IsWhole s.end
  pub order : s.start ≤ s.end
  pub annotations : All IsTimelyAnnotation s.annotations
  pub rising : HasRisingTags s

-- a span that can be written so that it is read back: it is proper and timely
pub record IsWritableZSpan (s : ZSpan) : Type 0 where
  pub proper : IsProperZSpan s
  pub timely : IsTimelyZSpan s
