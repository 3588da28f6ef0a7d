-- Identifiers of traces and spans in binary (OTLP `trace_id`, `span_id`: 16 and 8 bytes, and all zeros are no identifier).
use Rattle.std.specs.Prelude.{◌≡◌, ◌≢◌, ◌+◌, ◌*◌, ◌<◌, ◌^◌, ℕ, List, length, Any}
use Rattle.std.specs.Int.{w64, w128, from_be_bytes}

-- so many bytes, not all zero
abbrev pub IsIdText : ℕ → List ℕ → Type 0
IsIdText size bytes = (length bytes ≡ size) × Any (λ b. b ≢ 0) bytes

-- a trace identifier in binary: 16 bytes, not all zero (opentelemetry-proto trace.proto, message Span, `trace_id` = 1)
abbrev pub IsTraceIdText : List ℕ → Type 0
IsTraceIdText bytes = IsIdText 16 bytes

-- a span identifier in binary: 8 bytes, not all zero (opentelemetry-proto trace.proto, message Span, `span_id` = 2)
abbrev pub IsSpanIdText : List ℕ → Type 0
IsSpanIdText bytes = IsIdText 8 bytes

-- the bytes are this identifier, the most significant byte first
abbrev pub SpellsTraceId : List ℕ → ℕ → Type 0
SpellsTraceId bytes id = IsTraceIdText bytes × (id ≡ from_be_bytes w128 bytes)

-- the bytes are this span identifier, the most significant of the 8 first
abbrev pub SpellsSpanId : List ℕ → ℕ → Type 0
SpellsSpanId bytes id = IsSpanIdText bytes × (id ≡ from_be_bytes w64 bytes)

-- the halves of a trace identifier (jaeger.thrift `traceIdHigh`, `traceIdLow`): numbers of 64 bits, the high one worth 2 ^ 64 times itself
abbrev pub HasHalves : ℕ → ℕ → ℕ → Type 0
HasHalves id high low = (high < 2 ^ 64) × (low < 2 ^ 64) × (id ≡ high * 2 ^ 64 + low)
