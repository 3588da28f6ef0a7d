-- Identifiers as the bits of signed numbers (jaeger.thrift: `traceIdLow`, `traceIdHigh`, `spanId`, `parentSpanId`). Zero is none.
use Rattle.std.specs.Prelude.{ℕ, zero, suc, ◌+◌, ◌*◌, ◌^◌, ℤ, Option, Some, None}
use Rattle.std.specs.Int.{w64, cast_unsigned}

-- the number of an identifier
abbrev pub some_id : ℕ → Option ℕ
some_id zero = None
some_id (suc n) = Some (suc n)

-- the span identifier that an i64 stands for: the number below 2 ^ 64 with the same 64 bits, or none where that is zero
abbrev pub span_id_of : ℤ → Option ℕ
span_id_of id = some_id (cast_unsigned w64 id)

-- the trace identifier of 128 bits, the first number's 64 above and the second's below, or none where it is zero
abbrev pub trace_id_of : ℤ → ℤ → Option ℕ
trace_id_of high low = some_id (cast_unsigned w64 high * 2 ^ 64 + cast_unsigned w64 low)
