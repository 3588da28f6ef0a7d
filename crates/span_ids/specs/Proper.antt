-- Identifiers in their ranges: none is zero, and a parent may be absent (W3C Trace Context, "trace-id", "parent-id").
use Rattle.std.specs.Prelude.{ℕ, ◌<◌, ◌^◌, Option, Some, None, ⊤}

-- a trace identifier as a number: 128 bits, and not 0 (W3C Trace Context, "trace-id": all zeros are invalid)
abbrev pub IsProperTraceId : ℕ → Type 0
IsProperTraceId id = (0 < id) × (id < 2 ^ 128)

-- a span identifier as a number: 64 bits, and not 0 (W3C Trace Context, "parent-id": all zeros are invalid)
abbrev pub IsProperSpanId : ℕ → Type 0
IsProperSpanId id = (0 < id) × (id < 2 ^ 64)

-- the parent of a span: the identifier of a span, or none, as a root has
abbrev pub IsProperParent : Option ℕ → Type 0
IsProperParent None = ⊤
IsProperParent (Some id) = IsProperSpanId id
