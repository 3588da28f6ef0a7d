-- Identifiers in a message (OTLP trace.proto: `trace_id` of 16 bytes, `span_id` and `parent_span_id` of 8). Empty bytes, and as many
-- zeros, are no identifier.
use Rattle.std.specs.Prelude.{◌≡◌, ◌≢◌, ℕ, List, [], length, Option, Result}
use Rattle.span_io.specs.declared.cause.Cause.{Cause}
use Rattle.span_io.specs.private.RowSteps.{JudgesSingular}
use Rattle.span_ids.specs.Identifiers.{SpellsTraceId, SpellsSpanId}
use Rattle.trace_model.specs.OtlpParts.{IsIdentifierOrNone}

-- `trace_id`: 16 bytes are an identifier, the most significant byte first; no bytes, or 16 zeros, are none
abbrev pub MeansTraceId : List ℕ → Option ℕ → Type 0
MeansTraceId held id = IsIdentifierOrNone SpellsTraceId 0 16 held id

-- `span_id` and `parent_span_id`: 8 bytes are an identifier, the most significant byte first; no bytes, or 8 zeros, are none
abbrev pub MeansSpanId : List ℕ → Option ℕ → Type 0
MeansSpanId held id = IsIdentifierOrNone SpellsSpanId 0 8 held id

-- BadId: there are bytes, and not so many
abbrev pub WrongLength : ℕ → List ℕ → ℕ → Type 0
WrongLength size held number = (number ≡ 12) × (held ≢ []) × (length held ≢ size)

-- what is answered of an identifier of so many bytes in a singular row, whatever records of the row came before
abbrev pub JudgesIdentifier : {B T : Type 0} → (List ℕ → B → Type 0) → ℕ → Option B → List ℕ → Result T Cause → Type 0
JudgesIdentifier Means size row held result = JudgesSingular Means (λ n. WrongLength size held n) row result
