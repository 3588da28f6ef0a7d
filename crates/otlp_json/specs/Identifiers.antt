-- Identifiers in OTLP/JSON (`traceId`, `spanId` and `parentSpanId`): all hex digits, of either case. The empty text, and as many zeros,
-- are no identifier.
use Rattle.std.specs.Prelude.{◌≡◌, ℕ, List, Option, Some, None}
use Rattle.serde_json.specs.Data.{Data}
use Rattle.span_ids.specs.HexTexts.{SpellsInHex}
use Rattle.span_ids.specs.declared.hex_text.IdRule.TheVariants.{Exact}
use Rattle.span_io.specs.Paths.{Offences, here}
use Rattle.trace_model.specs.OtlpParts.{IsIdentifierOrNone}
use Rattle.json_members.specs.Members.{unspelled}

-- a trace's identifier: just 32 hex digits (16 bytes), not all zero
abbrev pub SpellsJsonTrace : List ℕ → ℕ → Type 0
SpellsJsonTrace text id = SpellsInHex Exact 32 text id

-- a span's identifier: just 16 hex digits (8 bytes), not all zero
abbrev pub SpellsJsonSpan : List ℕ → ℕ → Type 0
SpellsJsonSpan text id = SpellsInHex Exact 16 text id

-- 48 is the digit `0`
abbrev pub SpellsTraceOrNone : List ℕ → Option ℕ → Type 0
SpellsTraceOrNone text id = IsIdentifierOrNone SpellsJsonTrace 48 32 text id

-- the same of a span's identifier, with its 16 digits
abbrev pub SpellsSpanOrNone : List ℕ → Option ℕ → Type 0
SpellsSpanOrNone text id = IsIdentifierOrNone SpellsJsonSpan 48 16 text id

-- BadId: a text that spells none of these
abbrev pub json_trace_offends : Data → Offences
json_trace_offends d = unspelled SpellsJsonTrace 12 d

-- BadId: a text that spells no span's identifier; BadShape: no text
abbrev pub json_span_offends : Data → Offences
json_span_offends d = unspelled SpellsJsonSpan 12 d

-- BadId: a text that is neither a trace's identifier nor empty nor 32 zeros; BadShape: no text
abbrev pub trace_or_none_offends : Data → Offences
trace_or_none_offends d = unspelled SpellsTraceOrNone 12 d

-- BadId: a text that is neither a span's identifier nor empty nor 16 zeros; BadShape: no text
abbrev pub span_or_none_offends : Data → Offences
span_or_none_offends d = unspelled SpellsSpanOrNone 12 d

-- BadId: an identifier that must be there
abbrev pub identified : (Data → Offences) → Option Data → Offences
identified Offends None = here (λ number. number ≡ 12)
identified Offends (Some d) = Offends d
