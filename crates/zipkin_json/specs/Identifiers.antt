-- Identifiers in Zipkin v2 (`traceId`, `id` and `parentId`): hex digits of either case, 1 to 32 of a trace and 1 to 16 of a span, of which
-- those that are left out at the front are zeros.
use Rattle.std.specs.Prelude.{◌≡◌, ℕ, ◌≤◌, List, length, All, Option, Some, None}
use Rattle.span_ids.specs.HexTexts.{SpellsInHex}
use Rattle.span_ids.specs.declared.hex_text.IdRule.TheVariants.{Padded}

-- `traceId`: 1 to 32 hex digits, not all zeros, which are this number
abbrev pub SpellsTrace : List ℕ → ℕ → Type 0
SpellsTrace text id = SpellsInHex Padded 32 text id

-- `id`: 1 to 16 hex digits, not all zeros, which are this number
abbrev pub SpellsSpan : List ℕ → ℕ → Type 0
SpellsSpan text id = SpellsInHex Padded 16 text id

-- 1 to 16 zeros, which are no parent
abbrev pub AreZeros : List ℕ → Type 0
AreZeros text = (1 ≤ length text) × (length text ≤ 16) × All (λ digit. digit ≡ 48) text

-- `parentId`: spelled as an `id` is, or zeros alone, which are no parent
abbrev pub SpellsParent : List ℕ → Option ℕ → Type 0
SpellsParent text None = AreZeros text
SpellsParent text (Some id) = SpellsSpan text id
