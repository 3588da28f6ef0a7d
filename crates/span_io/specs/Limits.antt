-- The most bytes that each thing may have.
use Rattle.std.specs.Prelude.{ℕ, ◌≤◌, ◌^◌}
use Rattle.span_io.specs.declared.limits.Limits.{Limits}

-- the program's limits, in bytes: 16 MiB for a unit of a binary form, 64 MiB for a JSON text, 1 TiB for a whole binary input,
-- and of a request 16 KiB for its head, 64 MiB for its body and 64 MiB for its answer
abbrev pub shipped_limits : Limits
shipped_limits = record { unit = 16777216; json = 67108864; binary = 2 ^ 40; head = 16384; body = 67108864; reply = 67108864 }

-- n may be the limit of a thing whose limit in the program is the second number: it is at least 1, and no larger than that
abbrev pub IsLimit : ℕ → ℕ → Type 0
IsLimit n shipped = (1 ≤ n) × (n ≤ shipped)

-- each limit is at least 1 and at most the shipped one
pub record AreLimits (limits : Limits) : Type 0 where
  pub unit : IsLimit limits.unit shipped_limits.unit
  pub json : IsLimit limits.json shipped_limits.json
  pub binary : IsLimit limits.binary shipped_limits.binary
  pub head : IsLimit limits.head shipped_limits.head
  pub body : IsLimit limits.body shipped_limits.body
  pub reply : IsLimit limits.reply shipped_limits.reply
