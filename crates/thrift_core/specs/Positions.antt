-- Where a scan over a struct stands, what goes on from there comes to, and what a scanner of structs keeps.
use Rattle.std.specs.Prelude.{◌≡◌, ◌≤◌, ℕ, Option, None, List, length}
use Rattle.span_io.specs.declared.cause.Cause.{Cause}
use Rattle.span_io.specs.Scans.{Scanning}
use Rattle.span_io.specs.Steps.{Waits}
use Rattle.thrift_core.specs.declared.position.Position.{Position}
use Rattle.thrift_core.specs.Parts.{Part, Spelling}
use Rattle.thrift_core.specs.Places.{Place}
use Rattle.thrift_core.specs.Values.{struct_frames}
use Rattle.thrift_core.specs.Walks.{outer_struct}

-- these bytes of a struct came so far
abbrev pub PlaceOf : Spelling → List ℕ → Position → Type 0
PlaceOf Spells bytes at = Place Spells outer_struct bytes at.stack.top at.stack.below.items at.carry.items at.missing

-- ---- scanners

-- these bytes of a frame came so far
pub record Seen (Spells : Spelling) (ThenVarint : Part → List ℕ → Type 0) (limit count : ℕ) (refused : Option Cause)
    (at : Position) (bytes : List ℕ) : Type 0 where
  pub going : refused ≡ None
  pub size : count ≡ length bytes
  pub within : count ≤ limit
  pub place : PlaceOf Spells bytes at
  pub waits : Waits (struct_frames Spells ThenVarint) limit bytes

-- a scanner's state: frames are structs of at most `limit` bytes, `count` bytes of one came so far, they end at the position
-- `at`, and `refused` is why a frame was refused, if one was
abbrev pub scanning_of : Spelling → (Part → List ℕ → Type 0) → ℕ → ℕ → Option Cause → Position → Scanning
scanning_of Spells ThenVarint limit count refused at =
    record { limit = limit; seen = Seen Spells ThenVarint limit count refused at; refused = refused }
