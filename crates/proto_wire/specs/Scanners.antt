-- What a scanner of records keeps of the frame that it stands in.
use Rattle.std.specs.Prelude.{◌≡◌, ◌≤◌, ℕ, List, length, take, None}
use Rattle.span_io.specs.Scans.{Scanning}
use Rattle.span_io.specs.Steps.{Waits}
use Rattle.proto_wire.specs.declared.scanner.UnitScanner.{UnitScanner}
use Rattle.proto_wire.specs.Wire.{records}

-- a record's key and length have at most so many bytes
abbrev pub longest_head : ℕ
longest_head = 20

-- the first bytes, of which no more are needed
abbrev pub IsHead : List ℕ → List ℕ → Type 0
IsHead head bytes = head ≡ take longest_head bytes

-- these bytes of a frame came so far
pub record Seen (s : UnitScanner) (bytes : List ℕ) : Type 0 where
  pub going : s.refused ≡ None
  pub head : IsHead s.head.items bytes
  pub size : s.size ≡ length bytes
  pub within : s.size ≤ s.limit
  pub waits : Waits records s.limit bytes

-- a scanner of records as contracts see any scanner: its limit, which bytes of a frame came so far, and why it refused one
abbrev pub scanning_of : UnitScanner → Scanning
scanning_of s = record { limit = s.limit; seen = Seen s; refused = s.refused }
