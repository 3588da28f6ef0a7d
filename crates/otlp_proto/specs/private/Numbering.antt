-- Members of lists are numbered with 32 bits. A record adds at most as many members as it has bytes, so in a message of fewer than
-- 4,294,967,296 bytes each has a number.
use Rattle.std.specs.Prelude.{ℕ, ◌+◌, ◌≤◌, ◌^◌, List, [], ◌∷◌}
use Rattle.std.specs.List.{AllZip}
use Rattle.proto_wire.specs.Messages.{inner_size}
use Rattle.proto_wire.specs.Records.{Record}

-- a record has at least so many bytes: one of its key, one of what it holds or of its length, and those of an inner message
abbrev pub least_size : Record → ℕ
least_size r = inner_size r.held + 2

-- each count stays a number of 32 bits where it grows by fewer than so many
abbrev pub HaveNumbers : List ℕ → ℕ → Type 0
HaveNumbers [] size = Unit {0}
HaveNumbers (count ∷ others) size = (count + size ≤ 2 ^ 32) × HaveNumbers others size

-- each count grew by at most so many
abbrev pub GrewWithin : ℕ → List ℕ → List ℕ → Type 0
GrewWithin size old new = AllZip (λ before after. after ≤ before + size) old new
