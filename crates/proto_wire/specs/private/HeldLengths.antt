-- What a scanner keeps of a length.
use Rattle.std.specs.Prelude.{◌≡◌, ◌≤◌, ◌<◌, ◌+◌, ◌*◌, ◌++◌, ℕ, List, length}
use Rattle.span_io.specs.Varint.{SpellsVarint}
use Rattle.proto_wire.specs.Records.{IsFieldNumber}

-- The bytes hold a key and a length, whole, by which a record of wire type 2 has n bytes.
pub record HoldsLength (n : ℕ) (text : List ℕ) : Type 0 where
  pub number : ℕ
  pub is_number : IsFieldNumber number
  pub key : List ℕ
  pub key_spelled : SpellsVarint key (number * 8 + 2)
  pub size : List ℕ
  pub held : ℕ
  pub size_spelled : SpellsVarint size held
  pub others : List ℕ
  pub parts : text ≡ key ++ (size ++ others)
  pub bytes : n ≡ length key + length size + held

-- they do, and the record has at most `limit` bytes
abbrev pub HoldsLengthWithin : ℕ → List ℕ → Type 0
HoldsLengthWithin limit text = (n : ℕ) × HoldsLength n text × (n ≤ limit)

-- A number that tells how many bytes there are, up to the limit.
pub record Counts (limit there : ℕ) (bytes : List ℕ) : Type 0 where
  pub at_most : there ≤ length bytes
  pub below : there < limit → there ≡ length bytes
