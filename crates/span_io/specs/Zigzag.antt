-- Signed numbers as varints (proto3 wire format, "Signed Integers"; Thrift compact protocol, "Integer encoding"): zigzag, by which
-- 0, -1, 1, -2 become 0, 1, 2, 3.
use Rattle.std.specs.Prelude.{ℕ, ◌+◌, ◌*◌, ◌/◌, ◌%◌, ◌==◌, ℤ, pos, negsuc, List, Result, Ok, if◌then◌else◌}
use Rattle.span_io.specs.declared.cursor.Lack.{Lack}
use Rattle.span_io.specs.Varint.{SpellsVarint, BeginsVarint, ◌>>=◌, varint_at, varint_text}

-- the number that stands for a signed one: 2 n for n from 0 on, and 2 n + 1 for -n - 1 (protobuf `sint64`, Thrift compact)
abbrev pub zigzag : ℤ → ℕ
zigzag (pos n) = 2 * n
zigzag (negsuc n) = 2 * n + 1

-- the number of which this is the zigzag
abbrev pub unzigzag : ℕ → ℤ
unzigzag n = if n % 2 == 0 then pos (n / 2) else negsuc (n / 2)

-- the bytes are a spelling of z, the shortest or a longer one: a varint of its zigzag
abbrev pub SpellsZigzag : List ℕ → ℤ → Type 0
SpellsZigzag text z = SpellsVarint text (zigzag z)

-- a spelling of z, and then rest
abbrev pub BeginsZigzag : ℤ → List ℕ → List ℕ → Type 0
BeginsZigzag z bytes rest = BeginsVarint (zigzag z) bytes rest

-- the signed number of the varint at the front, and the bytes behind it, or what is lacking
unfoldable pub zigzag_at : List ℕ → Result (ℤ × List ℕ) Lack
zigzag_at bytes = varint_at bytes >>= λ read. Ok (unzigzag read.0, read.1)

-- the shortest spelling of z, a signed number of 64 bits
abbrev pub zigzag_text : ℤ → List ℕ
zigzag_text z = varint_text (zigzag z)
