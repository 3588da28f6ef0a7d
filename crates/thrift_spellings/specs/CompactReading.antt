-- Reading a part as a computation: the word at the front and the bytes after it, or the cause.
use Rattle.std.specs.Prelude.{ℕ, zero, suc, ◌/◌, ◌%◌, ◌^◌, ◌&&◌, nat_lt, nat_le, if◌then◌else◌, ℤ, pos, neg_ℤ, ◌+ℤ◌, int_lt, int_le, Bool, Option, Some, None, List, [], ◌∷◌, reverse, Result, Ok, Err}
use Rattle.std.specs.Int.{w8, cast_signed}
use Rattle.span_io.specs.declared.cause.Cause.{Cause}
use Rattle.span_io.specs.declared.cause.Cause.TheVariants as causes
use Rattle.span_io.specs.declared.cursor.Lack.{Lack}
use Rattle.span_io.specs.declared.cursor.Lack.TheVariants as lacks
use Rattle.span_io.specs.Varint.{varint_at}
use Rattle.span_io.specs.Zigzag.{zigzag_at}
use Rattle.thrift_core.specs.declared.field.Field.{Field}
use Rattle.thrift_core.specs.declared.field.ListHead.{ListHead}
use Rattle.thrift_core.specs.declared.field.MapHead.{MapHead}
use Rattle.thrift_core.specs.Levels.{why_none, why_no_pair}
use Rattle.thrift_core.specs.Parts.{header, truth, byte, short, int, long, eight, size, list_head, map_head}
use Rattle.thrift_core.specs.Protocols.{last_size}
use Rattle.thrift_core.specs.Reading.{ReadingOf, ◌>>=◌, unless, known, bytes_at}
use Rattle.thrift_spellings.specs.CompactTypeCodes.{compact_kind_of_code, held_by_code}
use Rattle.thrift_spellings.specs.CompactSpelling.{compact_is_true}

-- ---- numbers

-- why no varint stands there, as a cause: the bytes end inside it, or it is none
abbrev pub lack_cause : Lack → Cause
lack_cause lacks.Short = causes.Truncated
lack_cause lacks.BadVarint = causes.BadVarint

-- the same of what was read: a varint that stands there is left as it is
abbrev pub told : {A : Type 0} → Result A Lack → Result A Cause
told (Ok read) = Ok read
told (Err lack) = Err (lack_cause lack)

-- one byte, as what it means
abbrev pub byte_at : {A : Type 0} → (ℕ → A) → List ℕ → Result (A × List ℕ) Cause
byte_at value [] = Err causes.Truncated
byte_at value (b ∷ rest) = Ok (value b, rest)

-- so many bits beside that of the sign hold it
abbrev pub is_signed : ℕ → ℤ → Bool
is_signed many z = int_le (neg_ℤ (pos (2 ^ many))) z && int_lt z (pos (2 ^ many))

-- a number that so many bits beside that of the sign hold, else the cause `outside`
abbrev pub within : ℕ → Cause → ℤ → Result ℤ Cause
within many outside z = if is_signed many z then Ok z else Err outside

-- a zigzag varint whose number so many bits beside that of the sign hold; for any other number the cause is `outside`
unfoldable pub signed_at : ℕ → Cause → List ℕ → Result (ℤ × List ℕ) Cause
signed_at many outside text = do
  read ← told (zigzag_at text)
  z ← within many outside read.0
  Ok (z, read.1)

-- why a size is refused: behind what may have no elements, for this cause, any but 0
abbrev pub why_size : Option Cause → ℕ → Option Cause
why_size why zero = None
why_size (Some cause) (suc n) = Some cause
why_size None (suc n) = if nat_le (suc n) last_size then None else Some causes.BadSize

-- a size: a varint of at most 2,147,483,647; only 0 where elements can't stand there, for the cause `why`
unfoldable pub compact_size_at : Option Cause → List ℕ → Result (ℕ × List ℕ) Cause
compact_size_at why text = do
  read ← told (varint_at text)
  n ← unless (why_size why read.0) read.0
  Ok (n, read.1)

-- ---- heads

-- the id that stands so much behind the last, or, where that isn't told, its own number
abbrev pub id_at : ℤ → ℕ → List ℕ → Result (ℤ × List ℕ) Cause
id_at last zero text = signed_at 15 causes.BadWire text
id_at last (suc n) text = within 15 causes.BadWire (last +ℤ pos (suc n)) >>= λ id. Ok (id, text)

-- the head of a field: the low four bits of a byte are the code of its type, the high four how far its id is above the last;
-- where those are 0 the id follows. The byte 0 is the stop byte.
unfoldable pub compact_header_at : ℕ → ℤ → List ℕ → Result (Option Field × List ℕ) Cause
compact_header_at left last [] = Err causes.Truncated
compact_header_at left last (zero ∷ rest) = Ok (None, rest)
compact_header_at left last (suc n ∷ rest) = do
  kind ← known (compact_kind_of_code (suc n % 16))
  stands ← unless (why_none left (Some kind)) kind
  id ← id_at last (suc n / 16) rest
  Ok (Some (record { id = id.0; kind = stands; held = held_by_code (suc n % 16) }), id.1)

-- the size that stands beside the type, or behind it
abbrev pub list_size_at : Option Cause → ℕ → List ℕ → Result (ℕ × List ℕ) Cause
list_size_at why beside text = if nat_lt beside 15 then unless (why_size why beside) (beside, text) else compact_size_at why text

-- the head of a list or set: the low four bits of a byte are the code of its elements' type, the high four how many there are,
-- or 15, and their number follows
unfoldable pub compact_list_at : ℕ → List ℕ → Result (ListHead × List ℕ) Cause
compact_list_at left [] = Err causes.Truncated
compact_list_at left (b ∷ rest) = do
  number ← list_size_at (why_none left (compact_kind_of_code (b % 16))) (b / 16) rest
  Ok (record { element = compact_kind_of_code (b % 16); size = number.0 }, number.1)

-- behind a map's size: one byte, the code of its keys' type in the high four bits, of its values' in the low; none behind 0
abbrev pub pairs_at : ℕ → ℕ → List ℕ → Result (MapHead × List ℕ) Cause
pairs_at left zero text = Ok (record { key = None; value = None; size = 0 }, text)
pairs_at left (suc n) [] = Err causes.Truncated
pairs_at left (suc n) (b ∷ rest) =
    unless (why_no_pair left (compact_kind_of_code (b / 16)) (compact_kind_of_code (b % 16)))
    (record { key = compact_kind_of_code (b / 16); value = compact_kind_of_code (b % 16); size = suc n }, rest)

-- the head of a map: its size, and unless it is empty the byte of its types
unfoldable pub compact_map_at : ℕ → List ℕ → Result (MapHead × List ℕ) Cause
compact_map_at left text = do
  number ← compact_size_at None text
  pairs_at left number.0 number.1

-- a double's least significant byte stands first
abbrev pub eight_at : List ℕ → Result (List ℕ × List ℕ) Cause
eight_at text = bytes_at 8 text >>= λ read. Ok (reverse read.0, read.1)

-- how the compact protocol reads each part: a truth value that the field's head holds takes no bytes
abbrev pub compact_reads : ReadingOf
compact_reads (header left last) text = compact_header_at left last text
compact_reads (truth (Some held)) text = Ok (held, text)
compact_reads (truth None) text = byte_at compact_is_true text
compact_reads byte text = byte_at (cast_signed w8) text
compact_reads short text = signed_at 15 causes.BadVarint text
compact_reads int text = signed_at 31 causes.BadVarint text
compact_reads long text = told (zigzag_at text)
compact_reads eight text = eight_at text
compact_reads size text = compact_size_at None text
compact_reads (list_head left) text = compact_list_at left text
compact_reads (map_head left) text = compact_map_at left text
