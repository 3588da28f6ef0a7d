-- Reading one record as a computation: the record at the front, if there is one, and the bytes after it, or the cause.
use Rattle.std.specs.Prelude.{◌≡◌, ℕ, ◌/◌, ◌%◌, List, [], ◌∷◌, length, take, drop, Option, Some, None, Result, Ok, Err, nat_lt, nat_le, ◌==◌, ◌&&◌, if◌then◌else◌}
use Rattle.std.specs.Int.{w32, w64, from_le_bytes}
use Rattle.span_io.specs.declared.cause.Cause.{Cause}
use Rattle.span_io.specs.declared.cause.Cause.TheVariants as causes
use Rattle.span_io.specs.declared.cursor.Lack.{Lack}
use Rattle.span_io.specs.declared.cursor.Lack.TheVariants as lacks
use Rattle.span_io.specs.Varint.{varint_at}
use Rattle.proto_wire.specs.declared.record.WireRecord.{WireRecord}
use Rattle.proto_wire.specs.Records.{Held, varint, fixed64, bytes, fixed32, Record, last_number, plain_record}

infixl 10 ◌>>=◌
-- one reading, and then another by what it gave; where the first is refused, nothing more is read and its cause is the answer
abbrev pub ◌>>=◌ : {A B : Type 0} → Result A Cause → (A → Result B Cause) → Result B Cause
(Ok x) >>= f = f x
(Err e) >>= f = Err e

-- what is lacking, as a cause: bytes that end too early are Truncated, a varint that is no number of 64 bits is BadVarint
abbrev pub cause_of_lack : Lack → Cause
cause_of_lack lacks.Short = causes.Truncated
cause_of_lack lacks.BadVarint = causes.BadVarint

-- the same number, or its cause instead of what is lacking
abbrev pub with_cause : Result (ℕ × List ℕ) Lack → Result (ℕ × List ℕ) Cause
with_cause (Ok number) = Ok number
with_cause (Err lack) = Err (cause_of_lack lack)

-- the number of the varint that stands here
abbrev pub number_at : List ℕ → Result (ℕ × List ℕ) Cause
number_at text = with_cause (varint_at text)

-- the next size bytes
abbrev pub held_bytes_at : ℕ → List ℕ → Result (List ℕ × List ℕ) Cause
held_bytes_at size text = if nat_lt (length text) size then Err causes.Truncated else Ok (take size text, drop size text)

-- what a record of this wire type holds, and the bytes behind it (protobuf encoding, "Message Structure": VARINT 0, I64 1,
-- LEN 2, I32 5); any other wire type is BadWire, also 3 and 4, those of groups
unfoldable pub held_at : ℕ → List ℕ → Result (Held × List ℕ) Cause
held_at wire text = if wire == 0 then (number_at text >>= λ n. Ok (varint n.0, n.1))
    else (if wire == 1 then (held_bytes_at 8 text >>= λ b. Ok (fixed64 (from_le_bytes w64 b.0), b.1))
    else (if wire == 2 then (number_at text >>= λ n. held_bytes_at n.0 n.1 >>= λ b. Ok (bytes b.0, b.1))
    else (if wire == 5 then (held_bytes_at 4 text >>= λ b. Ok (fixed32 (from_le_bytes w32 b.0), b.1))
    else Err causes.BadWire)))

-- the number of a field in a key
unfoldable pub field_number : ℕ → Result ℕ Cause
field_number key = if nat_le 1 (key / 8) && nat_le (key / 8) last_number then Ok (key / 8) else Err causes.BadWire

-- the record at the front and the bytes behind it; no record where no bytes are left, and a cause where none can be read
unfoldable pub record_at : List ℕ → Result (Option Record × List ℕ) Cause
record_at [] = Ok (None, [])
record_at (b ∷ text) = do
  key ← number_at (b ∷ text)
  number ← field_number key.0
  held ← held_at (key.0 % 8) key.1
  Ok (Some (record { number = number; held = held.0 }), held.1)

-- what a reader answered and left is what reading gives
abbrev pub GivesNext : Result (Option WireRecord) Cause → List ℕ → Result (Option Record × List ℕ) Cause → Type 0
GivesNext (Ok None) rest read = read ≡ Ok (None, rest)
GivesNext (Ok (Some r)) rest read = read ≡ Ok (Some (plain_record r), rest)
GivesNext (Err cause) rest read = read ≡ Err cause

-- the answer is this record
abbrev pub IsNext : Result (Option WireRecord) Cause → Record → Type 0
IsNext (Ok None) r = ⊥
IsNext (Ok (Some found)) r = plain_record found ≡ r
IsNext (Err cause) r = ⊥

-- the answer is the end
abbrev pub IsEnd : Result (Option WireRecord) Cause → Type 0
IsEnd (Ok None) = Unit {0}
IsEnd (Ok (Some found)) = ⊥
IsEnd (Err cause) = ⊥
