-- The text of a message: its records, one after the other (proto3 wire format, "Message Structure").
use Rattle.std.specs.Prelude.{◌≡◌, ℕ, ◌+◌, ◌*◌, ◌<◌, ◌⊎◌, List, [], ◌∷◌, ◌++◌, length}
use Rattle.std.specs.Int.{w32, w64, from_le_bytes, to_le_bytes}
use Rattle.span_io.specs.declared.cause.Cause.{Cause}
use Rattle.span_io.specs.declared.cause.Cause.TheVariants as causes
use Rattle.span_io.specs.Varint.{SpellsVarint, varint_text}
use Rattle.span_io.specs.declared.step.Step.{Step}
use Rattle.span_io.specs.Frames.{Framing, IsOpen, IsRefusedAt, EndsInTenth, NeedsMore}
use Rattle.span_io.specs.Steps.{NoFrame, StepIs}
use Rattle.proto_wire.specs.Records.{Held, varint, fixed64, bytes, fixed32, Record, wire_type, IsFieldNumber}

-- a record begins with the varint of its number times 8 plus its wire type
abbrev pub key_of : Record → ℕ
key_of r = r.number * 8 + wire_type r.held

-- the text is a spelling of what a record holds
abbrev pub SpellsHeld : List ℕ → Held → Type 0
SpellsHeld text (varint n) = SpellsVarint text n
SpellsHeld text (fixed64 n) = (length text ≡ 8) × (n ≡ from_le_bytes w64 text)
SpellsHeld text (bytes held) = (size : List ℕ) × SpellsVarint size (length held) × (text ≡ size ++ held)
SpellsHeld text (fixed32 n) = (length text ≡ 4) × (n ≡ from_le_bytes w32 text)

-- the text is a spelling of the record
pub record SpellsRecord (text : List ℕ) (r : Record) : Type 0 where
  pub number : IsFieldNumber r.number
  pub key : List ℕ
  pub payload : List ℕ
  pub key_spelled : SpellsVarint key (key_of r)
  pub payload_spelled : SpellsHeld payload r.held
  pub parts : text ≡ key ++ payload

-- a spelling of the record, and then rest
pub record BeginsRecord (r : Record) (whole rest : List ℕ) : Type 0 where
  pub text : List ℕ
  pub spelled : SpellsRecord text r
  pub parts : whole ≡ text ++ rest

-- the bytes are the text of these records, in order
unfoldable pub Wire : List Record → List ℕ → Type 0
Wire [] text = text ≡ []
Wire (r ∷ more) text = (rest : List ℕ) × BeginsRecord r text rest × Wire more rest

-- ---- where no record begins

-- these first bytes of a record are its key, of a field that holds a varint or begins with its length
pub record IsKeyThenVarint (key : List ℕ) : Type 0 where
  pub number : ℕ
  pub wire_type : ℕ
  pub is_number : IsFieldNumber number
  pub with_varint : (wire_type ≡ 0) ⊎ (wire_type ≡ 2)
  pub spelled : SpellsVarint key (number * 8 + wire_type)

-- The bytes hold a length, whole, by which the bytes of a record of wire type 2 end behind `limit` bytes of the record.
pub record HoldsLengthPast (limit : ℕ) (text : List ℕ) : Type 0 where
  pub number : ℕ
  pub is_number : IsFieldNumber number
  pub key : List ℕ
  pub key_spelled : SpellsVarint key (number * 8 + 2)
  pub size : List ℕ
  pub held : ℕ
  pub size_spelled : SpellsVarint size held
  pub others : List ℕ
  pub parts : text ≡ key ++ (size ++ others)
  pub past : limit < length key + length size + held

-- records as items of a wire format
abbrev pub records : Framing
records = record {
  Whole = λ text. (r : Record) × SpellsRecord text r;
  ThenVarint = λ front. (front ≡ []) ⊎ IsKeyThenVarint front;
  EndsPast = HoldsLengthPast;
}

-- a record may yet come of the bytes
abbrev pub IsOpenRecord : List ℕ → Type 0
IsOpenRecord text = IsOpen records text

-- the bytes are one varint, where a key stands
abbrev pub IsKey : List ℕ → Type 0
IsKey text = (n : ℕ) × SpellsVarint text n

-- the shortest front that is refused ends with the tenth byte of a varint
abbrev pub HasOverlong : List ℕ → Type 0
HasOverlong text = IsRefusedAt records (EndsInTenth records) text

-- the shortest front that is refused ends with a key: its number or its wire type is outside the table
abbrev pub HasBadKey : List ℕ → Type 0
HasBadKey text = IsRefusedAt records IsKey text

-- ---- frames: records of at most `limit` bytes

-- what the shortest refused front of a record ends in, by the cause that this names
abbrev pub RefusedBy : Cause → List ℕ → Type 0
RefusedBy causes.BadVarint front = EndsInTenth records front
RefusedBy causes.BadWire front = IsKey front
RefusedBy other front = ⊥

-- what each answer on the first record says of the bytes
abbrev pub FirstIs : ℕ → List ℕ → Step → Type 0
FirstIs limit text step = StepIs records RefusedBy limit text step

-- the bytes are open, and no front of them is a record or is refused
abbrev pub NeedsMoreBytes : ℕ → List ℕ → Type 0
NeedsMoreBytes limit text = NeedsMore records limit text

-- why no frame comes of the bytes
abbrev pub IsRefusedAs : ℕ → List ℕ → Cause → Type 0
IsRefusedAs limit text cause = NoFrame records RefusedBy limit text cause

-- ---- writing

-- what is written of a record behind its key: a number as its shortest varint or as 8 or 4 bytes, the lowest first; bytes behind
-- their length, which is the shortest varint
abbrev pub held_text : Held → List ℕ
held_text (varint n) = varint_text n
held_text (fixed64 n) = to_le_bytes w64 n
held_text (bytes held) = varint_text (length held) ++ held
held_text (fixed32 n) = to_le_bytes w32 n

-- the shortest spelling of a record
unfoldable pub record_text : Record → List ℕ
record_text r = varint_text (key_of r) ++ held_text r.held

-- what stands before the bytes of a record that holds so many of them
unfoldable pub opening_text : ℕ → ℕ → List ℕ
opening_text number size = varint_text (number * 8 + 2) ++ varint_text size
