-- A record of the proto3 wire format, without where it lies in memory.
use Rattle.std.specs.Prelude.{ℕ, ◌^◌, ◌<◌, ◌≤◌, List, length}
use Rattle.proto_wire.specs.declared.record.WireRecord.{WireRecord}
use Rattle.proto_wire.specs.declared.record.Payload.{Payload}
use Rattle.proto_wire.specs.declared.record.Payload.TheVariants as payloads

-- what a record holds
pub data Held : Type 0 where
  varint : ℕ → Held
  fixed64 : ℕ → Held
  bytes : List ℕ → Held
  fixed32 : ℕ → Held

-- a record: the number of its field, and what it holds
pub record Record : Type 0 where
  pub number : ℕ
  pub held : Held

-- the wire type that a key tells (protobuf encoding, "Message Structure": VARINT 0, I64 1, LEN 2, I32 5)
abbrev pub wire_type : Held → ℕ
wire_type (varint n) = 0
wire_type (fixed64 n) = 1
wire_type (bytes b) = 2
wire_type (fixed32 n) = 5

-- the largest number of a field
abbrev pub last_number : ℕ
last_number = 536870911

-- a field number: from 1 to 2 ^ 29 - 1 (proto3 language guide, "Assigning Field Numbers")
abbrev pub IsFieldNumber : ℕ → Type 0
IsFieldNumber n = (1 ≤ n) × (n ≤ last_number)

-- each number lies in the range of its type
abbrev pub FitsHeld : Held → Type 0
FitsHeld (varint n) = n < 2 ^ 64
FitsHeld (fixed64 n) = n < 2 ^ 64
FitsHeld (bytes b) = length b < 2 ^ 64
FitsHeld (fixed32 n) = n < 2 ^ 32

-- a record whose field number and whose contents are in their ranges
pub record IsProper (r : Record) : Type 0 where
  pub number : IsFieldNumber r.number
  pub held : FitsHeld r.held

-- what a record of the program holds, the bytes by what they are and not by where they lie
abbrev pub plain_payload : Payload → Held
plain_payload (payloads.Varint n) = varint n
plain_payload (payloads.Fixed64 n) = fixed64 n
plain_payload (payloads.Bytes b) = bytes b.now
plain_payload (payloads.Fixed32 n) = fixed32 n

-- a record of the program, without where its bytes lie
abbrev pub plain_record : WireRecord → Record
plain_record r = record { number = r.number; held = plain_payload r.payload }
