-- Messages of the proto3 wire format as a format whose messages may offend.
use Rattle.std.specs.Prelude.{◌≡◌, ◌≢◌, ℕ, ◌⊎◌, List, [], length}
use Rattle.span_io.specs.Offences.{Format}
use Rattle.proto_wire.specs.Records.{Held, varint, fixed64, bytes, fixed32, Record}
use Rattle.proto_wire.specs.Wire.{BeginsRecord, IsOpenRecord, HasOverlong, HasBadKey}

-- No record begins, and this is why: it is 1 where one may yet come of the bytes, else 2 or 3 by the item that is refused.
abbrev pub NoRecord : List ℕ → ℕ → Type 0
NoRecord rest number =
    ((number ≡ 1) × (rest ≢ []) × IsOpenRecord rest) ⊎ ((number ≡ 2) × HasOverlong rest) ⊎ ((number ≡ 3) × HasBadKey rest)

-- how many bytes an inner message has, where a record can hold one
abbrev pub inner_size : Held → ℕ
inner_size (varint n) = 0
inner_size (fixed64 n) = 0
inner_size (bytes held) = length held
inner_size (fixed32 n) = 0

-- A message is records to its end. A record that holds bytes may hold an inner message, beside which a record has at least two
-- bytes: one of its key, and one of its length or of the number that it holds.
abbrev pub messages : Format
messages = record {
  Item = Record;
  Rest = List ℕ;
  size = λ rest. length rest;
  Begins = λ r rest after. BeginsRecord r rest after;
  IsEnd = λ rest. rest ≡ [];
  Unread = λ rest number. NoRecord rest number;
  held = λ r. inner_size r.held;
  beside = 2;
}
