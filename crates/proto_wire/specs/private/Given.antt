-- What the parts of a record's reader give.
use Rattle.std.specs.Prelude.{◌≡◌, ℕ, List, Option, Some, Result, Ok, Err}
use Rattle.std.specs.Borrow.{Bor}
use Rattle.span_io.specs.declared.cause.Cause.{Cause}
use Rattle.proto_wire.specs.declared.record.Payload.{Payload}
use Rattle.proto_wire.specs.declared.record.WireRecord.{WireRecord}
use Rattle.proto_wire.specs.Records.{Held, Record, plain_payload, plain_record}

-- what a reader of a number answered and left is what reading gives
abbrev pub GivesNumber : Result ℕ Cause → List ℕ → Result (ℕ × List ℕ) Cause → Type 0
GivesNumber (Ok n) rest read = read ≡ Ok (n, rest)
GivesNumber (Err cause) rest read = read ≡ Err cause

-- the same of a reader of bytes
abbrev pub GivesBytes : Result (Bor (List ℕ)) Cause → List ℕ → Result (List ℕ × List ℕ) Cause → Type 0
GivesBytes (Ok b) rest read = read ≡ Ok (b.now, rest)
GivesBytes (Err cause) rest read = read ≡ Err cause

-- the same of a reader of what a record holds
abbrev pub GivesHeld : Result Payload Cause → List ℕ → Result (Held × List ℕ) Cause → Type 0
GivesHeld (Ok held) rest read = read ≡ Ok (plain_payload held, rest)
GivesHeld (Err cause) rest read = read ≡ Err cause

-- the same of a reader of a record, where one is looked for before the end
abbrev pub GivesRecord : Result WireRecord Cause → List ℕ → Result (Option Record × List ℕ) Cause → Type 0
GivesRecord (Ok r) rest read = read ≡ Ok (Some (plain_record r), rest)
GivesRecord (Err cause) rest read = read ≡ Err cause
