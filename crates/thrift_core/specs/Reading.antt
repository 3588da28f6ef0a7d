-- Reading a part as a computation: what stands at the front, and the bytes after it, or the cause.
use Rattle.std.specs.Prelude.{◌≡◌, ℕ, ◌+◌, List, length, take, drop, Option, Some, None, Result, Ok, Err, nat_lt, if◌then◌else◌}
use Rattle.std.specs.Borrow.{Bor}
use Rattle.span_io.specs.declared.cause.Cause.{Cause}
use Rattle.span_io.specs.declared.cause.Cause.TheVariants as causes
use Rattle.span_io.specs.Walks.{Walk}
use Rattle.thrift_core.specs.declared.type_code.TypeCode.{TypeCode}
use Rattle.thrift_core.specs.Parts.{Part, size, WordOf}

-- how a protocol reads: the word of this part at the front and the bytes behind it, or the cause
abbrev pub ReadingOf : Type 0
ReadingOf = (part : Part) → List ℕ → Result (WordOf part × List ℕ) Cause

-- what a reader answered and left is what reading gives
abbrev pub GivesWord : {A : Type 0} → Result A Cause → List ℕ → Result (A × List ℕ) Cause → Type 0
GivesWord (Ok word) rest read = read ≡ Ok (word, rest)
GivesWord (Err cause) rest read = read ≡ Err cause

-- a cursor goes on over the same bytes
abbrev pub Stays : Walk → Walk → Type 0
Stays old new = new.place + length new.rest ≡ old.place + length old.rest

-- so many bytes
abbrev pub bytes_at : ℕ → List ℕ → Result (List ℕ × List ℕ) Cause
bytes_at many text = if nat_lt (length text) many then Err causes.Truncated else Ok (take many text, drop many text)

-- the bytes of a binary, behind their number
abbrev pub binary_behind : Result (ℕ × List ℕ) Cause → Result (List ℕ × List ℕ) Cause
binary_behind (Ok read) = bytes_at read.0 read.1
binary_behind (Err cause) = Err cause

-- a binary at the front: the number of its bytes, and then so many bytes
abbrev pub binary_at : ReadingOf → List ℕ → Result (List ℕ × List ℕ) Cause
binary_at reads text = binary_behind (reads size text)

-- the same of a reader that lends bytes
abbrev pub Lends : Result (Bor (List ℕ)) Cause → List ℕ → Result (List ℕ × List ℕ) Cause → Type 0
Lends (Ok lent) rest read = read ≡ Ok (lent.now, rest)
Lends (Err cause) rest read = read ≡ Err cause

-- these bytes are lent
abbrev pub IsLent : Result (Bor (List ℕ)) Cause → List ℕ → Type 0
IsLent (Ok lent) bytes = lent.now ≡ bytes
IsLent (Err cause) bytes = ⊥

-- ---- one step after the other

infixl 10 ◌>>=◌
-- what is read first goes on to the second step; where it failed, its cause is the answer
abbrev pub ◌>>=◌ : {A B : Type 0} → Result A Cause → (A → Result B Cause) → Result B Cause
(Ok x) >>= f = f x
(Err e) >>= f = Err e

-- this, where nothing speaks against it
abbrev pub unless : {A : Type 0} → Option Cause → A → Result A Cause
unless None x = Ok x
unless (Some cause) x = Err cause

-- the type that a field's code says
abbrev pub known : Option TypeCode → Result TypeCode Cause
known None = Err causes.BadWire
known (Some kind) = Ok kind
