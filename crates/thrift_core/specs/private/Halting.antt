-- Where a walk stands, halts and goes on.
use Rattle.std.specs.Prelude.{◌≡◌, ◌≤◌, ◌⊎◌, ◌+◌, ◌-◌, ℕ, Option, Some, None, List, [], ◌∷◌, length, Result, Ok, Err}
use Rattle.span_io.specs.declared.cause.Cause.{Cause}
use Rattle.span_io.specs.declared.cause.Cause.TheVariants as causes
use Rattle.span_io.specs.declared.step.Step.{Step}
use Rattle.span_io.specs.declared.step.Step.TheVariants as steps
use Rattle.thrift_core.specs.declared.passing.Halted.{Halted}
use Rattle.thrift_core.specs.declared.passing.Halted.TheVariants as halts
use Rattle.thrift_core.specs.declared.position.Position.{Position}
use Rattle.thrift_core.specs.declared.stack.Stack.{Stack}
use Rattle.thrift_core.specs.Parts.{Spelling}
use Rattle.thrift_core.specs.Protocols.{most_unfinished}
use Rattle.thrift_core.specs.Reading.{ReadingOf}
use Rattle.thrift_core.specs.private.StackWalks.{open_of, HaltsThere}
use Rattle.thrift_core.specs.Walks.{outer_struct, Passes, Open, First, first_of}
use Rattle.thrift_core.specs.Positions.{PlaceOf}
use Rattle.thrift_core.specs.Stops.{Lacks, StopsFor}

-- what a walk says where it halts
abbrev pub HaltsAs : Spelling → ReadingOf → Open → List ℕ → Halted → Type 0
HaltsAs Spells reads start text (halts.For cause) = StopsFor Spells reads start text cause
HaltsAs Spells reads start text (halts.Lacking many) = Lacks Spells start text many

-- what passing over this answers: it ends in front of the rest, or says why it halts
abbrev pub Passed : Spelling → ReadingOf → Open → Result Unit Halted → List ℕ → List ℕ → Type 0
Passed Spells reads start (Ok _) text rest = Passes Spells (start ∷ []) text [] rest
Passed Spells reads start (Err halted) text rest = HaltsAs Spells reads start text halted

-- the same of whatever begins so
abbrev pub PassedAs : Spelling → ReadingOf → First → Result Unit Halted → List ℕ → List ℕ → Type 0
PassedAs Spells reads first result text rest =
    (start : Open) → first_of start ≡ first → Passed Spells reads start result text rest

-- the cause that callers are told: the text ends where bytes of a binary aren't there
abbrev pub cause_of : Halted → Cause
cause_of (halts.For cause) = cause
cause_of (halts.Lacking many) = causes.Truncated

-- in front of a part
abbrev pub IsAtPart : Position → Type 0
IsAtPart at = (at.carry.items ≡ []) × (at.missing ≡ 0)

-- before the first byte
abbrev pub IsAtStart : Position → Type 0
IsAtStart at = (open_of at.stack ≡ outer_struct ∷ []) × IsAtPart at

-- These bytes of a struct end with the rest, in front of which this is open.
abbrev pub StandsBefore : Spelling → List ℕ → Stack → List ℕ → Type 0
StandsBefore Spells bytes stack rest = Passes Spells (outer_struct ∷ []) bytes (open_of stack) rest

-- a walk over these bytes of a struct halts there
abbrev pub HaltsOver : Spelling → ReadingOf → List ℕ → Halted → Stack → List ℕ → Type 0
HaltsOver Spells reads bytes halted stack rest = HaltsThere Spells reads (outer_struct ∷ []) bytes halted stack rest

-- a part isn't all there
abbrev pub unfinished_part : Halted
unfinished_part = halts.For causes.Truncated

-- all of the piece was taken, or what a part that isn't whole has at most
abbrev pub IsEnough : ℕ → List ℕ → Type 0
IsEnough taken piece = (taken ≡ length piece) ⊎ (most_unfinished ≤ taken)

-- what is kept where a walk halts in front of the rest
abbrev pub KeepsOf : Halted → List ℕ → Position → Position → Type 0
KeepsOf (halts.Lacking many) rest old new = (new.missing ≡ many) × (new.carry ≡ old.carry)
KeepsOf (halts.For causes.Truncated) rest old new =
    old.carry.items ≡ [] → length rest ≤ most_unfinished → (new.carry.items ≡ rest) × (new.missing ≡ old.missing)
KeepsOf (halts.For other) rest old new = Unit {0}

-- The walk halts in these bytes, and more of them may come.
abbrev pub Halting : Spelling → ReadingOf → List ℕ → Halted → Position → Type 0
Halting Spells reads whole halted new =
    HaltsAs Spells reads outer_struct whole halted × (cause_of halted ≡ causes.Truncated → PlaceOf Spells whole new)

-- What comes of the bytes, of which the last `size` are the piece: the struct ends in front of the rest, or the walk halts.
abbrev pub Resumed : Spelling → ReadingOf → List ℕ → ℕ → Result ℕ Halted → Position → Type 0
Resumed Spells reads whole size (Ok n) new =
    (rest : List ℕ) × Passes Spells (outer_struct ∷ []) whole [] rest × (n + length rest ≡ size)
Resumed Spells reads whole size (Err halted) new = Halting Spells reads whole halted new

-- the same, and the rest may begin before the piece
abbrev pub Joined : Spelling → ReadingOf → List ℕ → ℕ → Result ℕ Halted → Position → Type 0
Joined Spells reads whole size (Ok n) new =
    (rest : List ℕ) × Passes Spells (outer_struct ∷ []) whole [] rest × (n ≡ size - length rest)
Joined Spells reads whole size (Err halted) new = Halting Spells reads whole halted new

-- a refusal, if there is one, as a step
abbrev pub step_of : Option Cause → Step
step_of None = steps.Need
step_of (Some cause) = steps.Refused cause
