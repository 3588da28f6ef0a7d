-- What a scanner says of the pieces in which the bytes of frames come.
use Rattle.std.specs.Prelude.{◌≡◌, ◌≤◌, ◌+◌, ◌↔◌, ◌++◌, ℕ, List, [], length, Option, Some, None}
use Rattle.span_io.specs.declared.cause.Cause.{Cause}
use Rattle.span_io.specs.declared.step.Step.{Step}
use Rattle.span_io.specs.declared.step.Step.TheVariants as steps
use Rattle.span_io.specs.Frames.{Framing, BeginsFrame}
use Rattle.span_io.specs.Steps.{StepIs, behind}

-- a scanner's state
pub record Scanning : Type 1 where
  -- the most bytes of a frame
  pub limit : ℕ
  -- these bytes of the frame that it stands in came so far
  pub seen : List ℕ → Type 0
  -- why it refused a frame, if it did
  pub refused : Option Cause

-- a scanner of frames of at most `limit` bytes before its first byte
pub record IsNew (limit : ℕ) (s : Scanning) : Type 0 where
  pub most : s.limit ≡ limit
  pub going : s.refused ≡ None
  pub nothing : s.seen []

-- The answer is the first step of the frame's bytes with the piece behind them, and counts from where the piece begins.
abbrev pub PushIs : Framing → (Cause → List ℕ → Type 0) → Scanning → List ℕ → Step → Type 0
PushIs F EndsIn old piece answer = (bytes : List ℕ) → old.seen bytes → (step : Step)
    → (answer ≡ step) ↔ StepIs F EndsIn old.limit (bytes ++ piece) (behind (length bytes) step)

-- The answer that a frame ends with n bytes of the piece says that such a frame begins with the bytes so far.
abbrev pub FrameIs : Framing → Scanning → List ℕ → Step → Type 0
FrameIs F old piece answer = (bytes : List ℕ) → old.seen bytes → (n : ℕ)
    → (answer ≡ steps.Unit n) ↔ BeginsFrame F old.limit (length bytes + n) (bytes ++ piece)

-- where the scanner stands behind a piece: Need took it all, a frame's end is the next one's beginning, and a refusal stays
abbrev pub StandsBehind : Scanning → Scanning → List ℕ → Step → Type 0
StandsBehind old new piece steps.Need = (bytes : List ℕ) → old.seen bytes → new.seen (bytes ++ piece)
StandsBehind old new piece (steps.Unit n) = (bytes : List ℕ) → old.seen bytes → new.seen []
StandsBehind old new piece (steps.Refused cause) = new.refused ≡ Some cause

-- the frame ends in the piece, behind its beginning
abbrev pub EndsWithin : Scanning → List ℕ → ℕ → Type 0
EndsWithin old piece n = (bytes : List ℕ) → old.seen bytes → (1 ≤ n) × (n ≤ length piece)
