-- What stands at the front of a rest, and why nothing does, over any framing and what refuses its frames.
use Rattle.std.specs.Prelude.{◌≡◌, ◌≢◌, ℕ, ◌⊎◌, List, []}
use Rattle.span_io.specs.Frames.{Framing, NeedsMore}
use Rattle.span_io.specs.Steps.{NoFrame}
use Rattle.span_io.specs.declared.cause.Cause.{Cause}
use Rattle.span_io.specs.declared.cause.Cause.TheVariants as causes

-- Why the rest, at which no frame begins, isn't read. A front of it is refused; or none is, and the input has other bytes than those that
-- are looked at, or has none and ends inside a frame.
abbrev pub StopsRest : Framing → (Cause → List ℕ → Type 0) → ℕ → Type 0 → Type 0 → List ℕ → Cause → Type 0
StopsRest F EndsIn limit HasOthers HasNone rest cause =
    NoFrame F EndsIn limit rest cause
    ⊎ NeedsMore F limit rest × (
    (cause ≡ causes.InputTooLong) × HasOthers
    ⊎ (cause ≡ causes.Truncated) × HasNone × (rest ≢ []))
