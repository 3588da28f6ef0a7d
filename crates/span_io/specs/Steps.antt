-- What is known of the next frame, and what each answer says of the bytes.
use Rattle.std.specs.Prelude.{◌≡◌, ◌+◌, ◌⊎◌, ℕ, List, []}
use Rattle.span_io.specs.declared.cause.Cause.{Cause}
use Rattle.span_io.specs.declared.cause.Cause.TheVariants as causes
use Rattle.span_io.specs.declared.step.Step.{Step}
use Rattle.span_io.specs.declared.step.Step.TheVariants as steps
use Rattle.span_io.specs.Frames.{Framing, NeedsMore, DecidedBy, IsItemOf, IsTooLong, IsRefusedIn}

-- where a frame ends, this holds of the number of its bytes
abbrev pub IfUnit : Step → (ℕ → Type 0) → Type 0
IfUnit steps.Need P = Unit {0}
IfUnit (steps.Unit n) P = P n
IfUnit (steps.Refused cause) P = Unit {0}

-- Why no frame comes of the bytes. The shortest front that is an item or is refused is too long; or it ends in what a wire format
-- refuses by this cause.
abbrev pub NoFrame : Framing → (Cause → List ℕ → Type 0) → ℕ → List ℕ → Cause → Type 0
NoFrame F EndsIn limit bytes causes.UnitTooLong = DecidedBy F limit (IsTooLong F limit) bytes
NoFrame F EndsIn limit bytes other = DecidedBy F limit (IsRefusedIn F (EndsIn other)) bytes

-- what each answer says of the bytes
abbrev pub StepIs : Framing → (Cause → List ℕ → Type 0) → ℕ → List ℕ → Step → Type 0
StepIs F EndsIn limit bytes steps.Need = NeedsMore F limit bytes
StepIs F EndsIn limit bytes (steps.Unit n) = DecidedBy F limit (IsItemOf F n) bytes
StepIs F EndsIn limit bytes (steps.Refused cause) = NoFrame F EndsIn limit bytes cause

-- A step that counts from behind n first bytes, told from their beginning.
abbrev pub behind : ℕ → Step → Step
behind n steps.Need = steps.Need
behind n (steps.Unit m) = steps.Unit (n + m)
behind n (steps.Refused cause) = steps.Refused cause

-- no bytes are there, or they need more
abbrev pub Waits : Framing → ℕ → List ℕ → Type 0
Waits F limit bytes = (bytes ≡ []) ⊎ NeedsMore F limit bytes
