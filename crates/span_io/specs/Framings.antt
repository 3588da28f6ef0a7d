-- How bytes are cut into items, and what their first step is, in every wire format that keeps its laws.
use Rattle.std.proofs.Common.{◌≡◌, ◌≤◌, ◌⊎◌, ℕ, List, []}
use Rattle.span_io.specs.declared.cause.Cause.{Cause}
use Rattle.span_io.specs.declared.step.Step.{Step}
use Rattle.span_io.specs.Frames.{Framing, BeginsFrame, NeedsMore, ItemsThen, IsFramed, GoesOn}
use Rattle.span_io.specs.Steps.{NoFrame, StepIs}

-- Bytes have one first step: a frame begins, no frame comes for one cause, or they need more. The empty bytes need more.
pub record OneStep (F : Framing) (EndsIn : Cause → List ℕ → Type 0) : Type 0 where
  pub some_step : (limit : ℕ) (text : List ℕ) → (step : Step) × StepIs F EndsIn limit text step
  pub one_step : (limit : ℕ) (text : List ℕ) (a b : Step) → StepIs F EndsIn limit text a → StepIs F EndsIn limit text b → a ≡ b
  pub one_cause : (limit : ℕ) (text : List ℕ) (a b : Cause) → NoFrame F EndsIn limit text a → NoFrame F EndsIn limit text b
      → a ≡ b
  pub no_frame : (limit n : ℕ) (text : List ℕ) (cause : Cause) → NoFrame F EndsIn limit text cause → ¬ BeginsFrame F limit n text
  pub open_frame : (limit n : ℕ) (text : List ℕ) → NeedsMore F limit text → ¬ BeginsFrame F limit n text
  pub open_refused : (limit : ℕ) (text : List ℕ) (cause : Cause) → NeedsMore F limit text → ¬ NoFrame F EndsIn limit text cause
  pub empty : (limit : ℕ) → 1 ≤ limit → NeedsMore F limit []

-- at the rest of some bytes no frame begins: they need more, or no frame comes, and why
abbrev pub RestIs : Framing → (Cause → List ℕ → Type 0) → ℕ → List ℕ → Type 0
RestIs F EndsIn limit rest = NeedsMore F limit rest ⊎ (cause : Cause) × NoFrame F EndsIn limit rest cause

-- all items at the front of some bytes, and what comes of the rest
pub record Framed (F : Framing) (EndsIn : Cause → List ℕ → Type 0) (limit : ℕ) (bytes : List ℕ) : Type 0 where
  pub items : List (List ℕ)
  pub rest : List ℕ
  pub framed : IsFramed F limit items rest bytes
  pub rest_is : RestIs F EndsIn limit rest

-- Bytes are in one way items of at most `limit` bytes each and a rest that begins with no such item; and of two walks over such
-- items one goes on behind the other.
pub record OneFraming (F : Framing) (EndsIn : Cause → List ℕ → Type 0) : Type 0 where
  pub walks : (limit : ℕ) (bytes rest other : List ℕ) (items others : List (List ℕ)) → ItemsThen F limit items rest bytes
      → ItemsThen F limit others other bytes
      → GoesOn F limit items others rest other ⊎ GoesOn F limit others items other rest
  pub once : (limit : ℕ) (bytes rest other : List ℕ) (items others : List (List ℕ)) → IsFramed F limit items rest bytes
      → IsFramed F limit others other bytes → (items ≡ others) × (rest ≡ other)
  pub some_framing : (limit : ℕ) (bytes : List ℕ) → Framed F EndsIn limit bytes
