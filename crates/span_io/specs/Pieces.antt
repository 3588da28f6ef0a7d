-- Frames whose bytes come in pieces. What the bytes so far decide stays decided, and a frame that needed more of them ends in what
-- came then.
use Rattle.std.proofs.Common.{◌≡◌, ◌≢◌, ◌+◌, ◌≤◌, ◌<◌, ◌↔◌, ◌++◌, ℕ, List, [], length}
use Rattle.span_io.specs.declared.cause.Cause.{Cause}
use Rattle.span_io.specs.declared.step.Step.{Step}
use Rattle.span_io.specs.declared.step.Step.TheVariants as steps
use Rattle.span_io.specs.Frames.{Framing, NeedsMore, BeginsFrame, ItemsThen}
use Rattle.span_io.specs.Steps.{NoFrame, StepIs, behind, Waits}

-- what holds of a wire format's frames as more of their bytes come; `EndsIn` says, for each cause, what the refused bytes end in
pub record PieceLaws (F : Framing) (EndsIn : Cause → List ℕ → Type 0) : Type 0 where
  -- an answer other than Need holds whatever follows
  pub decided_more : (limit : ℕ) (bytes more : List ℕ) (step : Step) → step ≢ steps.Need → StepIs F EndsIn limit bytes step
      → StepIs F EndsIn limit (bytes ++ more) step
  pub no_frame_more : (limit : ℕ) (bytes more : List ℕ) (cause : Cause) → NoFrame F EndsIn limit bytes cause
      → NoFrame F EndsIn limit (bytes ++ more) cause
  -- so a part of what came is enough, where it is all or decides
  pub of_part : (limit : ℕ) (bytes part rest : List ℕ) (step : Step) → (step ≡ steps.Need → rest ≡ [])
      → StepIs F EndsIn limit (bytes ++ part) step
      → StepIs F EndsIn limit (bytes ++ (part ++ rest)) step
  -- the answer that a frame ends with n bytes says that one of n bytes begins
  pub begins : (limit n : ℕ) (bytes : List ℕ) → StepIs F EndsIn limit bytes (steps.Unit n) ↔ BeginsFrame F limit n bytes
  -- bytes that need more are fewer than the limit
  pub few : (limit : ℕ) (bytes : List ℕ) → NeedsMore F limit bytes → length bytes < limit
  -- a frame ends behind the bytes that needed more, in what came then
  pub ends_behind : (limit n : ℕ) (bytes more : List ℕ) → Waits F limit bytes → BeginsFrame F limit n (bytes ++ more)
      → (length bytes < n) × (n ≤ length bytes + length more)
  -- a true answer that counts from there is the only one
  pub counted : (limit : ℕ) (bytes more : List ℕ) (answer : Step)
      → StepIs F EndsIn limit (bytes ++ more) (behind (length bytes) answer)
      → (step : Step) → (answer ≡ step) ↔ StepIs F EndsIn limit (bytes ++ more) (behind (length bytes) step)
  -- the items of some bytes are items of more of them, with more at their rest
  pub items_more : (limit : ℕ) (items : List (List ℕ)) (rest bytes more : List ℕ) → ItemsThen F limit items rest bytes
      → ItemsThen F limit items (rest ++ more) (bytes ++ more)
