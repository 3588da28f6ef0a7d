-- The least of what is told in two ways.
use Rattle.std.proofs.Common.{Option, Some, None, ⊎_elim, inl, inr}
use Rattle.std.specs.Prelude.{◌⊎◌}
use Rattle.std.specs.Option.{option_or}
use Rattle.trace_model.specs.LeastOf.{IsLeastOf}

module _ {X : Type 0} (AtMost : X → X → Type 0) (First Second : X → Type 0) where
  pub least_or : (one other : Option X) → IsLeastOf AtMost First one → IsLeastOf AtMost Second other → ((x y : X) → First x → Second y → AtMost x y)
      → IsLeastOf AtMost (λ x. First x ⊎ Second x) (option_or one other)
  least_or None None one other before = λ x h. ⊎_elim (one x) (other x) h
  least_or None (Some y) one other before = (inr other.0, λ x h. ⊎_elim (λ (f : First x). absurd (one x f)) (other.1 x) h)
  least_or (Some x) other one rest before = (inl one.0, λ y h. ⊎_elim (one.1 y) (λ (s : Second y). before x y one.0 s) h)
