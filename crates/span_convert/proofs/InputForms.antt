-- What the laws of verdicts rest on, over what a form says of an input.
use Rattle.std.proofs.Common.{◌≡◌, ◌<◌, ◌++◌, ◌⊎◌, ℕ, List, [], All}
use Rattle.span_io.specs.Limits.{AreLimits}
use Rattle.span_io.specs.declared.limits.Limits.{Limits}
use Rattle.span_io.specs.declared.refusal.Refusal.{Refusal}
use Rattle.trace_model.specs.Soundness.{IsSoundTrace}
use Rattle.trace_model.specs.OtlpParts.{NotedGroup}
use Rattle.span_convert.specs.Units.{InputForm, groups_in}
use Rattle.span_convert.specs.Verdicts.{IsProperTrace}

-- these groups come first among those
pub record ComesFirst (groups all : List NotedGroup) : Type 0 where
  pub more : List NotedGroup
  pub parts : all ≡ groups ++ more

-- an input has one list of groups, or is refused in one way
pub record InputFormLaws (from : InputForm) : Type 0 where
  pub compare : (limits : Limits) (bytes : List ℕ) (a b : List NotedGroup) → from.Begins limits bytes a → from.Begins limits bytes b → ComesFirst a b ⊎ ComesFirst b a
  pub shorter : (limits : Limits) (bytes : List ℕ) (a b : List NotedGroup) → from.Begins limits bytes (a ++ b) → from.Begins limits bytes a
  pub whole_begins : (limits : Limits) (bytes : List ℕ) (a : List NotedGroup) → from.IsWhole limits bytes a → from.Begins limits bytes a
  pub whole_ends : (limits : Limits) (bytes : List ℕ) (a b : List NotedGroup) → AreLimits limits → from.IsWhole limits bytes a → from.Begins limits bytes b → ComesFirst b a
  pub refused_begins : (limits : Limits) (bytes : List ℕ) (a : List NotedGroup) (r : Refusal) → from.Refuses limits bytes a r → (a ≡ []) ⊎ from.Begins limits bytes a
  pub refused_ends : (limits : Limits) (bytes : List ℕ) (a b : List NotedGroup) (r : Refusal) → AreLimits limits → from.Refuses limits bytes a r → from.Begins limits bytes b → ComesFirst b a
  pub whole_or_refused : (limits : Limits) (bytes : List ℕ) (a b : List NotedGroup) (r : Refusal) → AreLimits limits → from.IsWhole limits bytes a → from.Refuses limits bytes b r → ⊥
  pub refused_once : (limits : Limits) (bytes : List ℕ) (a b : List NotedGroup) (r q : Refusal) → AreLimits limits → from.Refuses limits bytes a r → from.Refuses limits bytes b q → (a ≡ b) × (r ≡ q)

-- each input has groups, or is refused behind some
abbrev pub IsDecidedInput : InputForm → Limits → List ℕ → Type 0
IsDecidedInput from limits bytes =
    ((groups : List NotedGroup) × from.IsWhole limits bytes groups) ⊎ ((groups : List NotedGroup) × (refusal : Refusal) × from.Refuses limits bytes groups refusal)

pub record SomeInput (from : InputForm) : Type 0 where
  pub decided : (limits : Limits) (bytes : List ℕ) → All (λ b. b < 256) bytes → IsDecidedInput from limits bytes
  pub sound : (limits : Limits) (bytes : List ℕ) (groups : List NotedGroup) → from.Begins limits bytes groups → IsSoundTrace (groups_in groups)
  pub proper : (limits : Limits) (bytes : List ℕ) (groups : List NotedGroup) → All (λ b. b < 256) bytes → from.Begins limits bytes groups → IsProperTrace (groups_in groups)
