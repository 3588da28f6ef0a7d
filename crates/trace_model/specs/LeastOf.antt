-- The least of what is told, if there is any: as of faults, by their places, their numbers and their keys.
use Rattle.std.specs.Prelude.{◌≡◌, ◌⊎◌, Bool, true, Option, Some, None}
use Rattle.std.specs.Option.{option_or}

module _ {X : Type 0} where
  -- what is found is told and is at most each other; where none is found, none is told
  abbrev pub IsLeastOf : (X → X → Type 0) → (X → Type 0) → Option X → Type 0
  IsLeastOf AtMost Told None = (x : X) → Told x → ⊥
  IsLeastOf AtMost Told (Some found) = Told found × ((x : X) → Told x → AtMost found x)

-- of two kinds, of which the first comes before the second, the least is that of the first where there is one
abbrev pub LeastOfEither : Type 0 → Type 0
LeastOfEither X = (at_most : X → X → Bool) (first second : X → Bool) (one other : Option X)
    → IsLeastOf (λ x y. at_most x y ≡ true) (λ x. first x ≡ true) one
    → IsLeastOf (λ x y. at_most x y ≡ true) (λ x. second x ≡ true) other
    → ((x y : X) → first x ≡ true → second y ≡ true → at_most x y ≡ true)
    → IsLeastOf (λ x y. at_most x y ≡ true) (λ x. (first x ≡ true) ⊎ (second x ≡ true)) (option_or one other)
