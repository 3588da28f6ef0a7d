-- What a reader has gathered of a row so far, and how it sets one. These words serve every wire format.
use Rattle.std.specs.Prelude.{ℕ, ◌⊎◌, List, [], ◌∷◌, ◌++◌, Option, Some, None, Result}
use Rattle.span_io.specs.declared.cause.Cause.{Cause}
use Rattle.span_io.specs.declared.halt.Halt.{Halt}
use Rattle.span_io.specs.Offences.{JudgesHere}
use Rattle.span_io.specs.Tables.{Twice, MeansText, NotText}

-- no item of the row was seen, or one that means this value
abbrev pub Gave : {A B : Type 0} → (A → B → Type 0) → List A → Option B → Type 0
Gave Means [] None = Unit {0}
Gave Means [] (Some value) = ⊥
Gave Means (held ∷ []) None = ⊥
Gave Means (held ∷ []) (Some value) = Means held value
Gave Means (held ∷ other ∷ more) row = ⊥

-- one more item of the row, which holds this
abbrev pub Sets : {A B : Type 0} → (A → B → Type 0) → A → Option B → Option B → Type 0
Sets {A} Means held old new = (earlier : List A) → Gave Means earlier old → Gave Means (earlier ++ held ∷ []) new

-- what is answered of an item of a singular row of texts, whatever items of the row came before
abbrev pub JudgesText : {T : Type 0} → Option (List ℕ) → List ℕ → Result T (Halt Cause) → Type 0
JudgesText row held result =
    (earlier : List (List ℕ)) → Gave MeansText earlier row → JudgesHere result (λ n. Twice earlier n ⊎ NotText held n)
