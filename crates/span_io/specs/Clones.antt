-- What a copy of a list asks of its elements.
use Rattle.std.specs.Prelude.{◌≡◌, List, Contains}

-- each clone of an element of the list equals it
abbrev pub ClonesEqual : {X : Type 0} → (X → X → Type 0) → List X → Type 0
ClonesEqual {X} is_clone items = (x y : X) → Contains items x → is_clone x y → y ≡ x
