-- The parts of a text between marks.
use Rattle.std.specs.Prelude.{ℕ, Bool, List, [], ◌∷◌, ◌==◌, if◌then◌else◌}
use Rattle.std.specs.List.{onto_first}

-- the byte 10, which ends a line
abbrev pub is_newline : ℕ → Bool
is_newline b = b == 10

-- the byte 32, a blank
abbrev pub is_blank : ℕ → Bool
is_blank b = b == 32

-- each part without the mark that ends it; behind the last mark none stands but one that isn't empty
abbrev pub parts_of : (ℕ → Bool) → List ℕ → List (List ℕ)
parts_of p [] = []
parts_of p (b ∷ bs) = if p b then [] ∷ parts_of p bs else onto_first b (parts_of p bs)
