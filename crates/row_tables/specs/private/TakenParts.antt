-- A part is taken off the front of a text.
use Rattle.std.specs.Prelude.{◌≡◌, ◌<◌, ℕ, Bool, List, [], ◌∷◌, length}
use Rattle.row_tables.specs.Parts.{parts_of}

-- the part at the front of a text was taken, if it has one
pub record TakesPart (p : ℕ → Bool) (text part rest : List ℕ) : Type 0 where
  pub none : length text ≡ 0 → part ≡ []
  pub one : 0 < length text → parts_of p text ≡ part ∷ parts_of p rest
  pub nearer : 0 < length text → length rest < length text
