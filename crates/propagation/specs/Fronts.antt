-- A text as the characters of one kind at its front, and what stands behind them.
use Rattle.std.specs.Prelude.{◌≡◌, ℕ, List, [], ◌∷◌, ◌++◌, All, ⊤}

-- the text doesn't begin with a character of the kind
abbrev pub BeginsWithout : (ℕ → Type 0) → List ℕ → Type 0
BeginsWithout Kind [] = ⊤
BeginsWithout Kind (c ∷ text) = ¬ (Kind c)

-- the text is all characters of the kind that it begins with, and the rest
pub record Leads (Kind : ℕ → Type 0) (text front rest : List ℕ) : Type 0 where
  pub whole : text ≡ front ++ rest
  pub kind : All Kind front
  pub ended : BeginsWithout Kind rest
