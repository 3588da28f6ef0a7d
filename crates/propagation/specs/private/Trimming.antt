-- How white space is cut off at both ends.
use Rattle.std.specs.Prelude.{◌≡◌, ℕ, List, ◌++◌, reverse, All}
use Rattle.propagation.specs.Fronts.{BeginsWithout}
use Rattle.propagation.specs.Tracestate.{IsBlank}

-- a text without the blanks at its ends
pub record Trims (text inside : List ℕ) : Type 0 where
  pub before : List ℕ
  pub after : List ℕ
  pub whole : text ≡ before ++ (inside ++ after)
  pub blank_before : All IsBlank before
  pub blank_after : All IsBlank after
  pub begins : BeginsWithout IsBlank inside
  pub ends : BeginsWithout IsBlank (reverse inside)
