-- What the searches in a header answer: a name is found exactly where one begins the bytes.
use Rattle.std.specs.Prelude.{◌≡◌, ◌⊎◌, ◌∷◌, ℕ, List, Option, IfSome, IsSomeAnd}
use Rattle.std.specs.Borrow.{Bor}
use Rattle.span_io.specs.Varint.{BeginsVarint}
use Rattle.thrift_core.specs.Trees.{BinaryThen}
use Rattle.thrift_spellings.specs.BinarySpelling.{binary_spells}
use Rattle.span_agent.specs.Headers.{SizedName, FourThen}

-- What is lent is the name that begins the bytes, and the rest is left. If one begins them it is found.
pub record FindsName (Is : List ℕ → List ℕ → List ℕ → Type 0) (result : Option (Bor (List ℕ))) (old new : List ℕ) : Type 0 where
  pub found : IfSome result (λ lent. Is lent.now old new)
  pub only : (name rest : List ℕ) → Is name old rest → IsSomeAnd result (λ lent. lent.now ≡ name) × (new ≡ rest)

-- one of two bytes, and then rest
abbrev pub Either : ℕ → ℕ → List ℕ → List ℕ → Type 0
Either one other whole rest = (whole ≡ one ∷ rest) ⊎ (whole ≡ other ∷ rest)

-- a number as a varint, then the name
pub record NumberedName (name whole rest : List ℕ) : Type 0 where
  pub sequence : ℕ
  pub sized : List ℕ
  pub sequence_then : BeginsVarint sequence whole sized
  pub name_then : SizedName name sized rest

-- the number of the name's bytes as an i32, they themselves, four bytes, and then rest
pub record NameThenNumber (name whole rest : List ℕ) : Type 0 where
  pub numbered : List ℕ
  pub name_then : BinaryThen binary_spells name whole numbered
  pub sequence_then : FourThen numbered rest
