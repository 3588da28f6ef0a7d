-- What the writers of parts append, as tokens of JSON.
use Rattle.std.specs.Prelude.{◌≡◌, ℕ, List, [], ◌∷◌, ◌++◌, Option, Some, None, Result, OnOk, OnErr}
use Rattle.json.specs.Token.{Token, key}
use Rattle.json.specs.Tree.{json_tokens}
use Rattle.json.specs.Written.{Written, WritesFront}
use Rattle.serde_json.specs.Data.{Data}
use Rattle.serde_json.specs.Written.{outline}

-- these tokens are appended, and after want of memory a front of them
pub record Appends {E : Type 0} (result : Result (Unit {0}) E) (old new : Written) (tokens : List Token) : Type 0 where
  pub before : new.before ≡ old.before
  pub ok : OnOk result (new.tokens ≡ old.tokens ++ tokens)
  pub err : OnErr result (WritesFront old.tokens new.tokens tokens)

-- a front of this text was appended
pub record GrewFront (old new text : List ℕ) : Type 0 where
  pub front : List ℕ
  pub rest : List ℕ
  pub whole : text ≡ front ++ rest
  pub grew : new ≡ old ++ front

-- the tokens of a value
abbrev pub data_tokens : Data → List Token
data_tokens d = json_tokens (outline d)

-- a member's name and value, if it isn't left out
abbrev pub given_tokens : List ℕ → Option Data → List Token
given_tokens name None = []
given_tokens name (Some d) = key name ∷ data_tokens d
