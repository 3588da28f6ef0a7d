-- Rows are put in their places among attributes, one before the other.
use Rattle.std.proofs.Common.{◌≡◌, ℕ, List, ◌++◌, take, drop}
use Rattle.trace_model.specs.Attributes.{placed, attrs}
use Rattle.trace_model.specs.declared.value.Value.{Value}
use Rattle.span_tags.specs.TagWords.{Pairs}

-- in front of i pairs that are below it a pair has no place
abbrev pub NotBefore : List ℕ → ℕ → Pairs → Type 0
NotBefore key i pairs = (value : Value) → placed (key, value) pairs ≡ take i pairs ++ placed (key, value) (drop i pairs)

-- of these rows those behind stand in their places
pub record SoFar (rows front before pairs : Pairs) : Type 0 where
  pub behind : Pairs
  pub whole : rows ≡ front ++ behind
  pub put : (rest : Pairs) → before ≡ attrs rest → pairs ≡ attrs (behind ++ rest)
