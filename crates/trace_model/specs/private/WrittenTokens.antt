-- The tokens of values, and what a writer of JSON gains by a call.
use Rattle.std.specs.Prelude.{◌≡◌, ℕ, List, [], ◌∷◌, ◌++◌}
use Rattle.std.specs.List.{flat_map}
use Rattle.json.specs.Token.{Token, begin_array, end_array, begin_object, end_object, key}
use Rattle.json.specs.Tree.{json_tokens}
use Rattle.json.specs.Written.{Written}
use Rattle.trace_model.specs.declared.value.Value.{Value}
use Rattle.trace_model.specs.ValueTexts.{json_of}

-- the tokens of a value's JSON
unfoldable pub tokens_of : Value → List Token
tokens_of value = json_tokens (json_of value)

-- the tokens of a member of an object: its key, and then its value's
abbrev pub pair_tokens : List ℕ × Value → List Token
pair_tokens pair = key pair.0 ∷ tokens_of pair.1

-- the tokens of a list: those of its members in order, between the array's begin and end
unfoldable pub list_tokens : List Value → List Token
list_tokens members = begin_array ∷ (flat_map tokens_of members ++ end_array ∷ [])

-- the tokens of a map: those of its pairs in order, between the object's begin and end
unfoldable pub map_tokens : List (List ℕ × Value) → List Token
map_tokens pairs = begin_object ∷ (flat_map pair_tokens pairs ++ end_object ∷ [])

-- these tokens were appended, and the bytes before the first token stay
pub record Wrote (old new : Written) (written : List Token) : Type 0 where
  pub before : new.before ≡ old.before
  pub tokens : new.tokens ≡ old.tokens ++ written
