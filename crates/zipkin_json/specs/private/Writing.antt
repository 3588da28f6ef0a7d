-- The pieces that the writers of lists append, as tokens of JSON.
use Rattle.std.specs.Prelude.{ℕ, List, [], ◌∷◌}
use Rattle.json.specs.Token.{Token, key, string}
use Rattle.json_members.specs.Writing.{data_tokens}
use Rattle.zipkin_json.specs.Canonical.{annotation_json}

-- a member of `tags`: its key, and then its text
abbrev pub tag_piece : List ℕ × List ℕ → List Token
tag_piece tag = key tag.0 ∷ string tag.1 ∷ []

-- an element of `annotations`: the tokens of its object
abbrev pub annotation_piece : ℕ × List ℕ → List Token
annotation_piece a = data_tokens (annotation_json a)
