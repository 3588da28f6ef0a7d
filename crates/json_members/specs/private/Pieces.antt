-- The text of a list of rows, piece by piece.
use Rattle.std.specs.Prelude.{List, [], ◌∷◌, ◌++◌}
use Rattle.json.specs.Token.{Token, end_object}
use Rattle.json_members.specs.Canonical.{MemberRow}
use Rattle.json_members.specs.Writing.{given_tokens}

-- the rest of an object
abbrev pub rows_tokens : List MemberRow → List Token
rows_tokens [] = end_object ∷ []
rows_tokens (row ∷ rows) = given_tokens row.0 row.1 ++ rows_tokens rows

-- the pieces of a list's elements, one behind the other
abbrev pub pieces : {A : Type 0} → (A → List Token) → List A → List Token
pieces piece [] = []
pieces piece (x ∷ more) = piece x ++ pieces piece more
