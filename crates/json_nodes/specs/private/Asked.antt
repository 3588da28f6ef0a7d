-- Values put at the places whose names they have. Only private clauses name it.
use Rattle.std.specs.Prelude.{ℕ, List, [], ◌∷◌, cond, Option, Some}
use Rattle.std.specs.Borrow.{Bor}
use Rattle.std.specs.Str.{bytes_eq}
use Rattle.json_nodes.specs.declared.lent.Lent.{Lent}

-- the value is put at each place whose name is this key; the other places keep what they have
abbrev pub put_where : List ℕ → Lent → List (Bor (List ℕ)) → List (Option Lent) → List (Option Lent)
put_where key v [] found = found
put_where key v (name ∷ names) [] = []
put_where key v (name ∷ names) (o ∷ found) = cond (bytes_eq key name.now) (Some v) o ∷ put_where key v names found
