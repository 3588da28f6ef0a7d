-- Nodes as they are added at the end of a list, and the tokens of which they are made. Only private clauses name it.
use Rattle.std.specs.Prelude.{◌≡◌, ℕ, ◌+◌, List, [], ◌∷◌, ◌++◌, length, map, Option, Some, String}
use Rattle.json.specs.Token.{Token}
use Rattle.serde_json.specs.Data.{Data, Items, Members, no_members}
use Rattle.serde_json.specs.View.{items_of, members_view}
use Rattle.serde_json.specs.declared.value.Value.{Value}
use Rattle.std.specs.declared.alloc.Global.{Global}
use Rattle.json_nodes.specs.Nodes.{Entry, key, value, put_all, entries}
use Rattle.json_nodes.specs.declared.node.Node.{Node}

-- wherever they stand, these nodes spell that
abbrev pub Spells : List Node → List Entry → Type 0
Spells ns es = (end left : ℕ) (rest : List Node) → length ns + left ≡ end → entries 0 end (ns ++ rest) ≡ es ++ entries 0 left rest

-- nodes that spell that were added
pub record Adds (old new : List Node) (es : List Entry) : Type 0 where
  pub added : List Node
  pub grown : new ≡ old ++ added
  pub spells : Spells added es

-- members as nodes spell them: each key, and its value behind it
abbrev pub member_entries : List (List ℕ × Data) → List Entry
member_entries [] = []
member_entries (m ∷ ms) = key m.0 ∷ value m.1 ∷ member_entries ms

-- what was read, before these tokens, and its nodes were added

-- a value was read, and its nodes were added; these tokens are left
pub record AddsValue (old new : List Node) (read : Option (Data × List Token)) (left : List Token) : Type 0 where
  pub whole : Data
  pub is : read ≡ Some (whole, left)
  pub adds : Adds old new (value whole ∷ [])

-- the elements of an array were read, and the nodes of each were added; these tokens are left
pub record AddsItems (old new : List Node) (read : Option (Items × List Token)) (left : List Token) : Type 0 where
  pub whole : List Data
  pub is : read ≡ Some (items_of whole, left)
  pub adds : Adds old new (map value whole)

-- the members of an object were read, and nodes of all were added, of equal keys too; these tokens are left
pub record AddsMembers (old new : List Node) (read : Option (Members × List Token)) (left : List Token) : Type 0 where
  pub whole : List (List ℕ × Data)
  pub is : read ≡ Some (put_all whole no_members, left)
  pub adds : Adds old new (member_entries whole)

-- the members of a map were added
pub record AddsMap (old new : List Node) (entries : List (String Global × Value)) : Type 0 where
  pub whole : List (List ℕ × Data)
  pub is : put_all whole no_members ≡ members_view entries
  pub adds : Adds old new (member_entries whole)
