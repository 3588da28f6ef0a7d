-- What a lent value is, and what is left of its elements or members.
use Rattle.std.specs.Prelude.{ℕ, List, [], ◌∷◌}
use Rattle.std.specs.Borrow.{Bor}
use Rattle.serde_json.specs.Data.{Data, Members as Named, no_members, member}
use Rattle.json_nodes.specs.Nodes.{values_of, pairs_of, spelled, value_at}
use Rattle.json_nodes.specs.declared.lent.Lent.{Lent}
use Rattle.json_nodes.specs.declared.elements.Elements.{Elements}
use Rattle.json_nodes.specs.declared.members.Members.{Members}

-- the value with which its nodes begin, or null if none does
abbrev pub lent_view : Lent → Data
lent_view v = value_at v.nodes.now

-- the elements that are left, in the order of the text
abbrev pub elements_left : Elements → List Data
elements_left es = values_of (spelled es.nodes.now)

-- each key with its value, in the order of the text
abbrev pub members_left : Members → List (List ℕ × Data)
members_left ms = pairs_of (spelled ms.nodes.now)

-- members by their names
abbrev pub named_members : List (Bor (List ℕ) × Lent) → Named
named_members [] = no_members
named_members (m ∷ ms) = member m.0.now (lent_view m.1) (named_members ms)
