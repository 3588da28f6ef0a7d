use Rattle.std.proofs.Common.{◌≡◌, ℕ, List, ◌++◌, take, map}
use Rattle.serde_json.specs.Data.{Data, no_members}
use Rattle.serde_json.specs.View.{view, members_view}
use Rattle.serde_json.proofs.Views.{Entry}
use Rattle.json_nodes.specs.private.Building.{Adds, member_entries}
use Rattle.json_nodes.specs.Nodes.{value as held, put_all}
use Rattle.json_nodes.proofs.owned.+add.Given as goal

abbrev pub invariant-add_elements-elements : goal.invariant-add_elements-elements
invariant-add_elements-elements l = record {
  adds : Adds l.initial.nodes.items l.nodes.items (map (λ v. held (view v)) (take l.element-index l.element-items));
}

abbrev pub invariant-add_members-members : goal.invariant-add_members-members
invariant-add_members-members l = record {
  done : List Entry;
  all : l.members.entries ≡ done ++ l.name-iterator;
  seen : List (List ℕ × Data);
  told : put_all seen no_members ≡ members_view done;
  adds : Adds l.initial.nodes.items l.nodes.items (member_entries seen);
}
