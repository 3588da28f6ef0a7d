use Rattle.std.proofs.Common.{◌≡◌, option_map, length}
use Rattle.json_nodes.specs.Lents.{lent_view, members_left}
use Rattle.json_nodes.specs.private.Parts.{later_or, last_value}
use Rattle.json_nodes.proofs.members.Members.last_named.Given as goal

abbrev pub invariant-members : goal.invariant-members
invariant-members l = last_value l.name (members_left l.fn.self) ≡ later_or (last_value l.name (members_left l.left)) (option_map lent_view l.found)

abbrev pub decreases-members : goal.decreases-members
decreases-members l = length (members_left l.left)
