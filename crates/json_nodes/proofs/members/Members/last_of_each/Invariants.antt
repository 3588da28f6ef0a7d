use Rattle.std.proofs.Common.{length}
use Rattle.std.specs.List.{AllZip}
use Rattle.json_nodes.specs.Lents.{members_left}
use Rattle.json_nodes.proofs.AskedLemmas.{Finds}
use Rattle.json_nodes.proofs.members.Members.last_of_each.Given as goal

abbrev pub invariant-members : goal.invariant-members
invariant-members l = AllZip (Finds (members_left l.fn.self) (members_left l.left)) l.names l.found

abbrev pub decreases-members : goal.decreases-members
decreases-members l = length (members_left l.left)
