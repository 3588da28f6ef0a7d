use Rattle.std.proofs.Common.{◌≡◌, length}
use Rattle.serde_json.specs.Data.{no_members}
use Rattle.json_nodes.specs.Lents.{members_left, named_members}
use Rattle.json_nodes.specs.Nodes.{put_all}
use Rattle.json_nodes.proofs.members.Members.by_name.Given as goal

-- the members that are left, put to those that were seen
abbrev pub invariant-members : goal.invariant-members
invariant-members l = put_all (members_left l.left) (named_members l.named.entries) ≡ put_all (members_left l.fn.self) no_members

abbrev pub decreases-members : goal.decreases-members
decreases-members l = length (members_left l.left)
