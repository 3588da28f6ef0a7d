use Rattle.std.proofs.Common.{◌≡◌, take}
use Rattle.json_nodes.specs.private.Asked.{put_where}
use Rattle.json_nodes.proofs.members.put_named.Given as goal

abbrev pub invariant-names : goal.invariant-names
invariant-names l = l.found ≡ put_where l.name l.value (take l.i l.names) l.fn.found
