use Rattle.std.proofs.Common.{length}
use Rattle.json_nodes.specs.Lents.{members_left}
use Rattle.zipkin_json.proofs.TagLemmas.{TagsSoFar}
use Rattle.zipkin_json.proofs.reading.tags.tags_in_order.Given as goal

abbrev pub invariant-tags : goal.invariant-tags
invariant-tags l = TagsSoFar (members_left l.fn.members) (members_left l.left) l.tags

abbrev pub decreases-tags : goal.decreases-tags
decreases-tags l = length (members_left l.left)
