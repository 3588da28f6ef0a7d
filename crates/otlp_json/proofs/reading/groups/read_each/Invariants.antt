use Rattle.std.proofs.Common.{length}
use Rattle.json_nodes.specs.Lents.{elements_left}
use Rattle.json_members.proofs.ElementLaws.{ElementsSoFar}
use Rattle.otlp_json.specs.Group.{IsRemarkedGroup, group_offends}
use Rattle.otlp_json.proofs.reading.groups.read_each.Given as goal

abbrev pub invariant-elements : goal.invariant-elements
invariant-elements l =
    ElementsSoFar IsRemarkedGroup group_offends (elements_left l.fn.elements) (elements_left l.rest) l.unit l.groups

abbrev pub decreases-elements : goal.decreases-elements
decreases-elements l = length (elements_left l.rest)
