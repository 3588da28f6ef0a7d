use Rattle.std.proofs.Common.{◌+◌, ◌≤◌, length}
use Rattle.json_nodes.specs.Lents.{elements_left}
use Rattle.otlp_json.proofs.reading.lists.room_for.Given as goal

abbrev pub invariant-elements : goal.invariant-elements
invariant-elements l = l.room + length (elements_left l.rest) ≤ length (elements_left l.fn.elements)

abbrev pub decreases-elements : goal.decreases-elements
decreases-elements l = length (elements_left l.rest)
