use Rattle.std.proofs.Common.{◌≡◌, ◌+◌, ◌*◌, All, length}
use Rattle.serde_json.specs.View.{items_of}
use Rattle.json_nodes.specs.Lents.{elements_left, named_members}
use Rattle.trace_model.specs.EventReading.{IsRead, values_within, pairs_within}
use Rattle.trace_model.specs.Proper.{IsProperPair}
use Rattle.trace_model.specs.Values.{MapsRise}
use Rattle.trace_model.proofs.EventRows.{behind}
use Rattle.trace_model.proofs.event_reading.+reads.Given as goal

-- Each function is measured by the levels that are left, and within a level by the calls between it and `value_of`.
abbrev pub decreases-value_of : goal.decreases-value_of
decreases-value_of l = 6 * l.left + 1

abbrev pub decreases-held_of : goal.decreases-held_of
decreases-held_of l = 6 * l.left

abbrev pub decreases-list_of : goal.decreases-list_of
decreases-list_of l = 6 * l.left + 2

abbrev pub decreases-pairs_by_name : goal.decreases-pairs_by_name
decreases-pairs_by_name l = 6 * l.left + 2

abbrev pub decreases-pairs_of : goal.decreases-pairs_of
decreases-pairs_of l = 6 * l.left + 3

abbrev pub decreases-map_of : goal.decreases-map_of
decreases-map_of l = 6 * l.left + 4

abbrev pub decreases-list_of-elements : goal.decreases-list_of-elements
decreases-list_of-elements l = length (elements_left l.rest)

abbrev pub invariant-list_of-elements : goal.invariant-list_of-elements
invariant-list_of-elements l = record {
  read : values_within l.left (items_of (elements_left l.fn.elements)) ≡ behind l.list (values_within l.left (items_of (elements_left l.rest)));
  all : All IsRead l.list;
}

abbrev pub invariant-pairs_by_name-members : goal.invariant-pairs_by_name-members
invariant-pairs_by_name-members l = record {
  read : pairs_within l.left (named_members l.named.entries) ≡ behind l.pairs (pairs_within l.left (named_members l.key-iterator));
  rising : All (λ pair. MapsRise pair.1) l.pairs;
  proper : All IsProperPair l.pairs;
}
