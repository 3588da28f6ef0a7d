use Rattle.std.proofs.Common.{◌+◌, ◌*◌, length}
use Rattle.json_nodes.specs.Lents.{elements_left}
use Rattle.otlp_json.specs.private.Found.{ValuesTold, PairsTold}
use Rattle.otlp_json.specs.Values.{json_value_in, json_key_value_in, inner_value_offends, inner_pair_offends}
use Rattle.otlp_json.proofs.ValueLemmas.{HeldPassed}
use Rattle.otlp_json.proofs.reading.values.+values.Given as goal

-- Each function is measured by the levels that are left, and within a level by how many calls stand at most between it and those
-- that read the elements of a list or map, which go one level down.
abbrev pub decreases-read_key_value : goal.decreases-read_key_value
decreases-read_key_value l = 8 * l.left + 7

abbrev pub decreases-read_value : goal.decreases-read_value
decreases-read_value l = 8 * l.left + 5

abbrev pub decreases-read_part : goal.decreases-read_part
decreases-read_part l = 8 * l.left + 4

abbrev pub decreases-read_list : goal.decreases-read_list
decreases-read_list l = 8 * l.left + 3

abbrev pub decreases-read_map : goal.decreases-read_map
decreases-read_map l = 8 * l.left + 3

abbrev pub decreases-value_of : goal.decreases-value_of
decreases-value_of l = 8 * l.left + 6

abbrev pub decreases-values_of : goal.decreases-values_of
decreases-values_of l = 8 * l.left + 2

abbrev pub decreases-pairs_of : goal.decreases-pairs_of
decreases-pairs_of l = 8 * l.left + 2

abbrev pub decreases-values_in : goal.decreases-values_in
decreases-values_in l = 8 * l.left + 1

abbrev pub decreases-pairs_in : goal.decreases-pairs_in
decreases-pairs_in l = 8 * l.left + 1

abbrev pub decreases-read_elements : goal.decreases-read_elements
decreases-read_elements l = 8 * l.left

abbrev pub decreases-read_pairs : goal.decreases-read_pairs
decreases-read_pairs l = 8 * l.left

abbrev pub invariant-read_elements-elements : goal.invariant-read_elements-elements
invariant-read_elements-elements l =
    HeldPassed (json_value_in l.left) ValuesTold (inner_value_offends l.left) l.left (elements_left l.fn.elements)
    (record { means = l.means; notes = l.notes }) (elements_left l.rest)

abbrev pub decreases-read_elements-elements : goal.decreases-read_elements-elements
decreases-read_elements-elements l = length (elements_left l.rest)

abbrev pub invariant-read_pairs-elements : goal.invariant-read_pairs-elements
invariant-read_pairs-elements l =
    HeldPassed (json_key_value_in l.left) PairsTold (inner_pair_offends l.left) l.left (elements_left l.fn.elements)
    (record { means = l.means; notes = l.notes }) (elements_left l.rest)

abbrev pub decreases-read_pairs-elements : goal.decreases-read_pairs-elements
decreases-read_pairs-elements l = length (elements_left l.rest)
