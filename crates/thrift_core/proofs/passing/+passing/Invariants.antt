use Rattle.std.proofs.Common.{◌+◌, ◌-◌, ◌*◌, pos, length}
use Rattle.thrift_core.specs.Walks.{in_struct, in_elements, in_pairs}
use Rattle.thrift_core.proofs.WalkSteps.{Within}
use Rattle.thrift_core.proofs.passing.+passing.Given as goal

-- Each function is measured by the levels that are left, and within a level by how many calls stand at most between it and those of
-- values, which go one level down.
abbrev pub decreases-pass_list : goal.decreases-pass_list
decreases-pass_list g l = 4 * l.left + 2

abbrev pub decreases-pass_map : goal.decreases-pass_map
decreases-pass_map g l = 4 * l.left + 2

abbrev pub decreases-pass_elements : goal.decreases-pass_elements
decreases-pass_elements g l = 4 * l.left + 1

abbrev pub decreases-pass_pairs : goal.decreases-pass_pairs
decreases-pass_pairs g l = 4 * l.left + 1

abbrev pub decreases-pass_struct : goal.decreases-pass_struct
decreases-pass_struct g l = 4 * l.left + 1

abbrev pub decreases-pass_value : goal.decreases-pass_value
decreases-pass_value g l = 4 * l.left

abbrev pub invariant-pass_struct-fields : goal.invariant-pass_struct-fields
invariant-pass_struct-fields g l = Within g.P.Parts.spells (in_struct l.left (pos 0)) (in_struct l.left l.last) l.initial.c l.c

abbrev pub decreases-pass_struct-fields : goal.decreases-pass_struct-fields
decreases-pass_struct-fields g l = length l.c.rest

abbrev pub invariant-pass_elements-elements : goal.invariant-pass_elements-elements
invariant-pass_elements-elements g l = Within g.P.Parts.spells (in_elements l.left l.kind l.many) (in_elements l.left l.kind (l.many - l._element)) l.initial.c l.c

abbrev pub invariant-pass_pairs-pairs : goal.invariant-pass_pairs-pairs
invariant-pass_pairs-pairs g l = Within g.P.Parts.spells (in_pairs l.left l.key l.value l.many) (in_pairs l.left l.key l.value (l.many - l._pair)) l.initial.c l.c
