use Rattle.std.proofs.Common.{◌≡◌, take}
use Rattle.trace_model.proofs.value.+copies.Given as goal

abbrev pub invariant-attrs_copy-pairs : goal.invariant-attrs_copy-pairs
invariant-attrs_copy-pairs l = l.copies ≡ take l.pair-index l.attributes

abbrev pub invariant-members_copy-members : goal.invariant-members_copy-members
invariant-members_copy-members l = l.copies ≡ take l.member-index l.members
