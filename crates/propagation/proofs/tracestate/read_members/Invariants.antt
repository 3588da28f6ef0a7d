use Rattle.std.proofs.Common.{length, take}
use Rattle.std.specs.List.{slice_split}
use Rattle.propagation.specs.Tracestate.{AreStateMembers}
use Rattle.propagation.proofs.PieceLemmas.{is_comma, ListsPieces}
use Rattle.propagation.proofs.tracestate.read_members.Given as goal

abbrev pub invariant-pieces : goal.invariant-pieces
invariant-pieces l =
    (goal.iterator-pieces).can_next l.piece-iterator
    × (goal.iterator-pieces).is_finite l.piece-iterator
    × ListsPieces (take (length l.yielded) (slice_split is_comma l.value)) l.members.items
    × AreStateMembers l.members.items
