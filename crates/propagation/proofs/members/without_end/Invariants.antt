use Rattle.std.proofs.Common.{◌≤◌, length, drop}
use Rattle.std.specs.Prelude.{All}
use Rattle.propagation.specs.Tracestate.{IsBlank}
use Rattle.propagation.proofs.members.without_end.Given as goal

abbrev pub invariant-blanks : goal.invariant-blanks
invariant-blanks l = (l.end ≤ length l.text) × All IsBlank (drop l.end l.text)

abbrev pub decreases-blanks : goal.decreases-blanks
decreases-blanks l = l.end
