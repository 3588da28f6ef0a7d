use Rattle.std.proofs.Common.{◌≤◌, [], length}
use Rattle.propagation.specs.private.HeaderLines.{HeadersThen}
use Rattle.propagation.proofs.lines.first_header.Given as goal

abbrev pub invariant-lines : goal.invariant-lines
invariant-lines l = record { empty_so_far : HeadersThen l.text [] l.rest; nearer : length l.rest ≤ length l.text }

abbrev pub decreases-lines : goal.decreases-lines
decreases-lines l = length l.rest
