use Rattle.std.proofs.Common.{◌≡◌, length}
use Rattle.map_zipkin.specs.OwnColumns.{own_in}
use Rattle.map_zipkin.proofs.own.own_part.Given as goal

abbrev pub invariant-pairs : goal.invariant-pairs
invariant-pairs l = own_in l.part ≡ own_in l.attributes

abbrev pub decreases-pairs : goal.decreases-pairs
decreases-pairs l = length l.part
