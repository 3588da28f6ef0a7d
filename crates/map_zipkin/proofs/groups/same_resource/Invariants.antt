use Rattle.std.proofs.Common.{◌≡◌, drop}
use Rattle.map_zipkin.specs.Regrouped.{same_resource}
use Rattle.map_zipkin.proofs.groups.same_resource.Given as goal

abbrev pub invariant-pairs : goal.invariant-pairs
invariant-pairs l = same_resource (drop l.i l.resource) (drop l.i l.other) ≡ same_resource l.resource l.other
