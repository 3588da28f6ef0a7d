use Rattle.std.proofs.Common.{◌≡◌, ◌++◌, drop}
use Rattle.map_zipkin.specs.Writing.{resource_pairs}
use Rattle.map_zipkin.proofs.writing.shared.add_resource.Given as goal

abbrev pub invariant-attributes : goal.invariant-attributes
invariant-attributes l = l.pairs ++ resource_pairs (drop l.pair-index l.resource) ≡ l.initial.pairs ++ resource_pairs l.resource
