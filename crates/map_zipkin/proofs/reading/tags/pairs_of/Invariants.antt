use Rattle.std.proofs.Common.{◌≡◌, ◌++◌, map}
use Rattle.map_zipkin.specs.Reading.{pair_of}
use Rattle.map_zipkin.proofs.reading.tags.pairs_of.Given as goal

abbrev pub invariant-tags : goal.invariant-tags
invariant-tags l = l.pairs ++ map pair_of l.tag-iterator.rest.items ≡ map pair_of l.fn.tags
