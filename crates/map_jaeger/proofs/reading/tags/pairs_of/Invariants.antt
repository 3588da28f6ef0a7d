use Rattle.std.proofs.Common.{◌≡◌, ◌++◌, map}
use Rattle.map_jaeger.specs.TagValues.{attribute_of}
use Rattle.map_jaeger.proofs.reading.tags.pairs_of.Given as goal

abbrev pub invariant-tags : goal.invariant-tags
invariant-tags l = l.pairs.items ++ map attribute_of l.tag-iterator.rest.items ≡ map attribute_of l.fn.tags
