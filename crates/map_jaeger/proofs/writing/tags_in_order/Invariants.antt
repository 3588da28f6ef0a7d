use Rattle.std.proofs.Common.{◌≡◌, ◌++◌, false, map}
use Rattle.map_jaeger.specs.LeastFault.{doubles_inside}
use Rattle.map_jaeger.specs.TagValues.{tag_of}
use Rattle.map_jaeger.proofs.writing.tags_in_order.Given as goal

abbrev pub invariant-pairs : goal.invariant-pairs
invariant-pairs l = record {
  written : l.tags ++ map tag_of l.pair-iterator.rest.items ≡ map tag_of l.fn.pairs.items;
  plain : doubles_inside l.pair-iterator.rest.items ≡ false;
}
