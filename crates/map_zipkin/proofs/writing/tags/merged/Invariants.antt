use Rattle.std.proofs.Common.{◌≡◌, ◌++◌, false, map}
use Rattle.trace_model.specs.Attributes.{Rise, attrs, keys}
use Rattle.trace_model.specs.EventTexts.{holds_double}
use Rattle.map_zipkin.specs.Writing.{told_pairs, zipkin_tag_of}
use Rattle.map_zipkin.proofs.writing.tags.merged.Given as goal

abbrev pub invariant-attributes : goal.invariant-attributes
invariant-attributes l = record {
  written : l.tags ++ map zipkin_tag_of (attrs (l.rows ++ told_pairs l.pair-iterator.rest.items)) ≡ map zipkin_tag_of (attrs (l.fn.rows ++ told_pairs l.fn.attributes));
  rising : Rise (keys l.rows);
  rows : holds_double l.rows ≡ false;
  in_order : Rise (keys (told_pairs l.pair-iterator.rest.items));
  plain : holds_double l.pair-iterator.rest.items ≡ false;
}
