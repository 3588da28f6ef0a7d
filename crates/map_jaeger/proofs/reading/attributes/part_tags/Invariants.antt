use Rattle.std.proofs.Common.{◌≡◌, ◌≤◌, ◌++◌, ◌-◌, length, take, drop}
use Rattle.span_io.specs.Sizes.{IsShort}
use Rattle.map_jaeger.specs.private.ReadColumns.{own_tags, free_tags}
use Rattle.map_jaeger.proofs.reading.attributes.part_tags.Given as goal

abbrev pub invariant-tags : goal.invariant-tags
invariant-tags l = record {
  inside : l.i ≤ length l.left.items;
  short : IsShort l.left.items;
  own : l.own ++ own_tags (drop l.i l.left.items) ≡ own_tags l.fn.tags;
  free : take l.i l.left.items ++ free_tags (drop l.i l.left.items) ≡ free_tags l.fn.tags;
}

abbrev pub decreases-tags : goal.decreases-tags
decreases-tags l = length l.left.items - l.i
