use Rattle.std.proofs.Common.{◌≡◌, ◌++◌}
use Rattle.span_tags.specs.Escapes.{unesc, rekeyed}
use Rattle.span_tags.proofs.escapes.unescaped_pairs.Given as goal

abbrev pub invariant-tags : goal.invariant-tags
invariant-tags g l = l.pairs.items ++ rekeyed (unesc g.R.Reserves.reserved) l.pair-iterator.rest.items ≡ rekeyed (unesc g.R.Reserves.reserved) l.fn.tags
