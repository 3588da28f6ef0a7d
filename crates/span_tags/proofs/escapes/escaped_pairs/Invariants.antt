use Rattle.std.proofs.Common.{◌≡◌, ◌++◌}
use Rattle.span_tags.specs.Escapes.{esc, rekeyed}
use Rattle.span_tags.proofs.escapes.escaped_pairs.Given as goal

abbrev pub invariant-attributes : goal.invariant-attributes
invariant-attributes g l =
    l.pairs.items ++ rekeyed (esc g.R.Reserves.reserved) l.pair-iterator.rest.items ≡ rekeyed (esc g.R.Reserves.reserved) l.fn.attributes
