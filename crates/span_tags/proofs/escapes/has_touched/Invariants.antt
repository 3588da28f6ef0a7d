use Rattle.std.proofs.Common.{◌≡◌, false, take}
use Rattle.std.specs.List.{list_any}
use Rattle.span_tags.specs.Escapes.{is_touched}
use Rattle.span_tags.proofs.escapes.has_touched.Given as goal

abbrev pub invariant-attributes : goal.invariant-attributes
invariant-attributes g l = list_any (λ pair. is_touched g.R.Reserves.reserved pair.0) (take l.pair-index l.attributes) ≡ false
