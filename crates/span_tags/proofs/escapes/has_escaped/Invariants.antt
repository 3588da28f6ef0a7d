use Rattle.std.proofs.Common.{◌≡◌, false, take}
use Rattle.std.specs.List.{list_any}
use Rattle.span_tags.specs.Escapes.{is_escaped}
use Rattle.span_tags.proofs.escapes.has_escaped.Given as goal

abbrev pub invariant-tags : goal.invariant-tags
invariant-tags g l = list_any (λ pair. is_escaped g.R.Reserves.reserved pair.0) (take l.pair-index l.tags) ≡ false
