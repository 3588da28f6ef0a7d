use Rattle.std.proofs.Common.{◌≡◌, false, take}
use Rattle.std.specs.List.{list_any}
use Rattle.map_zipkin.specs.Keys.{is_zipkin_reserved}
use Rattle.map_zipkin.proofs.keys.may_hold_reserved.Given as goal

abbrev pub invariant-tags : goal.invariant-tags
invariant-tags l = list_any (λ tag. is_zipkin_reserved tag.0) (take l.tag-index l.tags) ≡ false
