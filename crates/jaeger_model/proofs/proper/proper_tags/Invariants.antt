use Rattle.std.proofs.Common.{All, take}
use Rattle.jaeger_model.specs.Proper.{IsProperTag}
use Rattle.jaeger_model.proofs.proper.proper_tags.Given as goal

abbrev pub invariant-tags : goal.invariant-tags
invariant-tags l = All IsProperTag (take l.tag-index l.tags)
