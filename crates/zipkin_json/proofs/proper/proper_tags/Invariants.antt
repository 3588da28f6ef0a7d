use Rattle.std.proofs.Common.{All, take}
use Rattle.zipkin_json.specs.Proper.{IsProperZTag}
use Rattle.zipkin_json.proofs.proper.proper_tags.Given as goal

abbrev pub invariant-tags : goal.invariant-tags
invariant-tags l = All IsProperZTag (take l.tag-index l.tags)
