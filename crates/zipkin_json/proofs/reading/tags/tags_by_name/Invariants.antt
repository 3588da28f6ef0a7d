use Rattle.zipkin_json.proofs.TagLemmas.{TagsSoFar}
use Rattle.zipkin_json.specs.private.Tags.{pairs_in}
use Rattle.zipkin_json.proofs.reading.tags.tags_by_name.Given as goal

abbrev pub invariant-tags : goal.invariant-tags
invariant-tags l = TagsSoFar (pairs_in l.named.entries) (pairs_in l.key-iterator) l.tags
