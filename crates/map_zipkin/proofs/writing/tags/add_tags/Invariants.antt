use Rattle.std.proofs.Common.{◌≡◌, ◌++◌, drop, map}
use Rattle.map_zipkin.specs.Writing.{zipkin_tag_of}
use Rattle.map_zipkin.proofs.writing.tags.add_tags.Given as goal

abbrev pub invariant-rows : goal.invariant-rows
invariant-rows l = l.tags ++ map zipkin_tag_of (drop l.row-index l.rows) ≡ l.initial.tags ++ map zipkin_tag_of l.rows
