use Rattle.std.proofs.Common.{take, Ok}
use Rattle.span_io.specs.declared.halt.OutOfMemory.{OutOfMemory}
use Rattle.json_members.specs.Writing.{Appends}
use Rattle.json_members.specs.private.Pieces.{pieces}
use Rattle.zipkin_json.specs.private.Writing.{tag_piece}
use Rattle.zipkin_json.proofs.writing.write_tags.Given as goal

abbrev pub invariant-tags : goal.invariant-tags
invariant-tags l = record { written : Appends {E = OutOfMemory} (Ok tt) l.initial.out l.out (pieces tag_piece (take l.tag-index l.tags)) }
