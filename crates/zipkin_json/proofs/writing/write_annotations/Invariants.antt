use Rattle.std.proofs.Common.{take, Ok}
use Rattle.span_io.specs.declared.halt.OutOfMemory.{OutOfMemory}
use Rattle.json_members.specs.Writing.{Appends}
use Rattle.json_members.specs.private.Pieces.{pieces}
use Rattle.zipkin_json.specs.private.Writing.{annotation_piece}
use Rattle.zipkin_json.proofs.writing.write_annotations.Given as goal

abbrev pub invariant-annotations : goal.invariant-annotations
invariant-annotations l = record { written : Appends {E = OutOfMemory} (Ok tt) l.initial.out l.out (pieces annotation_piece (take l.annotation-index l.list)) }
