use Rattle.std.proofs.Common.{rules}
use Rattle.zipkin_json.specs.private.Writing.{annotation_piece}
use Rattle.json_members.proofs.WritingLaws.{goes_on, stops, exits_written}
use Rattle.zipkin_json.proofs.writing.write_annotations.Goals as goal

pub returns-in_err-write_annotation : goal.returns-in_err-write_annotation
returns-in_err-write_annotation c =
    exits_written _ c.in_err-write_annotation.field-0.0 _ _ _ _ (search rules)
    (stops annotation_piece c.args.list.now c.annotations.annotation-index c.annotation-item.result c.annotations-test.true c.annotation-item.is _ _ _ _ c.annotations.invariant.written
    c.in_err-write_annotation.ensures)

pub annotations-preserved : goal.annotations-preserved
annotations-preserved c = record {
  written = goes_on annotation_piece c.args.list.now c.annotations.annotation-index c.annotation-item.result c.annotations-test.true c.annotation-item.is _ _ _ c.annotations.invariant.written
      c.in_ok-write_annotation.ensures;
}
