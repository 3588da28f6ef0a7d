use Rattle.std.proofs.Common.{rules}
use Rattle.zipkin_json.specs.private.Writing.{tag_piece}
use Rattle.json_members.proofs.WritingLaws.{goes_on, stops, exits_written}
use Rattle.zipkin_json.proofs.writing.write_tags.Goals as goal

pub returns-in_err-whole_text_member : goal.returns-in_err-whole_text_member
returns-in_err-whole_text_member c =
    exits_written _ c.in_err-whole_text_member.field-0.0 _ _ _ _ (search rules)
    (stops tag_piece c.args.tags.now c.tags.tag-index c.tag-item.result c.tags-test.true c.tag-item.is _ _ _ _ c.tags.invariant.written
    (rw (← c.as_str.ensures.value, ← c.as_str-in-tags.ensures.value) c.in_err-whole_text_member.ensures))

pub tags-preserved : goal.tags-preserved
tags-preserved c = record {
  written = goes_on tag_piece c.args.tags.now c.tags.tag-index c.tag-item.result c.tags-test.true c.tag-item.is _ _ _ c.tags.invariant.written
      (rw (← c.as_str.ensures.value, ← c.as_str-in-tags.ensures.value) c.in_ok-whole_text_member.ensures);
}
