use Rattle.std.proofs.Common.{rules}
use Rattle.json_members.proofs.WritingLaws.{seq, stop, exits_written}
use Rattle.zipkin_json.proofs.writing.write_annotation.Goals as goal

pub returns-in_err-open_object : goal.returns-in_err-open_object
returns-in_err-open_object c = exits_written _ c.in_err-open_object.field-0.0 _ _ _ _ (search rules) (stop _ _ _ _ _ c.in_err-open_object.ensures)

pub returns-in_err-micros_member : goal.returns-in_err-micros_member
returns-in_err-micros_member c = exits_written _ c.in_err-micros_member.field-0.0 _ _ _ _ (search rules) (seq _ _ _ _ _ _ c.in_ok-open_object.ensures (stop _ _ _ _ _ c.in_err-micros_member.ensures))

pub returns-in_err-own_text_member : goal.returns-in_err-own_text_member
returns-in_err-own_text_member c = exits_written _ c.in_err-own_text_member.field-0.0 _ _ _ _ (search rules) (seq _ _ _ _ _ _ c.in_ok-open_object.ensures (seq _ _ _ _ _ _ c.in_ok-micros_member.ensures (stop _ _ _ _ _ c.in_err-own_text_member.ensures)))

pub returns-in_err-close_object : goal.returns-in_err-close_object
returns-in_err-close_object c = exits_written _ c.in_err-close_object.field-0.0 _ _ _ _ (search rules) (seq _ _ _ _ _ _ c.in_ok-open_object.ensures (seq _ _ _ _ _ _ c.in_ok-micros_member.ensures (seq _ _ _ _ _ _ c.in_ok-own_text_member.ensures c.in_err-close_object.ensures)))
