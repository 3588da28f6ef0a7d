use Rattle.std.proofs.Common.{rules}
use Rattle.json_members.proofs.WritingLaws.{seq, stop, exits_written}
use Rattle.otlp_json.proofs.writing.parts.LinkElement.write.Goals as goal

pub returns-in_err-open_object : goal.returns-in_err-open_object
returns-in_err-open_object c = exits_written _ c.in_err-open_object.field-0.0 _ _ _ _ (search rules) (stop _ _ _ _ _ c.in_err-open_object.ensures)

pub returns-in_err-attributes_member : goal.returns-in_err-attributes_member
returns-in_err-attributes_member c = exits_written _ c.in_err-attributes_member.field-0.0 _ _ _ _ (search rules) (seq _ _ _ _ _ _ c.in_ok-open_object.ensures (stop _ _ _ _ _ c.in_err-attributes_member.ensures))

pub returns-in_err-number_member : goal.returns-in_err-number_member
returns-in_err-number_member c = exits_written _ c.in_err-number_member.field-0.0 _ _ _ _ (search rules) (seq _ _ _ _ _ _ c.in_ok-open_object.ensures (seq _ _ _ _ _ _ c.in_ok-attributes_member.ensures (stop _ _ _ _ _ c.in_err-number_member.ensures)))

pub returns-in_err-number_member-2 : goal.returns-in_err-number_member-2
returns-in_err-number_member-2 c = exits_written _ c.in_err-number_member-2.field-0.0 _ _ _ _ (search rules) (seq _ _ _ _ _ _ c.in_ok-open_object.ensures (seq _ _ _ _ _ _ c.in_ok-attributes_member.ensures (seq _ _ _ _ _ _ c.in_ok-number_member.ensures (stop _ _ _ _ _ c.in_err-number_member-2.ensures))))

pub returns-in_err-id_member : goal.returns-in_err-id_member
returns-in_err-id_member c = exits_written _ c.in_err-id_member.field-0.0 _ _ _ _ (search rules) (seq _ _ _ _ _ _ c.in_ok-open_object.ensures (seq _ _ _ _ _ _ c.in_ok-attributes_member.ensures (seq _ _ _ _ _ _ c.in_ok-number_member.ensures (seq _ _ _ _ _ _ c.in_ok-number_member-2.ensures (stop _ _ _ _ _ c.in_err-id_member.ensures)))))

pub returns-in_err-trace_member : goal.returns-in_err-trace_member
returns-in_err-trace_member c = exits_written _ c.in_err-trace_member.field-0.0 _ _ _ _ (search rules) (seq _ _ _ _ _ _ c.in_ok-open_object.ensures (seq _ _ _ _ _ _ c.in_ok-attributes_member.ensures (seq _ _ _ _ _ _ c.in_ok-number_member.ensures (seq _ _ _ _ _ _ c.in_ok-number_member-2.ensures (seq _ _ _ _ _ _ c.in_ok-id_member.ensures (stop _ _ _ _ _ c.in_err-trace_member.ensures))))))

pub returns-in_err-given_text_member : goal.returns-in_err-given_text_member
returns-in_err-given_text_member c = exits_written _ c.in_err-given_text_member.field-0.0 _ _ _ _ (search rules) (seq _ _ _ _ _ _ c.in_ok-open_object.ensures (seq _ _ _ _ _ _ c.in_ok-attributes_member.ensures (seq _ _ _ _ _ _ c.in_ok-number_member.ensures (seq _ _ _ _ _ _ c.in_ok-number_member-2.ensures (seq _ _ _ _ _ _ c.in_ok-id_member.ensures (seq _ _ _ _ _ _ c.in_ok-trace_member.ensures (stop _ _ _ _ _ c.in_err-given_text_member.ensures)))))))

pub returns : goal.returns
returns c = seq _ _ _ _ _ _ c.in_ok-open_object.ensures (seq _ _ _ _ _ _ c.in_ok-attributes_member.ensures (seq _ _ _ _ _ _ c.in_ok-number_member.ensures (seq _ _ _ _ _ _ c.in_ok-number_member-2.ensures (seq _ _ _ _ _ _ c.in_ok-id_member.ensures (seq _ _ _ _ _ _ c.in_ok-trace_member.ensures (seq _ _ _ _ _ _ c.in_ok-given_text_member.ensures (c.close_object.ensures)))))))
