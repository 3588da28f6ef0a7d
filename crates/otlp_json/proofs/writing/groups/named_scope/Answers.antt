use Rattle.std.proofs.Common.{rules}
use Rattle.json_members.proofs.WritingLaws.{seq, stop, exits_written}
use Rattle.otlp_json.proofs.writing.groups.named_scope.Goals as goal

pub returns-in_err-name_of : goal.returns-in_err-name_of
returns-in_err-name_of c = exits_written _ c.in_err-name_of.field-0.0 _ _ _ _ (search rules) (stop _ _ _ _ _ c.in_err-name_of.ensures)

pub returns-in_err-open_object : goal.returns-in_err-open_object
returns-in_err-open_object c = exits_written _ c.in_err-open_object.field-0.0 _ _ _ _ (search rules) (seq _ _ _ _ _ _ c.in_ok-name_of.ensures (stop _ _ _ _ _ c.in_err-open_object.ensures))

pub returns-in_err-attributes_member : goal.returns-in_err-attributes_member
returns-in_err-attributes_member c = exits_written _ c.in_err-attributes_member.field-0.0 _ _ _ _ (search rules) (seq _ _ _ _ _ _ c.in_ok-name_of.ensures (seq _ _ _ _ _ _ c.in_ok-open_object.ensures (stop _ _ _ _ _ c.in_err-attributes_member.ensures)))

pub returns-in_err-number_member : goal.returns-in_err-number_member
returns-in_err-number_member c = exits_written _ c.in_err-number_member.field-0.0 _ _ _ _ (search rules) (seq _ _ _ _ _ _ c.in_ok-name_of.ensures (seq _ _ _ _ _ _ c.in_ok-open_object.ensures (seq _ _ _ _ _ _ c.in_ok-attributes_member.ensures (stop _ _ _ _ _ c.in_err-number_member.ensures))))

pub returns-in_err-given_text_member : goal.returns-in_err-given_text_member
returns-in_err-given_text_member c = exits_written _ c.in_err-given_text_member.field-0.0 _ _ _ _ (search rules) (seq _ _ _ _ _ _ c.in_ok-name_of.ensures (seq _ _ _ _ _ _ c.in_ok-open_object.ensures (seq _ _ _ _ _ _ c.in_ok-attributes_member.ensures (seq _ _ _ _ _ _ c.in_ok-number_member.ensures (stop _ _ _ _ _ c.in_err-given_text_member.ensures)))))

pub returns-in_err-given_text_member-2 : goal.returns-in_err-given_text_member-2
returns-in_err-given_text_member-2 c = exits_written _ c.in_err-given_text_member-2.field-0.0 _ _ _ _ (search rules) (seq _ _ _ _ _ _ c.in_ok-name_of.ensures (seq _ _ _ _ _ _ c.in_ok-open_object.ensures (seq _ _ _ _ _ _ c.in_ok-attributes_member.ensures (seq _ _ _ _ _ _ c.in_ok-number_member.ensures (seq _ _ _ _ _ _ c.in_ok-given_text_member.ensures (stop _ _ _ _ _ c.in_err-given_text_member-2.ensures))))))

pub returns : goal.returns
returns c = seq _ _ _ _ _ _ c.in_ok-name_of.ensures (seq _ _ _ _ _ _ c.in_ok-open_object.ensures (seq _ _ _ _ _ _ c.in_ok-attributes_member.ensures (seq _ _ _ _ _ _ c.in_ok-number_member.ensures (seq _ _ _ _ _ _ c.in_ok-given_text_member.ensures (seq _ _ _ _ _ _ c.in_ok-given_text_member-2.ensures (c.close_object.ensures))))))
