use Rattle.std.proofs.Common.{rules}
use Rattle.json_members.proofs.WritingLaws.{seq, stop, exits_written, nothing_written}
use Rattle.otlp_json.proofs.writing.spans.write_members_1_to_4.Goals as goal

pub returns-in_err-attributes_member : goal.returns-in_err-attributes_member
returns-in_err-attributes_member c = exits_written _ c.in_err-attributes_member.field-0.0 _ _ _ _ (search rules) (stop _ _ _ _ _ c.in_err-attributes_member.ensures)

pub returns-in_err-number_member : goal.returns-in_err-number_member
returns-in_err-number_member c = exits_written _ c.in_err-number_member.field-0.0 _ _ _ _ (search rules) (seq _ _ _ _ _ _ c.in_ok-attributes_member.ensures (stop _ _ _ _ _ c.in_err-number_member.ensures))

pub returns-in_err-number_member-2 : goal.returns-in_err-number_member-2
returns-in_err-number_member-2 c = exits_written _ c.in_err-number_member-2.field-0.0 _ _ _ _ (search rules) (seq _ _ _ _ _ _ c.in_ok-attributes_member.ensures (seq _ _ _ _ _ _ c.in_ok-number_member.ensures (stop _ _ _ _ _ c.in_err-number_member-2.ensures)))

pub returns-in_err-number_member-3 : goal.returns-in_err-number_member-3
returns-in_err-number_member-3 c = exits_written _ c.in_err-number_member-3.field-0.0 _ _ _ _ (search rules) (seq _ _ _ _ _ _ c.in_ok-attributes_member.ensures (seq _ _ _ _ _ _ c.in_ok-number_member.ensures (seq _ _ _ _ _ _ c.in_ok-number_member-2.ensures (stop _ _ _ _ _ c.in_err-number_member-3.ensures))))

pub returns : goal.returns
returns c = seq _ _ _ _ _ _ c.in_ok-attributes_member.ensures (seq _ _ _ _ _ _ c.in_ok-number_member.ensures (seq _ _ _ _ _ _ c.in_ok-number_member-2.ensures (seq _ _ _ _ _ _ c.in_ok-number_member-3.ensures (nothing_written _))))
