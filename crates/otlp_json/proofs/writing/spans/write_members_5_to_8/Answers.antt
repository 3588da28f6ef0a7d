use Rattle.std.proofs.Common.{rules}
use Rattle.json_members.proofs.WritingLaws.{seq, stop, exits_written, nothing_written}
use Rattle.otlp_json.proofs.writing.spans.write_members_5_to_8.Goals as goal

pub returns-in_err-time_member : goal.returns-in_err-time_member
returns-in_err-time_member c = exits_written _ c.in_err-time_member.field-0.0 _ _ _ _ (search rules) (stop _ _ _ _ _ c.in_err-time_member.ensures)

pub returns-in_err-list_member : goal.returns-in_err-list_member
returns-in_err-list_member c = exits_written _ c.in_err-list_member.field-0.0 _ _ _ _ (search rules) (seq _ _ _ _ _ _ c.in_ok-time_member.ensures (stop _ _ _ _ _ c.in_err-list_member.ensures))

pub returns-in_err-number_member : goal.returns-in_err-number_member
returns-in_err-number_member c = exits_written _ c.in_err-number_member.field-0.0 _ _ _ _ (search rules) (seq _ _ _ _ _ _ c.in_ok-time_member.ensures (seq _ _ _ _ _ _ c.in_ok-list_member.ensures (stop _ _ _ _ _ c.in_err-number_member.ensures)))

pub returns-in_err-number_member-2 : goal.returns-in_err-number_member-2
returns-in_err-number_member-2 c = exits_written _ c.in_err-number_member-2.field-0.0 _ _ _ _ (search rules) (seq _ _ _ _ _ _ c.in_ok-time_member.ensures (seq _ _ _ _ _ _ c.in_ok-list_member.ensures (seq _ _ _ _ _ _ c.in_ok-number_member.ensures (stop _ _ _ _ _ (rw c.number.ensures at c.in_err-number_member-2.ensures)))))

pub returns : goal.returns
returns c = seq _ _ _ _ _ _ c.in_ok-time_member.ensures (seq _ _ _ _ _ _ c.in_ok-list_member.ensures (seq _ _ _ _ _ _ c.in_ok-number_member.ensures (seq _ _ _ _ _ _ (rw c.number.ensures at c.in_ok-number_member-2.ensures) (nothing_written _))))
