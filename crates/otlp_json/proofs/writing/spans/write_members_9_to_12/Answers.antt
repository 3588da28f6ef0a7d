use Rattle.std.proofs.Common.{rules}
use Rattle.json_members.proofs.WritingLaws.{seq, stop, exits_written, nothing_written}
use Rattle.otlp_json.proofs.writing.spans.write_members_9_to_12.Goals as goal

pub returns-in_err-list_member : goal.returns-in_err-list_member
returns-in_err-list_member c = exits_written _ c.in_err-list_member.field-0.0 _ _ _ _ (search rules) (stop _ _ _ _ _ c.in_err-list_member.ensures)

pub returns-in_err-given_text_member : goal.returns-in_err-given_text_member
returns-in_err-given_text_member c = exits_written _ c.in_err-given_text_member.field-0.0 _ _ _ _ (search rules) (seq _ _ _ _ _ _ c.in_ok-list_member.ensures (stop _ _ _ _ _ c.in_err-given_text_member.ensures))

pub returns-in_err-parent_member : goal.returns-in_err-parent_member
returns-in_err-parent_member c = exits_written _ c.in_err-parent_member.field-0.0 _ _ _ _ (search rules) (seq _ _ _ _ _ _ c.in_ok-list_member.ensures (seq _ _ _ _ _ _ c.in_ok-given_text_member.ensures (stop _ _ _ _ _ c.in_err-parent_member.ensures)))

pub returns-in_err-id_member : goal.returns-in_err-id_member
returns-in_err-id_member c = exits_written _ c.in_err-id_member.field-0.0 _ _ _ _ (search rules) (seq _ _ _ _ _ _ c.in_ok-list_member.ensures (seq _ _ _ _ _ _ c.in_ok-given_text_member.ensures (seq _ _ _ _ _ _ c.in_ok-parent_member.ensures (stop _ _ _ _ _ c.in_err-id_member.ensures))))

pub returns : goal.returns
returns c = seq _ _ _ _ _ _ c.in_ok-list_member.ensures (seq _ _ _ _ _ _ c.in_ok-given_text_member.ensures (seq _ _ _ _ _ _ c.in_ok-parent_member.ensures (seq _ _ _ _ _ _ c.in_ok-id_member.ensures (nothing_written _))))
