use Rattle.std.proofs.Common.{rules}
use Rattle.json_members.proofs.WritingLaws.{seq, stop, exits_written, nothing_written}
use Rattle.otlp_json.proofs.writing.spans.write_members_13_to_16.Goals as goal

pub returns-in_err-time_member : goal.returns-in_err-time_member
returns-in_err-time_member c = exits_written _ c.in_err-time_member.field-0.0 _ _ _ _ (search rules) (stop _ _ _ _ _ c.in_err-time_member.ensures)

pub returns-in_err-status_member : goal.returns-in_err-status_member
returns-in_err-status_member c = exits_written _ c.in_err-status_member.field-0.0 _ _ _ _ (search rules) (seq _ _ _ _ _ _ c.in_ok-time_member.ensures (stop _ _ _ _ _ c.in_err-status_member.ensures))

pub returns-in_err-trace_member : goal.returns-in_err-trace_member
returns-in_err-trace_member c = exits_written _ c.in_err-trace_member.field-0.0 _ _ _ _ (search rules) (seq _ _ _ _ _ _ c.in_ok-time_member.ensures (seq _ _ _ _ _ _ c.in_ok-status_member.ensures (stop _ _ _ _ _ c.in_err-trace_member.ensures)))

pub returns-in_err-given_text_member : goal.returns-in_err-given_text_member
returns-in_err-given_text_member c = exits_written _ c.in_err-given_text_member.field-0.0 _ _ _ _ (search rules) (seq _ _ _ _ _ _ c.in_ok-time_member.ensures (seq _ _ _ _ _ _ c.in_ok-status_member.ensures (seq _ _ _ _ _ _ c.in_ok-trace_member.ensures (stop _ _ _ _ _ c.in_err-given_text_member.ensures))))

pub returns : goal.returns
returns c = seq _ _ _ _ _ _ c.in_ok-time_member.ensures (seq _ _ _ _ _ _ c.in_ok-status_member.ensures (seq _ _ _ _ _ _ c.in_ok-trace_member.ensures (seq _ _ _ _ _ _ c.in_ok-given_text_member.ensures (nothing_written _))))
