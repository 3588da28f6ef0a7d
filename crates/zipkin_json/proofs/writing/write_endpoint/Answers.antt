use Rattle.std.proofs.Common.{rules}
use Rattle.json_members.proofs.WritingLaws.{seq, stop, exits_written, landed}
use Rattle.zipkin_json.proofs.writing.write_endpoint.Goals as goal

pub returns-in_err-open_object : goal.returns-in_err-open_object
returns-in_err-open_object c = exits_written _ c.in_err-open_object.field-0.0 _ _ _ _ (search rules) (stop _ _ _ _ _ c.in_err-open_object.ensures)

pub returns-in_err-given_text_member : goal.returns-in_err-given_text_member
returns-in_err-given_text_member c = exits_written _ c.in_err-given_text_member.field-0.0 _ _ _ _ (search rules) (seq _ _ _ _ _ _ c.in_ok-open_object.ensures (stop _ _ _ _ _ c.in_err-given_text_member.ensures))

pub returns-in_err-given_text_member-2 : goal.returns-in_err-given_text_member-2
returns-in_err-given_text_member-2 c = exits_written _ c.in_err-given_text_member-2.field-0.0 _ _ _ _ (search rules) (seq _ _ _ _ _ _ c.in_ok-open_object.ensures (seq _ _ _ _ _ _ c.in_ok-given_text_member.ensures (stop _ _ _ _ _ c.in_err-given_text_member-2.ensures)))

pub returns-in_err-port_member : goal.returns-in_err-port_member
returns-in_err-port_member c = exits_written _ c.in_err-port_member.field-0.0 _ _ _ _ (search rules) (seq _ _ _ _ _ _ c.in_ok-open_object.ensures (seq _ _ _ _ _ _ c.in_ok-given_text_member.ensures (seq _ _ _ _ _ _ c.in_ok-given_text_member-2.ensures (stop _ _ _ _ _ c.in_err-port_member.ensures))))

pub returns-in_err-given_text_member-3 : goal.returns-in_err-given_text_member-3
returns-in_err-given_text_member-3 c = exits_written _ c.in_err-given_text_member-3.field-0.0 _ _ _ _ (search rules) (seq _ _ _ _ _ _ c.in_ok-open_object.ensures (seq _ _ _ _ _ _ c.in_ok-given_text_member.ensures (seq _ _ _ _ _ _ c.in_ok-given_text_member-2.ensures (seq _ _ _ _ _ _ c.in_ok-port_member.ensures (stop _ _ _ _ _ c.in_err-given_text_member-3.ensures)))))

pub returns-in_err-close_object : goal.returns-in_err-close_object
returns-in_err-close_object c = exits_written _ c.in_err-close_object.field-0.0 _ _ _ _ (search rules) (seq _ _ _ _ _ _ c.in_ok-open_object.ensures (seq _ _ _ _ _ _ c.in_ok-given_text_member.ensures (seq _ _ _ _ _ _ c.in_ok-given_text_member-2.ensures (seq _ _ _ _ _ _ c.in_ok-port_member.ensures (seq _ _ _ _ _ _ c.in_ok-given_text_member-3.ensures c.in_err-close_object.ensures)))))

pub returns : goal.returns
returns c = landed _ _ _ _ (seq _ _ _ _ _ _ c.in_ok-open_object.ensures (seq _ _ _ _ _ _ c.in_ok-given_text_member.ensures (seq _ _ _ _ _ _ c.in_ok-given_text_member-2.ensures (seq _ _ _ _ _ _ c.in_ok-port_member.ensures (seq _ _ _ _ _ _ c.in_ok-given_text_member-3.ensures c.in_ok-close_object.ensures)))))
