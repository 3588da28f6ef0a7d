use Rattle.std.proofs.Common.{rules}
use Rattle.json_members.proofs.WritingLaws.{seq, stop, exits_written}
use Rattle.otlp_json.proofs.writing.values.number_value.Goals as goal

pub returns-in_err-open_object : goal.returns-in_err-open_object
returns-in_err-open_object c = exits_written _ c.in_err-open_object.field-0.0 _ _ _ _ (search rules) (stop _ _ _ _ _ c.in_err-open_object.ensures)

pub returns-in_err-signed_member : goal.returns-in_err-signed_member
returns-in_err-signed_member c = exits_written _ c.in_err-signed_member.field-0.0 _ _ _ _ (search rules) (seq _ _ _ _ _ _ c.in_ok-open_object.ensures (stop _ _ _ _ _ c.in_err-signed_member.ensures))

pub returns : goal.returns
returns c = seq _ _ _ _ _ _ c.in_ok-open_object.ensures (seq _ _ _ _ _ _ c.in_ok-signed_member.ensures (c.close_object.ensures))
