use Rattle.std.proofs.Common.{rules}
use Rattle.json_members.proofs.WritingLaws.{seq, stop, exits_written}
use Rattle.otlp_json.proofs.WritingLemmas.{span_written}
use Rattle.otlp_json.proofs.writing.spans.SpanElement.write.Goals as goal

pub returns-in_err-open_object : goal.returns-in_err-open_object
returns-in_err-open_object c = span_written _ _ _ c.args.self.now (exits_written _ c.in_err-open_object.field-0.0 _ _ _ _ (search rules) (stop _ _ _ _ _ c.in_err-open_object.ensures))

pub returns-in_err-write_members_1_to_4 : goal.returns-in_err-write_members_1_to_4
returns-in_err-write_members_1_to_4 c = span_written _ _ _ c.args.self.now (exits_written _ c.in_err-write_members_1_to_4.field-0.0 _ _ _ _ (search rules) (seq _ _ _ _ _ _ c.in_ok-open_object.ensures (stop _ _ _ _ _ c.in_err-write_members_1_to_4.ensures)))

pub returns-in_err-write_members_5_to_8 : goal.returns-in_err-write_members_5_to_8
returns-in_err-write_members_5_to_8 c = span_written _ _ _ c.args.self.now (exits_written _ c.in_err-write_members_5_to_8.field-0.0 _ _ _ _ (search rules) (seq _ _ _ _ _ _ c.in_ok-open_object.ensures (seq _ _ _ _ _ _ c.in_ok-write_members_1_to_4.ensures (stop _ _ _ _ _ c.in_err-write_members_5_to_8.ensures))))

pub returns-in_err-write_members_9_to_12 : goal.returns-in_err-write_members_9_to_12
returns-in_err-write_members_9_to_12 c = span_written _ _ _ c.args.self.now (exits_written _ c.in_err-write_members_9_to_12.field-0.0 _ _ _ _ (search rules) (seq _ _ _ _ _ _ c.in_ok-open_object.ensures (seq _ _ _ _ _ _ c.in_ok-write_members_1_to_4.ensures (seq _ _ _ _ _ _ c.in_ok-write_members_5_to_8.ensures (stop _ _ _ _ _ c.in_err-write_members_9_to_12.ensures)))))

pub returns-in_err-write_members_13_to_16 : goal.returns-in_err-write_members_13_to_16
returns-in_err-write_members_13_to_16 c = span_written _ _ _ c.args.self.now (exits_written _ c.in_err-write_members_13_to_16.field-0.0 _ _ _ _ (search rules) (seq _ _ _ _ _ _ c.in_ok-open_object.ensures (seq _ _ _ _ _ _ c.in_ok-write_members_1_to_4.ensures (seq _ _ _ _ _ _ c.in_ok-write_members_5_to_8.ensures (seq _ _ _ _ _ _ c.in_ok-write_members_9_to_12.ensures (stop _ _ _ _ _ c.in_err-write_members_13_to_16.ensures))))))

pub returns : goal.returns
returns c = span_written _ _ _ c.args.self.now (seq _ _ _ _ _ _ c.in_ok-open_object.ensures (seq _ _ _ _ _ _ c.in_ok-write_members_1_to_4.ensures (seq _ _ _ _ _ _ c.in_ok-write_members_5_to_8.ensures (seq _ _ _ _ _ _ c.in_ok-write_members_9_to_12.ensures (seq _ _ _ _ _ _ c.in_ok-write_members_13_to_16.ensures (c.close_object.ensures))))))
