use Rattle.std.proofs.Common.{rules}
use Rattle.json_members.proofs.WritingLaws.{seq, stop, exits_written, landed}
use Rattle.zipkin_json.proofs.writing.write_members.Goals as goal

pub returns-in_err-open_object : goal.returns-in_err-open_object
returns-in_err-open_object c = exits_written _ c.in_err-open_object.field-0.0 _ _ _ _ (search rules) (stop _ _ _ _ _ c.in_err-open_object.ensures)

pub returns-in_err-annotations_member : goal.returns-in_err-annotations_member
returns-in_err-annotations_member c = exits_written _ c.in_err-annotations_member.field-0.0 _ _ _ _ (search rules) (seq _ _ _ _ _ _ c.in_ok-open_object.ensures (stop _ _ _ _ _ (rw c.as_slice.ensures at c.in_err-annotations_member.ensures)))

pub returns-in_err-truth_member : goal.returns-in_err-truth_member
returns-in_err-truth_member c = exits_written _ c.in_err-truth_member.field-0.0 _ _ _ _ (search rules) (seq _ _ _ _ _ _ c.in_ok-open_object.ensures (seq _ _ _ _ _ _ (rw c.as_slice.ensures at c.in_ok-annotations_member.ensures) (stop _ _ _ _ _ c.in_err-truth_member.ensures)))

pub returns-in_err-length_member : goal.returns-in_err-length_member
returns-in_err-length_member c = exits_written _ c.in_err-length_member.field-0.0 _ _ _ _ (search rules) (seq _ _ _ _ _ _ c.in_ok-open_object.ensures (seq _ _ _ _ _ _ (rw c.as_slice.ensures at c.in_ok-annotations_member.ensures) (seq _ _ _ _ _ _ c.in_ok-truth_member.ensures (stop _ _ _ _ _ c.in_err-length_member.ensures))))

pub returns-in_err-id_member : goal.returns-in_err-id_member
returns-in_err-id_member c = exits_written _ c.in_err-id_member.field-0.0 _ _ _ _ (search rules) (seq _ _ _ _ _ _ c.in_ok-open_object.ensures (seq _ _ _ _ _ _ (rw c.as_slice.ensures at c.in_ok-annotations_member.ensures) (seq _ _ _ _ _ _ c.in_ok-truth_member.ensures (seq _ _ _ _ _ _ c.in_ok-length_member.ensures (stop _ _ _ _ _ c.in_err-id_member.ensures)))))

pub returns-in_err-kind_member : goal.returns-in_err-kind_member
returns-in_err-kind_member c = exits_written _ c.in_err-kind_member.field-0.0 _ _ _ _ (search rules) (seq _ _ _ _ _ _ c.in_ok-open_object.ensures (seq _ _ _ _ _ _ (rw c.as_slice.ensures at c.in_ok-annotations_member.ensures) (seq _ _ _ _ _ _ c.in_ok-truth_member.ensures (seq _ _ _ _ _ _ c.in_ok-length_member.ensures (seq _ _ _ _ _ _ c.in_ok-id_member.ensures (stop _ _ _ _ _ c.in_err-kind_member.ensures))))))

pub returns-in_err-endpoint_member : goal.returns-in_err-endpoint_member
returns-in_err-endpoint_member c = exits_written _ c.in_err-endpoint_member.field-0.0 _ _ _ _ (search rules) (seq _ _ _ _ _ _ c.in_ok-open_object.ensures (seq _ _ _ _ _ _ (rw c.as_slice.ensures at c.in_ok-annotations_member.ensures) (seq _ _ _ _ _ _ c.in_ok-truth_member.ensures (seq _ _ _ _ _ _ c.in_ok-length_member.ensures (seq _ _ _ _ _ _ c.in_ok-id_member.ensures (seq _ _ _ _ _ _ c.in_ok-kind_member.ensures (stop _ _ _ _ _ c.in_err-endpoint_member.ensures)))))))

pub returns-in_err-given_text_member : goal.returns-in_err-given_text_member
returns-in_err-given_text_member c = exits_written _ c.in_err-given_text_member.field-0.0 _ _ _ _ (search rules) (seq _ _ _ _ _ _ c.in_ok-open_object.ensures (seq _ _ _ _ _ _ (rw c.as_slice.ensures at c.in_ok-annotations_member.ensures) (seq _ _ _ _ _ _ c.in_ok-truth_member.ensures (seq _ _ _ _ _ _ c.in_ok-length_member.ensures (seq _ _ _ _ _ _ c.in_ok-id_member.ensures (seq _ _ _ _ _ _ c.in_ok-kind_member.ensures (seq _ _ _ _ _ _ c.in_ok-endpoint_member.ensures (stop _ _ _ _ _ c.in_err-given_text_member.ensures))))))))

pub returns-in_err-parent_member : goal.returns-in_err-parent_member
returns-in_err-parent_member c = exits_written _ c.in_err-parent_member.field-0.0 _ _ _ _ (search rules) (seq _ _ _ _ _ _ c.in_ok-open_object.ensures (seq _ _ _ _ _ _ (rw c.as_slice.ensures at c.in_ok-annotations_member.ensures) (seq _ _ _ _ _ _ c.in_ok-truth_member.ensures (seq _ _ _ _ _ _ c.in_ok-length_member.ensures (seq _ _ _ _ _ _ c.in_ok-id_member.ensures (seq _ _ _ _ _ _ c.in_ok-kind_member.ensures (seq _ _ _ _ _ _ c.in_ok-endpoint_member.ensures (seq _ _ _ _ _ _ c.in_ok-given_text_member.ensures (stop _ _ _ _ _ c.in_err-parent_member.ensures)))))))))

pub returns-in_err-endpoint_member-2 : goal.returns-in_err-endpoint_member-2
returns-in_err-endpoint_member-2 c = exits_written _ c.in_err-endpoint_member-2.field-0.0 _ _ _ _ (search rules) (seq _ _ _ _ _ _ c.in_ok-open_object.ensures (seq _ _ _ _ _ _ (rw c.as_slice.ensures at c.in_ok-annotations_member.ensures) (seq _ _ _ _ _ _ c.in_ok-truth_member.ensures (seq _ _ _ _ _ _ c.in_ok-length_member.ensures (seq _ _ _ _ _ _ c.in_ok-id_member.ensures (seq _ _ _ _ _ _ c.in_ok-kind_member.ensures (seq _ _ _ _ _ _ c.in_ok-endpoint_member.ensures (seq _ _ _ _ _ _ c.in_ok-given_text_member.ensures (seq _ _ _ _ _ _ c.in_ok-parent_member.ensures (stop _ _ _ _ _ c.in_err-endpoint_member-2.ensures))))))))))

pub returns-in_err-truth_member-2 : goal.returns-in_err-truth_member-2
returns-in_err-truth_member-2 c = exits_written _ c.in_err-truth_member-2.field-0.0 _ _ _ _ (search rules) (seq _ _ _ _ _ _ c.in_ok-open_object.ensures (seq _ _ _ _ _ _ (rw c.as_slice.ensures at c.in_ok-annotations_member.ensures) (seq _ _ _ _ _ _ c.in_ok-truth_member.ensures (seq _ _ _ _ _ _ c.in_ok-length_member.ensures (seq _ _ _ _ _ _ c.in_ok-id_member.ensures (seq _ _ _ _ _ _ c.in_ok-kind_member.ensures (seq _ _ _ _ _ _ c.in_ok-endpoint_member.ensures (seq _ _ _ _ _ _ c.in_ok-given_text_member.ensures (seq _ _ _ _ _ _ c.in_ok-parent_member.ensures (seq _ _ _ _ _ _ c.in_ok-endpoint_member-2.ensures (stop _ _ _ _ _ c.in_err-truth_member-2.ensures)))))))))))

pub returns-in_err-tags_member : goal.returns-in_err-tags_member
returns-in_err-tags_member c = exits_written _ c.in_err-tags_member.field-0.0 _ _ _ _ (search rules) (seq _ _ _ _ _ _ c.in_ok-open_object.ensures (seq _ _ _ _ _ _ (rw c.as_slice.ensures at c.in_ok-annotations_member.ensures) (seq _ _ _ _ _ _ c.in_ok-truth_member.ensures (seq _ _ _ _ _ _ c.in_ok-length_member.ensures (seq _ _ _ _ _ _ c.in_ok-id_member.ensures (seq _ _ _ _ _ _ c.in_ok-kind_member.ensures (seq _ _ _ _ _ _ c.in_ok-endpoint_member.ensures (seq _ _ _ _ _ _ c.in_ok-given_text_member.ensures (seq _ _ _ _ _ _ c.in_ok-parent_member.ensures (seq _ _ _ _ _ _ c.in_ok-endpoint_member-2.ensures (seq _ _ _ _ _ _ c.in_ok-truth_member-2.ensures (stop _ _ _ _ _ (rw c.as_slice-2.ensures at c.in_err-tags_member.ensures)))))))))))))

pub returns-in_err-time_member : goal.returns-in_err-time_member
returns-in_err-time_member c = exits_written _ c.in_err-time_member.field-0.0 _ _ _ _ (search rules) (seq _ _ _ _ _ _ c.in_ok-open_object.ensures (seq _ _ _ _ _ _ (rw c.as_slice.ensures at c.in_ok-annotations_member.ensures) (seq _ _ _ _ _ _ c.in_ok-truth_member.ensures (seq _ _ _ _ _ _ c.in_ok-length_member.ensures (seq _ _ _ _ _ _ c.in_ok-id_member.ensures (seq _ _ _ _ _ _ c.in_ok-kind_member.ensures (seq _ _ _ _ _ _ c.in_ok-endpoint_member.ensures (seq _ _ _ _ _ _ c.in_ok-given_text_member.ensures (seq _ _ _ _ _ _ c.in_ok-parent_member.ensures (seq _ _ _ _ _ _ c.in_ok-endpoint_member-2.ensures (seq _ _ _ _ _ _ c.in_ok-truth_member-2.ensures (seq _ _ _ _ _ _ (rw c.as_slice-2.ensures at c.in_ok-tags_member.ensures) (stop _ _ _ _ _ c.in_err-time_member.ensures)))))))))))))

pub returns-in_err-trace_member : goal.returns-in_err-trace_member
returns-in_err-trace_member c = exits_written _ c.in_err-trace_member.field-0.0 _ _ _ _ (search rules) (seq _ _ _ _ _ _ c.in_ok-open_object.ensures (seq _ _ _ _ _ _ (rw c.as_slice.ensures at c.in_ok-annotations_member.ensures) (seq _ _ _ _ _ _ c.in_ok-truth_member.ensures (seq _ _ _ _ _ _ c.in_ok-length_member.ensures (seq _ _ _ _ _ _ c.in_ok-id_member.ensures (seq _ _ _ _ _ _ c.in_ok-kind_member.ensures (seq _ _ _ _ _ _ c.in_ok-endpoint_member.ensures (seq _ _ _ _ _ _ c.in_ok-given_text_member.ensures (seq _ _ _ _ _ _ c.in_ok-parent_member.ensures (seq _ _ _ _ _ _ c.in_ok-endpoint_member-2.ensures (seq _ _ _ _ _ _ c.in_ok-truth_member-2.ensures (seq _ _ _ _ _ _ (rw c.as_slice-2.ensures at c.in_ok-tags_member.ensures) (seq _ _ _ _ _ _ c.in_ok-time_member.ensures (stop _ _ _ _ _ c.in_err-trace_member.ensures))))))))))))))

pub returns-in_err-close_object : goal.returns-in_err-close_object
returns-in_err-close_object c = exits_written _ c.in_err-close_object.field-0.0 _ _ _ _ (search rules) (seq _ _ _ _ _ _ c.in_ok-open_object.ensures (seq _ _ _ _ _ _ (rw c.as_slice.ensures at c.in_ok-annotations_member.ensures) (seq _ _ _ _ _ _ c.in_ok-truth_member.ensures (seq _ _ _ _ _ _ c.in_ok-length_member.ensures (seq _ _ _ _ _ _ c.in_ok-id_member.ensures (seq _ _ _ _ _ _ c.in_ok-kind_member.ensures (seq _ _ _ _ _ _ c.in_ok-endpoint_member.ensures (seq _ _ _ _ _ _ c.in_ok-given_text_member.ensures (seq _ _ _ _ _ _ c.in_ok-parent_member.ensures (seq _ _ _ _ _ _ c.in_ok-endpoint_member-2.ensures (seq _ _ _ _ _ _ c.in_ok-truth_member-2.ensures (seq _ _ _ _ _ _ (rw c.as_slice-2.ensures at c.in_ok-tags_member.ensures) (seq _ _ _ _ _ _ c.in_ok-time_member.ensures (seq _ _ _ _ _ _ c.in_ok-trace_member.ensures c.in_err-close_object.ensures))))))))))))))

pub returns : goal.returns
returns c = landed _ _ _ _ (seq _ _ _ _ _ _ c.in_ok-open_object.ensures (seq _ _ _ _ _ _ (rw c.as_slice.ensures at c.in_ok-annotations_member.ensures) (seq _ _ _ _ _ _ c.in_ok-truth_member.ensures (seq _ _ _ _ _ _ c.in_ok-length_member.ensures (seq _ _ _ _ _ _ c.in_ok-id_member.ensures (seq _ _ _ _ _ _ c.in_ok-kind_member.ensures (seq _ _ _ _ _ _ c.in_ok-endpoint_member.ensures (seq _ _ _ _ _ _ c.in_ok-given_text_member.ensures (seq _ _ _ _ _ _ c.in_ok-parent_member.ensures (seq _ _ _ _ _ _ c.in_ok-endpoint_member-2.ensures (seq _ _ _ _ _ _ c.in_ok-truth_member-2.ensures (seq _ _ _ _ _ _ (rw c.as_slice-2.ensures at c.in_ok-tags_member.ensures) (seq _ _ _ _ _ _ c.in_ok-time_member.ensures (seq _ _ _ _ _ _ c.in_ok-trace_member.ensures c.in_ok-close_object.ensures))))))))))))))
