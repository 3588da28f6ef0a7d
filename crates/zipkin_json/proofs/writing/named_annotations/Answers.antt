use Rattle.std.proofs.Common.{rules}
use Rattle.json_members.proofs.WritingLaws.{seq, stop, exits_written}
use Rattle.zipkin_json.proofs.writing.named_annotations.Goals as goal

pub returns-in_err-name_of : goal.returns-in_err-name_of
returns-in_err-name_of c = exits_written _ c.in_err-name_of.field-0.0 _ _ _ _ (search rules) (stop _ _ _ _ _ c.in_err-name_of.ensures)

pub returns-in_err-open_array : goal.returns-in_err-open_array
returns-in_err-open_array c = exits_written _ c.in_err-open_array.field-0.0 _ _ _ _ (search rules) (seq _ _ _ _ _ _ c.in_ok-name_of.ensures (stop _ _ _ _ _ c.in_err-open_array.ensures))

pub returns-in_err-write_annotations : goal.returns-in_err-write_annotations
returns-in_err-write_annotations c = exits_written _ c.in_err-write_annotations.field-0.0 _ _ _ _ (search rules) (seq _ _ _ _ _ _ c.in_ok-name_of.ensures (seq _ _ _ _ _ _ c.in_ok-open_array.ensures (stop _ _ _ _ _ c.in_err-write_annotations.ensures)))

pub returns-in_err-close_array : goal.returns-in_err-close_array
returns-in_err-close_array c = exits_written _ c.in_err-close_array.field-0.0 _ _ _ _ (search rules) (seq _ _ _ _ _ _ c.in_ok-name_of.ensures (seq _ _ _ _ _ _ c.in_ok-open_array.ensures (seq _ _ _ _ _ _ c.in_ok-write_annotations.ensures c.in_err-close_array.ensures)))
