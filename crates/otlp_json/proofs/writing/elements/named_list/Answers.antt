use Rattle.std.proofs.Common.{rules}
use Rattle.json_members.proofs.WritingLaws.{seq, stop, exits_written}
use Rattle.otlp_json.proofs.writing.elements.named_list.Goals as goal

pub returns-in_err-open_list : goal.returns-in_err-open_list
returns-in_err-open_list g c = exits_written _ c.in_err-open_list.field-0.0 _ _ _ _ (search rules) (stop _ _ _ _ _ c.in_err-open_list.ensures)

pub returns-in_err-write_elements : goal.returns-in_err-write_elements
returns-in_err-write_elements g c = exits_written _ c.in_err-write_elements.field-0.0 _ _ _ _ (search rules) (seq _ _ _ _ _ _ c.in_ok-open_list.ensures (stop _ _ _ _ _ c.in_err-write_elements.ensures))

pub returns : goal.returns
returns g c = seq _ _ _ _ _ _ c.in_ok-open_list.ensures (seq _ _ _ _ _ _ c.in_ok-write_elements.ensures (c.close_array.ensures))
