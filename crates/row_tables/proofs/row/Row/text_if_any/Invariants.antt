use Rattle.std.proofs.Common.{◌≡◌, take}
use Rattle.std.specs.List.{filter_map}
use Rattle.std.specs.Option.{option_copied, option_to_list}
use Rattle.row_tables.specs.Rows.{text_under}
use Rattle.row_tables.proofs.row.Row.text_if_any.Given as goal

abbrev pub invariant-loop-field : goal.invariant-loop-field
invariant-loop-field l = filter_map (text_under l.key) (take l.field-index l.self.fields.items) ≡ option_to_list (option_copied l.found)
