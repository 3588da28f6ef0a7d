use Rattle.std.proofs.Common.{◌≡◌, true}
use Rattle.std.specs.List.{AllWithin, list_any}
use Rattle.std.specs.Str.{bytes_eq}
use Rattle.row_tables.specs.Rows.{key_of}
use Rattle.row_tables.proofs.row.Row.expect_keys.Given as goal

abbrev pub invariant-loop-field : goal.invariant-loop-field
invariant-loop-field l = AllWithin (λ field. list_any (λ key. bytes_eq key.now (key_of field)) l.known ≡ true) l.self.fields.items 0 l.field-index
