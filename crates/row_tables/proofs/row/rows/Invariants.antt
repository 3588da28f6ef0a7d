use Rattle.std.proofs.Common.{◌≡◌, ◌++◌, length, map, false}
use denote.Text.{Utf8}
use denote.Shadow.{shadow}
use Rattle.row_tables.specs.Parts.{is_newline, parts_of}
use Rattle.row_tables.specs.Rows.{told_of, rows_of, rows_in}
use Rattle.row_tables.proofs.row.rows.Given as goal

abbrev pub invariant-rows : goal.invariant-rows
invariant-rows l = record {
  utf8 : shadow (Utf8 l.rest);
  rows : rows_of l.table ≡ map told_of l.rows.items ++ rows_in false (parts_of is_newline l.rest);
}

abbrev pub decreases-rows : goal.decreases-rows
decreases-rows l = length l.rest
