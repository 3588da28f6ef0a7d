use Rattle.std.proofs.Common.{◌≡◌, [], length}
use denote.Text.{Utf8}
use denote.Shadow.{shadow}
use Rattle.row_tables.specs.Parts.{is_newline, parts_of}
use Rattle.row_tables.specs.Rows.{name_of, fields_of, pairs_of, with_lines}
use Rattle.row_tables.proofs.row.Row.read.Given as goal

abbrev pub invariant-lines : goal.invariant-lines
invariant-lines l = record {
  utf8 : shadow (Utf8 l.rest);
  name : name_of l.row ≡ l.name;
  pairs : with_lines [] (parts_of is_newline l.text) ≡ with_lines (pairs_of (fields_of l.row)) (parts_of is_newline l.rest);
}

abbrev pub decreases-lines : goal.decreases-lines
decreases-lines l = length l.rest
