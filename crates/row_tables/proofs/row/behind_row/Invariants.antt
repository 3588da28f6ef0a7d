use Rattle.std.proofs.Common.{◌≡◌, ◌≤◌, length, true}
use denote.Text.{Utf8}
use denote.Shadow.{shadow}
use Rattle.row_tables.specs.Parts.{is_newline, parts_of}
use Rattle.row_tables.specs.Rows.{rows_in}
use Rattle.row_tables.proofs.row.behind_row.Given as goal

abbrev pub invariant-lines : goal.invariant-lines
invariant-lines l = record {
  utf8 : shadow (Utf8 l.rest);
  rows : rows_in true (parts_of is_newline l.text) ≡ rows_in true (parts_of is_newline l.rest);
  nearer : length l.rest ≤ length l.text;
}

abbrev pub decreases-lines : goal.decreases-lines
decreases-lines l = length l.rest
