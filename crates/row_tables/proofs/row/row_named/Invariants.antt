use Rattle.std.proofs.Common.{◌≡◌, length, false}
use denote.Text.{Utf8}
use denote.Shadow.{shadow}
use Rattle.std.specs.List.{find}
use Rattle.std.specs.Str.{bytes_eq}
use Rattle.row_tables.specs.Parts.{is_newline, parts_of}
use Rattle.row_tables.specs.Rows.{rows_of, rows_in}
use Rattle.row_tables.proofs.row.row_named.Given as goal

abbrev pub invariant-rows : goal.invariant-rows
invariant-rows l = record {
  utf8 : shadow (Utf8 l.rest);
  found : find (λ told. bytes_eq told.0 l.name) (rows_of l.table) ≡ find (λ told. bytes_eq told.0 l.name) (rows_in false (parts_of is_newline l.rest));
}

abbrev pub decreases-rows : goal.decreases-rows
decreases-rows l = length l.rest
