use Rattle.span_tags.proofs.PlacedRows.{NotBefore}
use Rattle.span_tags.proofs.placed_rows.place_of.Given as goal

abbrev pub invariant-pairs : goal.invariant-pairs
invariant-pairs l = NotBefore l.key l.i l.pairs
