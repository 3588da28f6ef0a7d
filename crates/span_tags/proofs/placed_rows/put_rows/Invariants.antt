use Rattle.std.proofs.Common.{vec_len}
use Rattle.span_tags.proofs.PlacedRows.{SoFar}
use Rattle.span_tags.proofs.placed_rows.put_rows.Given as goal

abbrev pub invariant-rows : goal.invariant-rows
invariant-rows l = SoFar l.fn.rows.items l.rows.items l.initial.pairs.items l.pairs.items

abbrev pub decreases-rows : goal.decreases-rows
decreases-rows l = vec_len l.rows
