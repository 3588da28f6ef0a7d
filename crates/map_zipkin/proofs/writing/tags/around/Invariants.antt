use Rattle.map_zipkin.proofs.MergedRows.{ArePast}
use Rattle.map_zipkin.proofs.writing.tags.around.Given as goal

abbrev pub invariant-rows : goal.invariant-rows
invariant-rows l = ArePast l.key l.i l.rows
