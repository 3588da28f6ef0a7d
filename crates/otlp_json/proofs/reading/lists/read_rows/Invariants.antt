use Rattle.std.proofs.Common.{length}
use Rattle.json_nodes.specs.Lents.{elements_left}
use Rattle.otlp_json.proofs.ListLemmas.{RowsPassed}
use Rattle.otlp_json.proofs.reading.lists.read_rows.Given as goal

abbrev pub invariant-elements : goal.invariant-elements
invariant-elements g l =
    RowsPassed g.R.Rows.means (g.R.Rows.told l.number) g.R.Rows.offends (g.R.Rows.first l.number) (elements_left l.fn.elements)
    (g.R.Rows.next l.number l.rows) l.rows (elements_left l.rest)

abbrev pub decreases-elements : goal.decreases-elements
decreases-elements g l = length (elements_left l.rest)
