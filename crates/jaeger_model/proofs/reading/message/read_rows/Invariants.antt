use Rattle.std.proofs.Common.{length}
use Rattle.span_io.specs.Tables.{rules_by}
use Rattle.jaeger_model.proofs.MessageReading.{Walking}
use Rattle.jaeger_model.proofs.reading.message.read_rows.Given as goal

abbrev pub invariant-fields : goal.invariant-fields
invariant-fields g l =
    Walking g.P.Parts.spells l.fn.left (rules_by (g.R.Rows.table l.fn.left) g.R.Rows.ends) (g.R.Rows.gathered l.fn.left l.fn.first l.rows) l.fn.c.rest l.c.rest l.last

abbrev pub decreases-fields : goal.decreases-fields
decreases-fields g l = length l.c.rest
