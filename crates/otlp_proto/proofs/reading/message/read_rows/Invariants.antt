use Rattle.std.proofs.Common.{length}
use Rattle.span_io.specs.Tables.{rules_by}
use Rattle.span_io.proofs.GatheringLaws.{Seen}
use Rattle.proto_wire.specs.Messages.{messages}
use Rattle.otlp_proto.proofs.NumberingLemmas.{CountsSoFar}
use Rattle.otlp_proto.proofs.reading.message.read_rows.Given as goal

abbrev pub invariant-records : goal.invariant-records
invariant-records g l =
    Seen messages (rules_by g.R.Rows.table g.R.Rows.ends) (g.R.Rows.gathered l.fn.first l.rows) l.bytes l.cursor.rest × CountsSoFar (length l.bytes) (length l.cursor.rest) (g.R.Rows.counts l.fn.first) (g.R.Rows.counts l.rows)

abbrev pub decreases-records : goal.decreases-records
decreases-records g l = length l.cursor.rest
