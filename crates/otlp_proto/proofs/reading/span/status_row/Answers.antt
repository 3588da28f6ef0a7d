use Rattle.otlp_proto.specs.Rows.{MeansMessage}
use Rattle.otlp_proto.specs.Status.{IsStatus, status_rules}
use Rattle.otlp_proto.proofs.MessageReading.{row_set, row_refused}
use Rattle.otlp_proto.proofs.reading.span.status_row.Goals as goal

pub returns-in_err-read_status-clause-judged : goal.returns-in_err-read_status-clause-judged
returns-in_err-read_status-clause-judged c =
    let answered = c.from_residual-in_err-read_status in
    row_refused (MeansMessage IsStatus) status_rules c.args.row.now c.args.held.now c.in_ok-once.ensures.ok _ c.in_err-read_status.ensures.judged answered.result answered.ensures.1

pub returns-clause-judged : goal.returns-clause-judged
returns-clause-judged c = row_set (MeansMessage IsStatus) status_rules c.args.row.now c.args.held.now c.in_ok-once.ensures.ok c.in_ok-read_status.ensures.judged
