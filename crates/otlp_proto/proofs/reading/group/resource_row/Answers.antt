use Rattle.otlp_proto.specs.Group.{IsResource, resource_rules}
use Rattle.otlp_proto.specs.Rows.{MeansMessage}
use Rattle.otlp_proto.proofs.MessageReading.{row_set, row_refused}
use Rattle.otlp_proto.proofs.reading.group.resource_row.Goals as goal

pub returns-in_err-read_resource-clause-judged : goal.returns-in_err-read_resource-clause-judged
returns-in_err-read_resource-clause-judged c =
    let answered = c.from_residual-in_err-read_resource in
    row_refused (MeansMessage IsResource) resource_rules c.args.row.now c.args.held.now c.in_ok-once.ensures.ok _ c.in_err-read_resource.ensures.judged answered.result answered.ensures.1

pub returns-clause-judged : goal.returns-clause-judged
returns-clause-judged c = row_set (MeansMessage IsResource) resource_rules c.args.row.now c.args.held.now c.in_ok-once.ensures.ok c.in_ok-read_resource.ensures.judged
