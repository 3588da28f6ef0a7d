use Rattle.otlp_proto.specs.Rows.{MeansMessage}
use Rattle.otlp_proto.specs.Scope.{IsInstrumentationScope, instrumentation_scope_rules}
use Rattle.otlp_proto.proofs.MessageReading.{row_set, row_refused}
use Rattle.otlp_proto.proofs.reading.scope.instrumentation_row.Goals as goal

pub returns-in_err-read_instrumentation_scope-clause-judged : goal.returns-in_err-read_instrumentation_scope-clause-judged
returns-in_err-read_instrumentation_scope-clause-judged c =
    let answered = c.from_residual-in_err-read_instrumentation_scope in
    row_refused (MeansMessage IsInstrumentationScope) instrumentation_scope_rules c.args.row.now c.args.held.now c.in_ok-once.ensures.ok _ c.in_err-read_instrumentation_scope.ensures.judged answered.result answered.ensures.1

pub returns-clause-judged : goal.returns-clause-judged
returns-clause-judged c = row_set (MeansMessage IsInstrumentationScope) instrumentation_scope_rules c.args.row.now c.args.held.now c.in_ok-once.ensures.ok c.in_ok-read_instrumentation_scope.ensures.judged
