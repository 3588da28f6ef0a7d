use Rattle.std.proofs.Common.{rules}
use Rattle.proto_wire.specs.Records.{bytes, plain_record}
use Rattle.otlp_proto.specs.Scope.{instrumentation_scope_table}
use Rattle.span_io.proofs.GatheringLaws.{judged_at, judged_inside_at}
use Rattle.otlp_proto.proofs.reading.instrumentation_scope.InstrumentationScopeRowsRows.gather.Goals as goal

pub returns-in-1-clause-judged : goal.returns-in-1-clause-judged
returns-in-1-clause-judged c = λ first seen gathered.
    judged_at instrumentation_scope_table seen (plain_record c.args.found.now) (record { number = 1; held = bytes c.in-Bytes.held.now }) (search rules) (λ p m h. h) c.text_row.result (c.text_row.ensures.judged _ gathered.name)

pub returns-in-2-clause-judged : goal.returns-in-2-clause-judged
returns-in-2-clause-judged c = λ first seen gathered.
    judged_at instrumentation_scope_table seen (plain_record c.args.found.now) (record { number = 2; held = bytes c.in-Bytes.held.now }) (search rules) (λ p m h. h) c.text_row-in-2.result (c.text_row-in-2.ensures.judged _ gathered.version)

pub returns-in-3-clause-judged : goal.returns-in-3-clause-judged
returns-in-3-clause-judged c = λ first seen gathered.
    judged_inside_at instrumentation_scope_table seen (plain_record c.args.found.now) (record { number = 3; held = bytes c.in-Bytes.held.now }) (search rules) (λ m h. h) c.add.result c.add.ensures.judged
