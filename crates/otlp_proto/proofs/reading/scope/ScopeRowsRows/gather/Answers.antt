use Rattle.std.proofs.Common.{◌≡◌, rules, sym, subst}
use Rattle.span_io.specs.Offences.{HereOrInside, Judges}
use Rattle.span_io.specs.Tables.{table_here, table_inside}
use Rattle.proto_wire.specs.Records.{Record, bytes, plain_record}
use Rattle.otlp_proto.specs.Scope.{scope_table}
use Rattle.span_io.proofs.GatheringLaws.{judged_at, judged_inside_at}
use Rattle.otlp_proto.proofs.reading.scope.ScopeRowsRows.gather.Goals as goal

pub returns-in-1-clause-judged : goal.returns-in-1-clause-judged
returns-in-1-clause-judged c = λ first seen gathered.
    let e : plain_record c.args.found.now ≡ record { number = 1; held = bytes c.in-Bytes.held.now } = search rules in
    subst (λ (r : Record). Judges c.instrumentation_row.result (HereOrInside (table_here scope_table seen r) (table_inside scope_table r))) (sym e) (c.instrumentation_row.ensures.judged _ gathered.instrumentation)

pub returns-in-2-clause-judged : goal.returns-in-2-clause-judged
returns-in-2-clause-judged c = λ first seen gathered.
    judged_inside_at scope_table seen (plain_record c.args.found.now) (record { number = 2; held = bytes c.in-Bytes.held.now }) (search rules) (λ m h. h) c.add.result c.add.ensures.judged

pub returns-in-3-clause-judged : goal.returns-in-3-clause-judged
returns-in-3-clause-judged c = λ first seen gathered.
    judged_at scope_table seen (plain_record c.args.found.now) (record { number = 3; held = bytes c.in-Bytes.held.now }) (search rules) (λ p m h. h) c.text_row.result (c.text_row.ensures.judged _ gathered.schema_url)
