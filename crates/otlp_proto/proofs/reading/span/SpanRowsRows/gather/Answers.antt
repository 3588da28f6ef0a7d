use Rattle.std.proofs.Common.{◌≡◌, rules, sym, subst}
use Rattle.span_io.specs.Offences.{HereOrInside, Judges}
use Rattle.span_io.specs.Tables.{table_here, table_inside}
use Rattle.proto_wire.specs.Records.{varint, bytes, Record, plain_record}
use Rattle.otlp_proto.specs.Span.{span_table}
use Rattle.span_io.proofs.GatheringLaws.{judged_at, refused_at, judged_inside_at}
use Rattle.otlp_proto.proofs.reading.span.SpanRowsRows.gather.Goals as goal

pub returns-in_err-trace_id_row-in-1-clause-judged : goal.returns-in_err-trace_id_row-in-1-clause-judged
returns-in_err-trace_id_row-in-1-clause-judged c = λ first seen gathered.
    refused_at span_table seen (plain_record c.args.found.now) (record { number = 1; held = bytes c.in-Bytes.held.now }) (search rules) (λ p m h. h) c.in_err-trace_id_row-in-1.field-0.0
    (c.in_err-trace_id_row-in-1.ensures.judged _ gathered.trace) c.from_residual.result c.from_residual.ensures.1

pub returns-in_err-span_id_row-in-2-clause-judged : goal.returns-in_err-span_id_row-in-2-clause-judged
returns-in_err-span_id_row-in-2-clause-judged c = λ first seen gathered.
    refused_at span_table seen (plain_record c.args.found.now) (record { number = 2; held = bytes c.in-Bytes.held.now }) (search rules) (λ p m h. h) c.in_err-span_id_row-in-2.field-0.0
    (c.in_err-span_id_row-in-2.ensures.judged _ gathered.id) c.from_residual-in_err-span_id_row-in-2.result c.from_residual-in_err-span_id_row-in-2.ensures.1

pub returns-in_err-span_id_row-in-4-clause-judged : goal.returns-in_err-span_id_row-in-4-clause-judged
returns-in_err-span_id_row-in-4-clause-judged c = λ first seen gathered.
    refused_at span_table seen (plain_record c.args.found.now) (record { number = 4; held = bytes c.in-Bytes.held.now }) (search rules) (λ p m h. h) c.in_err-span_id_row-in-4.field-0.0
    (c.in_err-span_id_row-in-4.ensures.judged _ gathered.parent) c.from_residual-in_err-span_id_row-in-4.result c.from_residual-in_err-span_id_row-in-4.ensures.1

pub returns-in_err-kind_row-in-6-clause-judged : goal.returns-in_err-kind_row-in-6-clause-judged
returns-in_err-kind_row-in-6-clause-judged c = λ first seen gathered.
    refused_at span_table seen (plain_record c.args.found.now) (record { number = 6; held = varint c.in-Varint.n }) (search rules) (λ p m h. h) c.in_err-kind_row-in-6.field-0.0
    (c.in_err-kind_row-in-6.ensures.judged _ gathered.kind) c.from_residual-in_err-kind_row-in-6.result c.from_residual-in_err-kind_row-in-6.ensures.1

pub returns-in-3-clause-judged : goal.returns-in-3-clause-judged
returns-in-3-clause-judged c = λ first seen gathered.
    judged_at span_table seen (plain_record c.args.found.now) (record { number = 3; held = bytes c.in-Bytes.held.now }) (search rules) (λ p m h. h) c.text_row.result (c.text_row.ensures.judged _ gathered.state)

pub returns-in-5-clause-judged : goal.returns-in-5-clause-judged
returns-in-5-clause-judged c = λ first seen gathered.
    judged_at span_table seen (plain_record c.args.found.now) (record { number = 5; held = bytes c.in-Bytes.held.now }) (search rules) (λ p m h. h) c.text_row-in-5.result (c.text_row-in-5.ensures.judged _ gathered.name)

pub returns-in-9-clause-judged : goal.returns-in-9-clause-judged
returns-in-9-clause-judged c = λ first seen gathered.
    judged_inside_at span_table seen (plain_record c.args.found.now) (record { number = 9; held = bytes c.in-Bytes.held.now }) (search rules) (λ m h. h) c.add.result c.add.ensures.judged

pub returns-in-11-clause-judged : goal.returns-in-11-clause-judged
returns-in-11-clause-judged c = λ first seen gathered.
    judged_inside_at span_table seen (plain_record c.args.found.now) (record { number = 11; held = bytes c.in-Bytes.held.now }) (search rules) (λ m h. h) c.add-in-11.result c.add-in-11.ensures.judged

pub returns-in-13-clause-judged : goal.returns-in-13-clause-judged
returns-in-13-clause-judged c = λ first seen gathered.
    judged_inside_at span_table seen (plain_record c.args.found.now) (record { number = 13; held = bytes c.in-Bytes.held.now }) (search rules) (λ m h. h) c.add-in-13.result c.add-in-13.ensures.judged

pub returns-in-15-clause-judged : goal.returns-in-15-clause-judged
returns-in-15-clause-judged c = λ first seen gathered.
    let e : plain_record c.args.found.now ≡ record { number = 15; held = bytes c.in-Bytes.held.now } = search rules in
    subst (λ (r : Record). Judges c.status_row.result (HereOrInside (table_here span_table seen r) (table_inside span_table r))) (sym e) (c.status_row.ensures.judged _ gathered.status)
