use Rattle.std.proofs.Common.{rules}
use Rattle.proto_wire.specs.Records.{bytes, plain_record}
use Rattle.otlp_proto.specs.Link.{link_table}
use Rattle.span_io.proofs.GatheringLaws.{judged_at, refused_at, judged_inside_at}
use Rattle.otlp_proto.proofs.reading.link.LinkRowsRows.gather.Goals as goal

pub returns-in_err-trace_id_row-in-1-clause-judged : goal.returns-in_err-trace_id_row-in-1-clause-judged
returns-in_err-trace_id_row-in-1-clause-judged c = λ first seen gathered.
    refused_at link_table seen (plain_record c.args.found.now) (record { number = 1; held = bytes c.in-Bytes.held.now }) (search rules) (λ p m h. h) c.in_err-trace_id_row-in-1.field-0.0 (c.in_err-trace_id_row-in-1.ensures.judged _ gathered.trace) c.from_residual.result c.from_residual.ensures.1

pub returns-in_err-span_id_row-in-2-clause-judged : goal.returns-in_err-span_id_row-in-2-clause-judged
returns-in_err-span_id_row-in-2-clause-judged c = λ first seen gathered.
    refused_at link_table seen (plain_record c.args.found.now) (record { number = 2; held = bytes c.in-Bytes.held.now }) (search rules) (λ p m h. h) c.in_err-span_id_row-in-2.field-0.0 (c.in_err-span_id_row-in-2.ensures.judged _ gathered.span) c.from_residual-in_err-span_id_row-in-2.result c.from_residual-in_err-span_id_row-in-2.ensures.1

pub returns-in-3-clause-judged : goal.returns-in-3-clause-judged
returns-in-3-clause-judged c = λ first seen gathered.
    judged_at link_table seen (plain_record c.args.found.now) (record { number = 3; held = bytes c.in-Bytes.held.now }) (search rules) (λ p m h. h) c.text_row.result (c.text_row.ensures.judged _ gathered.state)

pub returns-in-4-clause-judged : goal.returns-in-4-clause-judged
returns-in-4-clause-judged c = λ first seen gathered.
    judged_inside_at link_table seen (plain_record c.args.found.now) (record { number = 4; held = bytes c.in-Bytes.held.now }) (search rules) (λ m h. h) c.add.result c.add.ensures.judged
