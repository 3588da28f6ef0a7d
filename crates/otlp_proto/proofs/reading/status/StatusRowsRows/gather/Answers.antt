use Rattle.std.proofs.Common.{rules}
use Rattle.proto_wire.specs.Records.{bytes, varint, plain_record}
use Rattle.otlp_proto.specs.Status.{status_table}
use Rattle.span_io.proofs.GatheringLaws.{judged_at, refused_at}
use Rattle.otlp_proto.proofs.reading.status.StatusRowsRows.gather.Goals as goal

pub returns-in_err-code_row-in-3-clause-judged : goal.returns-in_err-code_row-in-3-clause-judged
returns-in_err-code_row-in-3-clause-judged c = λ first seen gathered.
    refused_at status_table seen (plain_record c.args.found.now) (record { number = 3; held = varint c.in-Varint.n }) (search rules) (λ p m h. h) c.in_err-code_row-in-3.field-0.0 (c.in_err-code_row-in-3.ensures.judged _ gathered.code) c.from_residual.result c.from_residual.ensures.1

pub returns-in-2-clause-judged : goal.returns-in-2-clause-judged
returns-in-2-clause-judged c = λ first seen gathered.
    judged_at status_table seen (plain_record c.args.found.now) (record { number = 2; held = bytes c.in-Bytes.held.now }) (search rules) (λ p m h. h) c.text_row.result (c.text_row.ensures.judged _ gathered.message)
