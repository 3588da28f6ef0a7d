use Rattle.std.proofs.Common.{rules}
use Rattle.proto_wire.specs.Records.{bytes, plain_record}
use Rattle.otlp_proto.specs.Event.{event_table}
use Rattle.span_io.proofs.GatheringLaws.{judged_at, judged_inside_at}
use Rattle.otlp_proto.proofs.reading.event.EventRowsRows.gather.Goals as goal

pub returns-in-2-clause-judged : goal.returns-in-2-clause-judged
returns-in-2-clause-judged c = λ first seen gathered.
    judged_at event_table seen (plain_record c.args.found.now) (record { number = 2; held = bytes c.in-Bytes.held.now }) (search rules) (λ p m h. h) c.text_row.result (c.text_row.ensures.judged _ gathered.name)

pub returns-in-3-clause-judged : goal.returns-in-3-clause-judged
returns-in-3-clause-judged c = λ first seen gathered.
    judged_inside_at event_table seen (plain_record c.args.found.now) (record { number = 3; held = bytes c.in-Bytes.held.now }) (search rules) (λ m h. h) c.add.result c.add.ensures.judged
