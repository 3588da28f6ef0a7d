use Rattle.std.proofs.Common.{rules}
use Rattle.proto_wire.specs.Records.{bytes, plain_record}
use Rattle.otlp_proto.specs.Group.{resource_table}
use Rattle.span_io.proofs.GatheringLaws.{judged_inside_at}
use Rattle.otlp_proto.proofs.reading.resource.ResourceRowsRows.gather.Goals as goal

pub returns-in-1-clause-judged : goal.returns-in-1-clause-judged
returns-in-1-clause-judged c = λ first seen gathered.
    judged_inside_at resource_table seen (plain_record c.args.found.now) (record { number = 1; held = bytes c.in-Bytes.held.now }) (search rules) (λ m h. h) c.add.result c.add.ensures.judged
