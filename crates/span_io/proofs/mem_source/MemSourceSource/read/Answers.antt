use Rattle.std.proofs.Common.{ap}
use Rattle.span_io.proofs.Places.{gives}
use Rattle.span_io.proofs.mem_source.MemSourceSource.read.Goals as goal

pub returns-clause-bytes : goal.returns-clause-bytes
returns-clause-bytes c = gives c.args.self.now.left c.self.inside.bytes c.as_slice-2.result.now c.args.buf.now c.copy_from_slice.new.self c.self.inside.place c.min-given.result
    c.min.result c.max.result c.self.inside.cut c.as_slice-2.ensures (ap (λ s. s.left) c.self.view_is) c.max.ensures c.min.ensures c.min-given.ensures
    c.copy_from_slice.ensures.after
