use Rattle.std.proofs.Common.{ℕ, ap, ◌+◌, refl}
use Rattle.otlp_proto.proofs.ScopeLemmas.{span_push}
use Rattle.otlp_proto.proofs.reading.scope.SpanList.add.Goals as goal

pub returns-clause-ok : goal.returns-clause-ok
returns-clause-ok c = λ first earlier so_far.
    span_push first earlier c.args.held.now c.args.self.now (record { first = c.args.self.now.first; spans = c.push.new.self; remarks = c.remark_all.new.remarks }) (c.args.self.now.first + c.len.result) c.in_ok-read.read
    refl c.in_ok-push.ensures.ok c.in_ok-remark_all.ensures (ap (λ (n : ℕ). c.args.self.now.first + n) c.len.ensures.count) c.in_ok-read.ensures.value so_far
