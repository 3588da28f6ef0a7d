use Rattle.std.proofs.Common.{ℕ, ap, ◌+◌}
use Rattle.otlp_proto.proofs.GroupLemmas.{scope_push}
use Rattle.otlp_proto.proofs.reading.group.ScopeList.add.Goals as goal

pub returns-clause-ok : goal.returns-clause-ok
returns-clause-ok c = λ earlier so_far.
    scope_push earlier c.args.held.now c.args.self.now (record { scopes = c.push.new.self; remarks = c.remark_all.new.remarks; next_span = c.args.self.now.next_span + c.len-2.result }) (1 + c.len.result) c.in_ok-read.read
    c.in_ok-push.ensures.ok c.in_ok-remark_all.ensures (ap (λ (n : ℕ). c.args.self.now.next_span + n) c.len-2.ensures.count)
    (ap (λ (n : ℕ). 1 + n) c.len.ensures.count) c.in_ok-read.ensures.value so_far
