use Rattle.std.proofs.Common.{ℕ, ap, ◌+◌, refl, true}
use Rattle.otlp_proto.proofs.SpanLemmas.{link_drop, link_push}
use Rattle.otlp_proto.proofs.reading.span.links.LinkList.add.Goals as goal

pub returns-in_default-clause-ok : goal.returns-in_default-clause-ok
returns-in_default-clause-ok c = λ earlier gathered.
    link_drop c.args.span earlier c.args.held.now c.args.self.now (record { links = c.args.self.now.links; dropped = true; remarks = c.args.self.now.remarks })
    (rw c.in_default.is at c.in_ok-read.ensures.value) refl refl refl gathered

pub returns-clause-ok : goal.returns-clause-ok
returns-clause-ok c = λ earlier gathered.
    link_push c.args.span earlier c.args.held.now c.args.self.now (record { links = c.push.new.self; dropped = c.args.self.now.dropped; remarks = c.remark_keys.new.remarks }) c.in-Some.read (1 + c.len.result)
    (rw c.in-Some.is at c.in_ok-read.ensures.value) (ap (λ (n : ℕ). 1 + n) c.len.ensures.count) c.in_ok-push.ensures.ok refl c.in_ok-remark_keys.ensures gathered
