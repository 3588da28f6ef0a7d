use Rattle.std.proofs.Common.{ℕ, ap, ◌+◌}
use Rattle.otlp_proto.proofs.SpanLemmas.{event_push}
use Rattle.otlp_proto.proofs.reading.span.events.EventList.add.Goals as goal

pub returns-clause-ok : goal.returns-clause-ok
returns-clause-ok c = λ earlier gathered.
    event_push c.args.span earlier c.args.held.now c.args.self.now (record { events = c.push.new.self; remarks = c.remark_keys.new.remarks }) c.in_ok-read.read (1 + c.len.result)
    c.in_ok-read.ensures.value (ap (λ (n : ℕ). 1 + n) c.len.ensures.count) c.in_ok-push.ensures.ok c.in_ok-remark_keys.ensures gathered
