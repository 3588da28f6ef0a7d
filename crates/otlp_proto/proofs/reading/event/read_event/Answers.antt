use Rattle.otlp_proto.proofs.reading.event.read_event.Goals as goal

pub returns-clause-judged : goal.returns-clause-judged
returns-clause-judged c = c.in_ok-rows.ensures.all.fine (λ n h. h)
