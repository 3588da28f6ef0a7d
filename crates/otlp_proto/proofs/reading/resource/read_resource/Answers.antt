use Rattle.otlp_proto.proofs.reading.resource.read_resource.Goals as goal

pub returns-clause-judged : goal.returns-clause-judged
returns-clause-judged c = c.in_ok-rows.ensures.all.fine (λ n h. h)
