use Rattle.std.proofs.Common.{◌≡◌, length}
use Rattle.span_agent.specs.private.AgentSteps.{ReceivedSoFar}
use Rattle.span_agent.proofs.run.receive_each.Given as goal

abbrev pub invariant-datagrams : goal.invariant-datagrams
invariant-datagrams g l = record {
  so_far : ReceivedSoFar l.to l.done l.initial.holds l.holds (g.P.Post.mailbox l.initial.post) (g.P.Post.mailbox l.post)
      (g.K.Sink.outlet l.initial.output) (g.K.Sink.outlet l.output) (g.N.Sink.outlet l.initial.notes) (g.N.Sink.outlet l.notes);
  size : length l.buf ≡ length l.initial.buf;
}
