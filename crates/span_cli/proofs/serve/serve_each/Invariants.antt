use Rattle.span_cli.specs.private.ServingSteps.{VisitsSoFar}
use Rattle.span_cli.proofs.serve.serve_each.Given as goal

abbrev pub invariant-visits : goal.invariant-visits
invariant-visits g l = record {
  so_far : VisitsSoFar l.to l.done l.initial.holds l.holds (g.D.Door.doorway l.initial.door) (g.D.Door.doorway l.door) (g.N.Sink.outlet l.initial.notes) (g.N.Sink.outlet l.notes);
}
