use Rattle.span_io.specs.Doors.{IsListening}
use Rattle.span_io.specs.Sizes.{IsShort}
use Rattle.span_relay.specs.private.RelayRunSteps.{TurnsSoFar}
use Rattle.span_relay.proofs.run.relay_each.Given as goal

abbrev pub invariant-turns : goal.invariant-turns
invariant-turns g l = record {
  so_far : TurnsSoFar l.to l.target l.done l.initial.holds l.holds (g.K.Keeper.spool l.initial.keeper) (g.K.Keeper.spool l.keeper)
      (g.P.Peer.wire l.initial.peer) (g.P.Peer.wire l.peer) (g.D.Door.doorway l.initial.door) (g.D.Door.doorway l.door)
      (g.N.Sink.outlet l.initial.notes) (g.N.Sink.outlet l.notes) l.initial.rounds.items l.rounds.items;
  listening : IsListening (g.D.Door.doorway l.door);
  short : IsShort l.rounds.items;
}
