use Rattle.span_spool.specs.Spools.{IsSpool}
use Rattle.span_relay.specs.private.ForwardSteps.{GoneSoFar}
use Rattle.span_relay.proofs.forwarding.forward.Given as goal

abbrev pub invariant-bodies : goal.invariant-bodies
invariant-bodies g l = record {
  so_far : GoneSoFar l.address l.done (g.K.Keeper.spool l.initial.keeper) (g.K.Keeper.spool l.keeper) (g.P.Peer.wire l.initial.peer) (g.P.Peer.wire l.peer);
  sound : IsSpool (g.K.Keeper.spool l.keeper);
}
