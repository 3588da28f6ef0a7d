use Rattle.std.proofs.Common.{◌≡◌}
use Rattle.span_relay.specs.declared.relaying.Relaying.{Relaying}
use Rattle.span_relay.specs.private.RelaySteps.{state_of}
use Rattle.span_relay.proofs.RelayLemmas.{relayed_by}
use Rattle.span_relay.proofs.relaying.Relaying.serve.Goals as goal

pub returns-clause-points : goal.returns-clause-points
returns-clause-points g c =
    relayed_by {S = Relaying g.row.K.Denot} (λ a b. b.keeper.ghost_name ≡ a.keeper.ghost_name) (λ a b. b.outcomes.ghost_name ≡ a.outcomes.ghost_name)
    (λ a. state_of (g.K.Keeper.spool a.keeper.now) a.outcomes.now.items) (λ a. a.to) c.args.limits.now c.args.self.now c.serve.new.service
    (g.C.Duplex.link c.args.conn.now) (g.C.Duplex.link c.serve.new.conn) c.serve.result c.requires.none c.serve.ensures.serves c.serve.ensures.mark
