use Rattle.span_relay.proofs.RunLemmas.{at_refused}
use Rattle.span_relay.proofs.run.relay_at.Goals as goal

pub returns-in-Err-clause-relays : goal.returns-in-Err-clause-relays
returns-in-Err-clause-relays g c =
    at_refused c.args.to c.args.target.now c.args.address.now c.args.count c.args.holds.now _ _ _ _ _ _ c.requires.some c.in-Err.ensures.err c.in-Err.ensures.failed
