use Rattle.span_agent.proofs.RunLemmas.{at_listening, at_no_memory, at_refused}
use Rattle.span_agent.proofs.run.receive_at.Goals as goal

pub returns-in_default : goal.returns-in_default
returns-in_default g c = at_no_memory c.gains_then.ensures c.args.to c.args.address.now c.args.count c.args.holds.now _ _ _

pub returns-in-Ok-listen : goal.returns-in-Ok-listen
returns-in-Ok-listen g c =
    at_listening c.gains_then.ensures c.args.to c.args.address.now _ _ c.in-Ok-listen.ensures.ok c.in-Ok-listen.ensures.right c.args.count c.receive_each.result c.args.holds.now
    _ _ _ _ _ _ c.receive_each.ensures

pub returns : goal.returns
returns g c =
    at_refused c.gains_then.ensures c.args.to c.args.address.now c.args.count c.args.holds.now _ _ _ _ c.requires c.in-Err.ensures.err c.in-Err.ensures.failed
