use Rattle.std.proofs.Common.{◌∙◌}
use Rattle.span_relay.proofs.RunLemmas.{relays_all}
use Rattle.span_relay.proofs.run.relay.Goals as goal

pub returns : goal.returns
returns g c =
    relays_all c.args.to c.args.target.now c.gains_then.ensures c.args.address.now c.args.count c.status.result c.relay_at-end.result c.relay_at-end.new.holds c.note_end.result
    _ _ _ _ _ _ _ _ _ _ _ _ _ c.status.ensures c.relay_at-end.ensures.relays c.note_end.ensures (c.into_vec-list.ensures.items ∙ c.replace.ensures.value) c.from_vec.ensures
