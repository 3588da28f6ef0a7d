use Rattle.span_relay.proofs.ForwardLemmas.{gone_more, gone_none, gone_stop}
use Rattle.span_relay.proofs.forwarding.forward.Goals as goal

pub bodies-init : goal.bodies-init
bodies-init g c = record { so_far = gone_none c.args.address.now _ _; sound = c.size-held.ensures.sound }

pub returns-in-Err-clause-forwards : goal.returns-in-Err-clause-forwards
returns-in-Err-clause-forwards g c =
    gone_stop c.args.address.now c.bodies.done _ _ _ _ c.bodies.invariant.so_far _ c.args.budget _ _ c.in-Err.ensures.sends c.bodies-test.true

pub bodies-preserved : goal.bodies-preserved
bodies-preserved g c = record {
  so_far = gone_more c.args.address.now c.bodies.done _ _ _ _ c.bodies.invariant.so_far _ _ (rw c.in-Ok-None.field-0-is at c.in-Ok-None.ensures.sends)
      c.in-Ok-None.ensures.counted c.in-Ok-None.ensures.wire_counted;
  sound = c.in-Ok-None.ensures.sound.1;
}
