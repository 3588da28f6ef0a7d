use Rattle.std.proofs.Common.{Err, ap, refl, ◌∙◌, arith}
use Rattle.span_io.specs.declared.halt.Halt.{Halt}
use Rattle.span_io.specs.declared.source.Failed.{Failed}
use Rattle.span_agent.proofs.RunLemmas.{each_all, each_memory, each_output, so_far_more, so_far_none}
use Rattle.span_agent.proofs.run.receive_each.Goals as goal

pub datagrams-init : goal.datagrams-init
datagrams-init g c = record {
  so_far = so_far_none c.gains_then.ensures c.args.to c.args.holds.now _ _ _;
  size = refl;
}

pub datagrams-preserved : goal.datagrams-preserved
datagrams-preserved g c = record {
  so_far = so_far_more c.gains_then.ensures c.args.to c.datagrams.done c.args.holds.now c.datagrams.holds _ _ _ _ _ _ c.datagrams.invariant.so_far _ _ c.in-Ok.ensures.ok
      c.hand_on.result c.hand_on.new.holds _ _ c.hand_on.ensures c.in-Ok-hand_on.is;
  size = c.receive.ensures.size ∙ c.datagrams.invariant.size;
}

pub returns-in-Err-Why : goal.returns-in-Err-Why
returns-in-Err-Why g c =
    each_output c.gains_then.ensures c.args.to c.datagrams.done c.args.holds.now c.datagrams.holds _ _ _ _ _ _ c.datagrams.invariant.so_far _ _ c.in-Ok.ensures.ok
    c.hand_on.result c.hand_on.new.holds _ _ c.hand_on.ensures c.args.count c.datagrams-test.true _
    (c.in-Err-Why.is ∙ ap (λ (h : Halt Failed). Err h) c.in-Err-Why.field-0-is)

pub returns-in-Err-OutOfMemory : goal.returns-in-Err-OutOfMemory
returns-in-Err-OutOfMemory g c =
    each_memory c.gains_then.ensures c.args.to c.datagrams.done c.args.holds.now c.datagrams.holds _ _ _ _ _ _ c.datagrams.invariant.so_far _ _ c.in-Ok.ensures.ok
    c.hand_on.result c.hand_on.new.holds _ _ c.hand_on.ensures c.args.count c.datagrams-test.true
    (c.in-Err-OutOfMemory.is ∙ ap (λ (h : Halt Failed). Err h) c.in-Err-OutOfMemory.field-0-is)

pub returns : goal.returns
returns g c =
    each_all c.gains_then.ensures c.args.to c.datagrams.done c.args.holds.now c.datagrams.holds _ _ _ _ _ _ c.datagrams.invariant.so_far c.args.count (omega arith)
