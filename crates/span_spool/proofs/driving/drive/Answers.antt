use Rattle.std.proofs.Common.{◌≡◌, ◌+◌, ◌++◌, ◌∷◌, [], List, length, length-append, take, sym, ap, subst, ◌∙◌, arith}
use Rattle.std.proofs.lemmas.List.{take_all, take_more}
use Rattle.span_spool.proofs.RunLemmas.{halted_at, halted_failed, halted_first, left_over, left_stopped, runs_more}
use Rattle.span_spool.specs.Driving.{Runs, Stops}
use Rattle.span_spool.specs.declared.order.Order.{Order}
use Rattle.span_spool.proofs.driving.drive.Goals as goal

pub returns-in_default-clause-drives : goal.returns-in_default-clause-drives
returns-in_default-clause-drives g c =
    halted_first c.args.orders.now (g.K.Keeper.spool c.args.keeper.now) c.halted.result c.new.result.items c.halted.ensures c.new.ensures.items

pub returns-in_default-clause-leaves : goal.returns-in_default-clause-leaves
returns-in_default-clause-leaves g c = λ empty.
    let a = g.K.Keeper.spool c.args.keeper.now in
    left_stopped c.args.orders.now a a c.halted.result empty
    (halted_first c.args.orders.now a c.halted.result c.new.result.items c.halted.ensures c.new.ensures.items)

pub returns-in-Err-Failed-clause-drives : goal.returns-in-Err-Failed-clause-drives
returns-in-Err-Failed-clause-drives g c =
    let list = c.as_slice-list.result.now in
    let a = g.K.Keeper.spool c.args.keeper.now in
    let b = g.K.Keeper.spool c.orders.keeper in
    let d = g.K.Keeper.spool c.obey.new.keeper in
    let halted = c.halted-in-Err-Failed.result in
    subst (λ (l : List Order). Stops l a d halted) c.as_slice-list.ensures
    (halted_failed list c.orders.replies.items c.orders.order-index a b d c.in-Err-Failed.field-0 halted c.halted-in-Err-Failed.ensures
    c.orders.invariant.told (omega (arith, c.orders-test.true)) c.orders.invariant.runs c.in-Err-Failed.field-0-is c.in-Err-Failed.ensures.obeys c.in-Err-Failed.ensures.counted)

pub returns-in-Err-Failed-clause-leaves : goal.returns-in-Err-Failed-clause-leaves
returns-in-Err-Failed-clause-leaves g c = λ empty.
    left_stopped c.args.orders.now (g.K.Keeper.spool c.args.keeper.now) (g.K.Keeper.spool c.obey.new.keeper) c.halted-in-Err-Failed.result empty
    (returns-in-Err-Failed-clause-drives g c)

pub returns-in-Err-OutOfMemory-clause-drives : goal.returns-in-Err-OutOfMemory-clause-drives
returns-in-Err-OutOfMemory-clause-drives g c =
    let list = c.as_slice-list.result.now in
    let a = g.K.Keeper.spool c.args.keeper.now in
    let b = g.K.Keeper.spool c.orders.keeper in
    let d = g.K.Keeper.spool c.obey.new.keeper in
    let halted = c.halted-in-Err-OutOfMemory.result in
    subst (λ (l : List Order). Stops l a d halted) c.as_slice-list.ensures
    (halted_at list c.orders.replies.items c.orders.order-index a b d c.in-Err-OutOfMemory.field-0 halted c.halted-in-Err-OutOfMemory.ensures
    c.orders.invariant.told (omega (arith, c.orders-test.true)) c.orders.invariant.runs c.in-Err-OutOfMemory.field-0-is c.in-Err-OutOfMemory.ensures.obeys)

pub returns-in-Err-OutOfMemory-clause-leaves : goal.returns-in-Err-OutOfMemory-clause-leaves
returns-in-Err-OutOfMemory-clause-leaves g c = λ empty.
    left_stopped c.args.orders.now (g.K.Keeper.spool c.args.keeper.now) (g.K.Keeper.spool c.obey.new.keeper) c.halted-in-Err-OutOfMemory.result empty
    (returns-in-Err-OutOfMemory-clause-drives g c)

pub orders-preserved : goal.orders-preserved
orders-preserved g c =
    let list = c.as_slice-list.result.now in
    let i = c.orders.order-index in
    let order = c.order-item.result in
    let a = g.K.Keeper.spool c.args.keeper.now in
    let b = g.K.Keeper.spool c.orders.keeper in
    let d = g.K.Keeper.spool c.obey.new.keeper in
    let more : take (i + 1) list ≡ take i list ++ order ∷ [] = take_more list i order c.orders-test.true ∙ ap (λ (o : Order). take i list ++ o ∷ []) (sym c.order-item.is) in
    let pushed : c.push.new.self.items ≡ c.orders.replies.items ++ c.in-Ok-obey.reply ∷ [] = c.in-Ok-push.ensures.items in
    record {
      runs = rw more (rw pushed
          (runs_more (take i list) c.orders.replies.items order c.in-Ok-obey.reply a b d c.orders.invariant.runs c.in-Ok-obey.ensures.obeys c.in-Ok-obey.ensures.counted));
      filled = omega (arith, c.in-Ok-push.ensures.len, c.orders.invariant.filled);
      told = ap length pushed ∙ length-append c.orders.replies.items (c.in-Ok-obey.reply ∷ []) ∙ ap (λ n. n + 1) c.orders.invariant.told;
      room = omega (arith, c.in-Ok-push.ensures.capacity, c.orders.invariant.room);
      sound = c.in-Ok-obey.ensures.sound.1;
    }

pub returns-clause-leaves : goal.returns-clause-leaves
returns-clause-leaves g c = λ empty.
    let list = c.as_slice-list.result.now in
    let a = g.K.Keeper.spool c.args.keeper.now in
    let b = g.K.Keeper.spool c.orders.keeper in
    let whole : take c.orders.order-index list ≡ list = take_all c.orders.order-index list c.orders-test.false in
    let runs : Runs c.args.orders.now c.orders.replies.items a b =
    subst (λ (l : List Order). Runs l c.orders.replies.items a b) (whole ∙ c.as_slice-list.ensures) c.orders.invariant.runs in
    rw c.from_vec.ensures (left_over c.args.orders.now c.orders.replies.items a b empty runs)
