-- What becomes of a spool when a list of orders is carried out, one after the other.
use Rattle.std.specs.Prelude.{◌≡◌, ◌≤◌, Bool, true, false, List, [], ◌∷◌, length, take, Result, Ok, Err}
use Rattle.span_io.specs.Outside.{Rose}
use Rattle.span_spool.specs.Calls.{DropsFirst, GivesFirst, Halts, Keeps, stays}
use Rattle.span_spool.specs.Spools.{Spool}
use Rattle.span_spool.specs.declared.keeper.KeepFault.{KeepFault}
use Rattle.span_spool.specs.declared.keeper.KeepFault.TheVariants as faults
use Rattle.span_spool.specs.declared.order.Halted.{Halted}
use Rattle.span_spool.specs.declared.order.Order.{Order}
use Rattle.span_spool.specs.declared.order.Order.TheVariants as orders
use Rattle.span_spool.specs.declared.order.Reply.{Reply}
use Rattle.span_spool.specs.declared.order.Reply.TheVariants as replies

-- the reply is what the order's call answers
abbrev pub Answers : Order → Reply → Spool → Spool → Type 0
Answers (orders.Keep form body) (replies.Kept n) before now = Keeps form body before now (Ok n)
Answers (orders.Keep form body) replies.Full before now = Keeps form body before now (Err faults.Full)
Answers (orders.Keep form body) replies.Spent before now = Keeps form body before now (Err faults.Spent)
Answers orders.First (replies.First row) before now = GivesFirst before now (Ok row)
Answers (orders.Drop number) (replies.Dropped gone) before now = DropsFirst number before now (Ok gone)
Answers order reply before now = ⊥

-- what one order's call makes of a spool, whether it takes effect or not
abbrev pub Obeys : Order → Spool → Spool → Result Reply KeepFault → Type 0
Obeys order before now (Ok reply) = Answers order reply before now
Obeys order before now (Err fault) = Halts before now fault

-- Each order has its reply, through the spools between.
abbrev pub Runs : List Order → List Reply → Spool → Spool → Type 0
Runs [] [] before now = now ≡ before
Runs (order ∷ orders) (reply ∷ replies) before now =
    (between : Spool) × Answers order reply before between × (before.faults ≤ between.faults) × Runs orders replies between now
Runs orders replies before now = ⊥

-- The first ones of the orders took effect and have their replies. The next one left what is kept as it was: the keeper failed and
-- counted it, or memory was wanted, there or before the first, which is no failure.
pub record Stops (orders : List Order) (before now : Spool) (halted : Halted) : Type 0 where
  pub within : halted.done ≤ length orders
  pub between : Spool
  pub runs : Runs (take halted.done orders) halted.replies before between
  pub stays : now ≡ stays between now.faults
  pub counted : between.faults ≤ now.faults
  pub failed : halted.failed ≡ true → Rose between.faults now.faults
  pub quiet : halted.failed ≡ false → now.faults ≡ between.faults

-- how a list of orders ends: all took effect and have their replies, or it stopped at one of them
abbrev pub Drives : List Order → Spool → Spool → Result (List Reply) Halted → Type 0
Drives orders before now (Ok replies) = Runs orders replies before now
Drives orders before now (Err halted) = Stops orders before now halted
