-- What the laws of spools say.
use Rattle.std.specs.Prelude.{◌≡◌, ◌-◌, List, option_map, Result, Ok, Err, take}
use Rattle.std.specs.List.{range_with_len}
use Rattle.span_spool.specs.Driving.{Runs}
use Rattle.span_spool.specs.Orders.{acknowledged, left}
use Rattle.span_spool.specs.Spools.{IsEmpty, Spool}
use Rattle.span_spool.specs.declared.order.Halted.{Halted}
use Rattle.span_spool.specs.declared.order.Order.{Order}
use Rattle.span_spool.specs.declared.order.Reply.{Reply}

-- The rows of a spool that began empty are what is left of the orders and their replies, where they are told; and the numbers
-- that were acknowledged are those from 1 to the one before the first row's, each once, in order.
pub record Leaves (orders : List Order) (replies : List Reply) (before now : Spool) : Type 0 where
  pub rows : now.rows ≡ option_map (λ _. left orders replies) before.rows
  pub acknowledged : acknowledged orders replies ≡ range_with_len 1 (now.next - now.held - 1)

-- a spool that began empty holds what is left of the orders that it carried out and of their replies, whatever they are
abbrev pub LeftOver : Type 0
LeftOver = (orders : List Order) (replies : List Reply) (before now : Spool) → IsEmpty before → Runs orders replies before now
    → Leaves orders replies before now

-- the same of how a list of orders ended
abbrev pub LeavesBy : List Order → Spool → Spool → Result (List Reply) Halted → Type 0
LeavesBy orders before now (Ok replies) = Leaves orders replies before now
LeavesBy orders before now (Err halted) = Leaves (take halted.done orders) halted.replies before now
