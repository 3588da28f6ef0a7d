use Rattle.std.proofs.Common.{◌≡◌, ◌≤◌, length, take, vec_len, vec_capacity}
use Rattle.span_spool.specs.Driving.{Runs}
use Rattle.span_spool.specs.Spools.{IsSpool}
use Rattle.span_spool.proofs.driving.drive.Given as goal

abbrev pub invariant-orders : goal.invariant-orders
invariant-orders g l = record {
  runs : Runs (take l.order-index l.list) l.replies.items (g.K.Keeper.spool l.initial.keeper) (g.K.Keeper.spool l.keeper);
  filled : vec_len l.replies ≡ l.order-index;
  told : length l.replies.items ≡ l.order-index;
  room : length l.list ≤ vec_capacity l.replies;
  sound : IsSpool (g.K.Keeper.spool l.keeper);
}
