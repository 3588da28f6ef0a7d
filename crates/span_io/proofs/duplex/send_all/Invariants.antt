use Rattle.std.proofs.Common.{◌≡◌, ◌≤◌, ◌-◌, length, take}
use Rattle.span_io.specs.Outside.{Gains, OutputHolds}
use Rattle.span_io.proofs.duplex.send_all.Given as goal

abbrev pub invariant-writes : goal.invariant-writes
invariant-writes g l = record {
  within : l.done ≤ length l.piece;
  gained : Gains (g.C.Duplex.link l.initial.conn).outlet (g.C.Duplex.link l.conn).outlet (take l.done l.piece);
  holds : OutputHolds (g.C.Duplex.link l.initial.conn).outlet (g.C.Duplex.link l.conn).outlet;
  inlet : (g.C.Duplex.link l.conn).inlet ≡ (g.C.Duplex.link l.initial.conn).inlet;
  mark : (g.C.Duplex.link l.conn).mark ≡ (g.C.Duplex.link l.initial.conn).mark;
  empty : length l.piece ≡ 0 → l.conn ≡ l.initial.conn;
}

abbrev pub decreases-writes : goal.decreases-writes
decreases-writes g l = length l.piece - l.done
