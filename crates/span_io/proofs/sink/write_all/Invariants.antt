use Rattle.std.proofs.Common.{◌≡◌, ◌≤◌, ◌-◌, length, take}
use Rattle.span_io.specs.Outside.{Gains, OutputHolds}
use Rattle.span_io.proofs.sink.write_all.Given as goal

abbrev pub invariant-writes : goal.invariant-writes
invariant-writes g l = record {
  within : l.done ≤ length l.piece;
  gained : Gains (g.K.Sink.outlet l.initial.sink) (g.K.Sink.outlet l.sink) (take l.done l.piece);
  holds : OutputHolds (g.K.Sink.outlet l.initial.sink) (g.K.Sink.outlet l.sink);
  empty : length l.piece ≡ 0 → l.sink ≡ l.initial.sink;
}

abbrev pub decreases-writes : goal.decreases-writes
decreases-writes g l = length l.piece - l.done
