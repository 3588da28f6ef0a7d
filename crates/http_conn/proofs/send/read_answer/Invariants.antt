use Rattle.std.proofs.Common.{◌≡◌, ◌-◌, ◌≤◌, length, take}
use Rattle.http_conn.proofs.SendLemmas.{Waits}
use Rattle.http_conn.proofs.send.read_answer.Given as goal

abbrev pub invariant-pieces : goal.invariant-pieces
invariant-pieces g l = record {
  size : length l.buffer ≡ length l.initial.buffer;
  fits : l.count ≤ length l.buffer;
  waits : Waits (g.C.Duplex.link l.initial.conn) (g.C.Duplex.link l.conn) (take l.count l.buffer);
}

abbrev pub decreases-pieces : goal.decreases-pieces
decreases-pieces g l = length l.initial.buffer - l.count
