use Rattle.std.proofs.Common.{ℕ, ◌<◌}
use Rattle.http_conn.specs.Heads.{EndsAt}
use Rattle.http_conn.proofs.ends.find_end.Given as goal

abbrev pub invariant-loop-place : goal.invariant-loop-place
invariant-loop-place l = (k : ℕ) → k < l.place → ¬ (EndsAt l.bytes k)
