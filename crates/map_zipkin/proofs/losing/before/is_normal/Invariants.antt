use Rattle.std.proofs.Common.{◌≡◌, ◌≤◌, drop, length}
use Rattle.map_zipkin.specs.private.LossWalks.{still_same}
use Rattle.map_zipkin.proofs.losing.before.is_normal.Given as goal

abbrev pub invariant-pairs : goal.invariant-pairs
invariant-pairs l = record {
  within : l.place ≤ length l.normal;
  same : still_same l.normal l.place (drop l.pair-index l.resource) ≡ still_same l.normal 0 l.resource;
}
