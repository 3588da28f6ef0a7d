use Rattle.std.proofs.Common.{◌≡◌}
use Rattle.span_vectors.specs.Gauge.{gauge_spans}
use Rattle.span_vectors.proofs.group.spans_from.Given as goal

abbrev pub invariant-spans : goal.invariant-spans
invariant-spans l = l.list ≡ gauge_spans l.first l.i
