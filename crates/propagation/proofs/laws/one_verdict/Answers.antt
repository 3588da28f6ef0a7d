use Rattle.propagation.proofs.OneBlock.{one_headers}
use Rattle.propagation.proofs.OneTracestate.{one_tracestate}
use Rattle.propagation.proofs.OneVerdict.{one_verdict}
use Rattle.propagation.proofs.laws.one_verdict.Goals as goal

pub returns : goal.returns
returns c = record { one = one_verdict (λ value a b h k. one_tracestate h k) (λ block a b h k. one_headers h k) }
