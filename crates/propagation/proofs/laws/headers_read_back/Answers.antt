use Rattle.propagation.proofs.LinesReadBack.{headers_read_back}
use Rattle.propagation.proofs.OneBlock.{one_headers}
use Rattle.propagation.proofs.OneTracestate.{one_tracestate, empty_state, state_is_value}
use Rattle.propagation.proofs.laws.headers_read_back.Goals as goal

pub returns : goal.returns
returns c = headers_read_back c.identifiers_read_back.ensures empty_state (λ value state h. state_is_value h) (λ value a b h k. one_tracestate h k) (λ block a b h k. one_headers h k)
