use Rattle.span_ids.proofs.BigEndian.{trace_spelled}
use Rattle.span_ids.proofs.trace_id.TraceId.to_bytes.Goals as goal

pub returns-clause-again : goal.returns-clause-again
returns-clause-again c =
    let range = c.self.invariant in
    rw (c.to_be_bytes.ensures, ← c.self.view_is) (trace_spelled _ range.0 range.1)
