use Rattle.std.proofs.Common.{arith}
use Rattle.span_ids.proofs.BigEndian.{trace_read}
use Rattle.span_ids.proofs.trace_id.TraceId.from_bytes.Goals as goal

pub returns-clause-ok : goal.returns-clause-ok
returns-clause-ok c = grind (arith, trace_read)

pub returns-clause-value : goal.returns-clause-value
returns-clause-value c = grind (arith, trace_read)
