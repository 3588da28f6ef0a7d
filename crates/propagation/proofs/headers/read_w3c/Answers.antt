use Rattle.propagation.specs.Heads.{header_values, traceparent_name}
use Rattle.propagation.proofs.FormLemmas.{traceparent_unread}
use Rattle.propagation.proofs.headers.read_w3c.Goals as goal

pub returns-in_default-read_traceparent-clause-value : goal.returns-in_default-read_traceparent-clause-value
returns-in_default-read_traceparent-clause-value c = λ headers has found.
    traceparent_unread headers c.in-Some.value.now (c.in-Some.ensures.value (header_values traceparent_name headers) found.traceparent)
    (λ ids sampling h. let bad = c.in_default-read_traceparent.ensures.only ids sampling h in cc)
