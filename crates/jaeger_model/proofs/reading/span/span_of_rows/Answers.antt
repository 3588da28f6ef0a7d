use Rattle.std.proofs.Common.{◌≡◌}
use Rattle.span_io.specs.declared.cause.Cause.TheVariants as causes
use Rattle.thrift_core.specs.Messages.{fields_of}
use Rattle.jaeger_model.proofs.CountedSpans.{read_if_counted}
use Rattle.jaeger_model.proofs.SpanLemmas.{some_missing}
use Rattle.jaeger_model.proofs.reading.span.span_of_rows.Goals as goal

pub returns-in-Ok-clause-value : goal.returns-in-Ok-clause-value
returns-in-Ok-clause-value g c = λ left items gathered.
    read_if_counted c.span_of_parts.result (fields_of items) (c.span_of_parts.ensures.value (fields_of items) (c.in-Ok.ensures.value left items gathered))
    (c.span_of_parts.ensures.counted (c.in-Ok.ensures.counted left items gathered))

pub returns-in-Ok-clause-ended : goal.returns-in-Ok-clause-ended
returns-in-Ok-clause-ended g c = λ left items gathered. c.span_of_parts.ensures.ended items (c.in-Ok.ensures.value left items gathered)

pub returns-in-Err-clause-ended : goal.returns-in-Err-clause-ended
returns-in-Err-clause-ended g c = λ left items gathered.
    let missing = c.in-Err.ensures.missing left items gathered in
    let told = missing.0 in
    let cause : c.in-Err.cause ≡ causes.Missing = cc in
    rw (cause) (some_missing items missing.1)
