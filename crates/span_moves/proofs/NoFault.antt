-- Resources and spans of which nothing is a fault.
use Rattle.trace_model.specs.declared.fault.Fault.{Fault}
use Rattle.trace_model.specs.declared.span.Span.{Span}
use Rattle.span_tags.specs.Runs.{Scoped}
use Rattle.span_tags.specs.TagWords.{Pairs}

abbrev pub PlainResource : (Pairs → Fault → Type 0) → Pairs → Type 0
PlainResource IsResourceFault resource = (fault : Fault) → IsResourceFault resource fault → ⊥

abbrev pub PlainSpan : (Span → Fault → Type 0) → Scoped Span → Type 0
PlainSpan IsSpanFault one = (fault : Fault) → IsSpanFault one.span fault → ⊥
