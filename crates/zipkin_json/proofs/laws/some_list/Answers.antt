use Rattle.std.proofs.Common.{◌⊎◌, inl, inr, List}
use Rattle.serde_json.specs.Data.{Data}
use Rattle.span_io.specs.Causes.{cause_number}
use Rattle.span_io.specs.declared.cause.Cause.{Cause}
use Rattle.span_io.specs.Paths.{Counts}
use Rattle.span_io.proofs.PathDecisions.{IsSettled, one, none}
use Rattle.zipkin_json.specs.Span.{AreSpans, spans_offend}
use Rattle.zipkin_json.specs.declared.span.ZSpan.{ZSpan}
use Rattle.zipkin_json.proofs.Decisions.{spans_decided}
use Rattle.zipkin_json.proofs.laws.some_list.Goals as goal

some : (d : Data) → IsSettled (λ spans. AreSpans spans d) (spans_offend d) → ((spans : List ZSpan) × AreSpans spans d) ⊎ ((cause : Cause) × Counts (spans_offend d) (cause_number cause))
some d (one spans means only clean) = inl (spans, means)
some d (none cause counts never) = inr (cause, counts)

pub returns : goal.returns
returns c = λ d. some d (spans_decided d)
