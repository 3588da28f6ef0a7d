use Rattle.std.proofs.Common.{◌≡◌, List, sym, ◌∙◌}
use Rattle.serde_json.specs.Data.{Data}
use Rattle.span_io.specs.Paths.{NothingOffends}
use Rattle.span_io.proofs.PathDecisions.{IsSettled, one, none}
use Rattle.zipkin_json.specs.Span.{AreSpans, spans_offend}
use Rattle.zipkin_json.specs.declared.span.ZSpan.{ZSpan}
use Rattle.zipkin_json.proofs.Decisions.{spans_decided}
use Rattle.zipkin_json.proofs.laws.one_list.Goals as goal

once : (d : Data) → IsSettled (λ spans. AreSpans spans d) (spans_offend d) → (a b : List ZSpan) → AreSpans a d → AreSpans b d → a ≡ b
once d (one spans means only clean) a b h k = sym (only a h) ∙ only b k
once d (none cause counts never) a b h k = absurd (never a h)

fine : (d : Data) → IsSettled (λ spans. AreSpans spans d) (spans_offend d) → (a : List ZSpan) → AreSpans a d → NothingOffends (spans_offend d)
fine d (one spans means only clean) a h = clean
fine d (none cause counts never) a h = absurd (never a h)

pub returns : goal.returns
returns c = record { once = λ d. once d (spans_decided d); fine = λ d. fine d (spans_decided d) }
