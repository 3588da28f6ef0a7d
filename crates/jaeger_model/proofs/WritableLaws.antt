-- What has sizes and times that can be written can be written.
use Rattle.std.specs.Prelude.{List, [], ◌∷◌, All}
use Rattle.std.proofs.lemmas.List.Elements.{All-nil, All-cons, All-head, All-tail}
use Rattle.jaeger_model.specs.declared.batch.Batch.{Batch}
use Rattle.jaeger_model.specs.declared.span.JSpan.{JSpan}
use Rattle.jaeger_model.specs.declared.span.Log.{Log}
use Rattle.span_ids.specs.Times.{IsWhole}
use Rattle.jaeger_model.specs.Writable.{IsWritable, IsWritableSpan, IsWritableLog, HasLogSizes, HasSpanSizes, HasSizes, IsTimed}

logs_writable : (logs : List Log) → All HasLogSizes logs → All (λ log. IsWhole log.time) logs → All IsWritableLog logs
logs_writable [] sizes times = All-nil IsWritableLog
logs_writable (log ∷ logs) sizes times =
    All-cons IsWritableLog log logs (record { time = All-head (λ log. IsWhole log.time) log logs times; fields = All-head HasLogSizes log logs sizes })
    (logs_writable logs (All-tail HasLogSizes log logs sizes) (All-tail (λ log. IsWhole log.time) log logs times))

span_writable : (span : JSpan) → HasSpanSizes span → IsTimed span → IsWritableSpan span
span_writable span sizes times = record {
  name = sizes.name;
  references = sizes.references;
  start = times.start;
  end = times.end;
  ordered = times.ordered;
  tags = sizes.tags;
  logs = record { sized = sizes.logs.sized; each = logs_writable span.logs sizes.logs.each times.logs };
}

spans_writable : (spans : List JSpan) → All HasSpanSizes spans → All IsTimed spans → All IsWritableSpan spans
spans_writable [] sizes times = All-nil IsWritableSpan
spans_writable (span ∷ spans) sizes times =
    All-cons IsWritableSpan span spans (span_writable span (All-head HasSpanSizes span spans sizes) (All-head IsTimed span spans times))
    (spans_writable spans (All-tail HasSpanSizes span spans sizes) (All-tail IsTimed span spans times))

pub writable : (batch : Batch) → HasSizes batch → All IsTimed batch.spans → IsWritable batch
writable batch sizes times = record {
  service = sizes.service;
  tags = sizes.tags;
  spans = record { sized = sizes.spans.sized; each = spans_writable batch.spans sizes.spans.each times };
}
