-- Batches whose spans, logs and references are so few that each has a number of 32 bits.
use Rattle.std.specs.Prelude.{◌<◌, ◌^◌, List, All, length}
use Rattle.jaeger_model.specs.declared.batch.Batch.{Batch}
use Rattle.jaeger_model.specs.declared.span.JSpan.{JSpan}

-- fewer than 4,294,967,296
abbrev pub IsCounted : {A : Type 0} → List A → Type 0
IsCounted members = length members < 2 ^ 32

-- the logs of a span, and its references, are so few
pub record IsCountedSpan (span : JSpan) : Type 0 where
  pub logs : IsCounted span.logs
  pub references : IsCounted span.references

-- the spans of a batch are so few, and so are the logs and the references of each
pub record IsCountedBatch (batch : Batch) : Type 0 where
  pub spans : IsCounted batch.spans
  pub each : All IsCountedSpan batch.spans
