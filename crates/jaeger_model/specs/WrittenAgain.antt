-- What is written of a batch is a text of it. References to no span aren't written, so that none of them is counted there.
use Rattle.std.specs.Prelude.{◌≡◌, ◌↔◌, map, All}
use Rattle.thrift_core.specs.Parts.{Spelling}
use Rattle.thrift_core.specs.Protocols.{WritingOf}
use Rattle.thrift_core.specs.Written.{Keeping}
use Rattle.jaeger_model.specs.declared.batch.Batch.{Batch}
use Rattle.jaeger_model.specs.declared.span.JSpan.{JSpan}
use Rattle.jaeger_model.specs.Batch.{IsBatchText}
use Rattle.jaeger_model.specs.Canonical.{batch_text}
use Rattle.jaeger_model.specs.Proper.{IsProperBatch}
use Rattle.jaeger_model.specs.Writable.{IsWritable}

-- the span, with no reference to no span
abbrev pub all_kept : JSpan → JSpan
all_kept span = record {
  trace = span.trace;
  id = span.id;
  parent = span.parent;
  name = span.name;
  references = span.references;
  invalid_refs = 0;
  flags = span.flags;
  start = span.start;
  end = span.end;
  tags = span.tags;
  logs = span.logs;
}

-- the batch, with no such reference
abbrev pub all_counted : Batch → Batch
all_counted batch = record { service = batch.service; tags = batch.tags; spans = map all_kept batch.spans }

-- no reference to no span is counted in the span, so that writing leaves out none
abbrev pub HasAllKept : JSpan → Type 0
HasAllKept span = span.invalid_refs ≡ 0

-- what is written of a proper batch that may be written is a text of that batch, where none of its spans counts references to
-- no span, and in any case a text of the batch without those counts
pub record WrittenAgain (Spells : Spelling) (keeps : Keeping) (writes : WritingOf) : Type 0 where
  pub whole : (batch : Batch) → IsWritable batch → IsProperBatch batch → All HasAllKept batch.spans
      → IsBatchText Spells batch (batch_text keeps writes batch)
  pub counted : (batch : Batch) → IsWritable batch → IsProperBatch batch
      → IsBatchText Spells (all_counted batch) (batch_text keeps writes batch)

-- batches in which no reference to no span is counted have equal texts where they are equal, and only there
abbrev pub EqualBatchTexts : Keeping → WritingOf → Type 0
EqualBatchTexts keeps writes =
    (a b : Batch) → IsWritable a → IsProperBatch a → All HasAllKept a.spans → IsWritable b → IsProperBatch b
    → All HasAllKept b.spans → (batch_text keeps writes a ≡ batch_text keeps writes b) ↔ (a ≡ b)
