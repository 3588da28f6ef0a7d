-- Equal batches, and only they, have equal texts.
use Rattle.std.proofs.Common.{ap, subst}
use Rattle.thrift_core.specs.Parts.{Spelling}
use Rattle.thrift_core.specs.Protocols.{WritingOf}
use Rattle.thrift_core.specs.Written.{Keeping}
use Rattle.jaeger_model.specs.Batch.{IsBatchText}
use Rattle.jaeger_model.specs.Canonical.{batch_text}
use Rattle.jaeger_model.specs.StatedLaws.{OneBatch}
use Rattle.jaeger_model.specs.WrittenAgain.{WrittenAgain, EqualBatchTexts}

pub equal_texts : (Spells : Spelling) (keeps : Keeping) (writes : WritingOf) → OneBatch Spells → WrittenAgain Spells keeps writes → EqualBatchTexts keeps writes
equal_texts Spells keeps writes one again a b writable_a proper_a kept_a writable_b proper_b kept_b = (
  λ same. one.once (batch_text keeps writes b) a b
      (subst (λ text. IsBatchText Spells a text) same (again.whole a writable_a proper_a kept_a))
      (again.whole b writable_b proper_b kept_b),
  λ same. ap (λ batch. batch_text keeps writes batch) same,
)
