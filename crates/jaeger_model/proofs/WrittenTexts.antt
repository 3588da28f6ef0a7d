-- What is written of a batch is a text of it.
use Rattle.std.proofs.Common.{subst}
use Rattle.thrift_core.specs.Parts.{Spelling}
use Rattle.thrift_core.specs.Protocols.{WritingOf, WritesShortest}
use Rattle.thrift_core.specs.Trees.{outer_levels}
use Rattle.thrift_core.specs.Written.{Keeping}
use Rattle.thrift_core.proofs.WrittenLaws.{written_structs}
use Rattle.jaeger_model.specs.declared.batch.Batch.{Batch}
use Rattle.jaeger_model.specs.Batch.{IsBatchText}
use Rattle.jaeger_model.specs.Canonical.{batch_fields, batch_text}
use Rattle.jaeger_model.specs.Proper.{IsProperBatch}
use Rattle.jaeger_model.specs.Writable.{IsWritable}
use Rattle.jaeger_model.specs.WrittenAgain.{all_counted, WrittenAgain}
use Rattle.jaeger_model.proofs.MayWriteRows.{batch_may}
use Rattle.jaeger_model.proofs.WrittenMeanings.{batch_means, batch_same}

module _ (Spells : Spelling) (keeps : Keeping) (writes : WritingOf) (laws : WritesShortest Spells keeps writes) where
  counted : (batch : Batch) → IsWritable batch → IsProperBatch batch → IsBatchText Spells (all_counted batch) (batch_text keeps writes batch)
  counted batch w p = record {
    fields = batch_fields batch;
    struct_text = (written_structs Spells keeps writes laws).struct_text (batch_fields batch) outer_levels (batch_may keeps batch w p);
    means = batch_means batch w p;
  }

  pub written_again : WrittenAgain Spells keeps writes
  written_again = record {
    whole = λ batch w p all. subst (λ b. IsBatchText Spells b (batch_text keeps writes batch)) (batch_same batch all) (counted batch w p);
    counted = λ batch w p. counted batch w p;
  }
