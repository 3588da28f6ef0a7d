-- What is read of a batch of bytes is proper.
use Rattle.std.proofs.Common.{◌≡◌, ℕ, List, [], ◌∷◌, map, refl, sym, ◌∙◌, ap, subst}
use Rattle.thrift_core.specs.Parts.{Spelling}
use Rattle.trace_model.specs.Proper.{IsProperGroup}
use Rattle.trace_model.specs.declared.span.Span.{Span}
use Rattle.trace_model.specs.OtlpParts.{NotedGroup}
use Rattle.trace_model.specs.declared.group.Scope.{Scope}
use Rattle.jaeger_model.specs.StatedLaws.{ReadsProper}
use Rattle.jaeger_model.specs.WrittenAgain.{all_kept, all_counted}
use Rattle.jaeger_model.specs.declared.batch.Batch.{Batch}
use Rattle.jaeger_model.specs.declared.span.JSpan.{JSpan}
use Rattle.span_tags.specs.Runs.{Scoped, runs}
use Rattle.map_jaeger.specs.StatedLaws.{ReadIsProper}
use Rattle.map_jaeger.specs.Reading.{scoped_of, resource_of, group_of}
use Rattle.span_convert.specs.BatchFiles.{IsBatchUnit}
use Rattle.span_convert.proofs.SourceLaws.{AreBytes}

-- ---- the count of references to no span says nothing

same_spans : (spans : List JSpan) → map scoped_of (map all_kept spans) ≡ map scoped_of spans
same_spans [] = refl
same_spans (span ∷ spans) = ap (λ (l : List (Scoped Span)). scoped_of span ∷ l) (same_spans spans)

same_group : (batch : Batch) → group_of (all_counted batch) ≡ group_of batch
same_group batch = ap (λ (scopes : List Scope). record { resource = resource_of batch; dropped = 0; schema_url = []; scopes = scopes }) (ap runs (same_spans batch.spans))

pub batch_unit_proper : (Spells : Spelling) → ReadsProper Spells → ReadIsProper → (unit : List ℕ) (group : NotedGroup) → AreBytes unit → IsBatchUnit Spells unit group → IsProperGroup group.means
batch_unit_proper Spells reads proper unit group all is =
    subst IsProperGroup (same_group is.batch ∙ sym is.means) (proper (all_counted is.batch) (reads is.batch unit all is.text))
