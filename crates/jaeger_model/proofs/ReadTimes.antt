-- What is read has times of whole microseconds.
use Rattle.std.proofs.Common.{◌≡◌, ℕ, ℤ, ◌≤◌, List, [], ◌∷◌, All, subst, sym, arith}
use Rattle.std.proofs.lemmas.List.Elements.{All-nil, All-cons}
use Rattle.thrift_core.specs.FieldValues.{IsStructOf, EachStruct}
use Rattle.thrift_core.specs.Trees.{structure, Tree, Trees, no_trees, tree_then, Fields}
use Rattle.span_io.specs.Tables.{Singular}
use Rattle.jaeger_model.specs.Batch.{IsBatch, MeansSpans}
use Rattle.jaeger_model.specs.Log.{IsLog}
use Rattle.jaeger_model.specs.Meanings.{Required, MeansTime}
use Rattle.jaeger_model.specs.Span.{IsJSpan, MeansLogs, HasTimes}
use Rattle.span_ids.specs.Times.{IsWhole}
use Rattle.jaeger_model.specs.Writable.{IsTimed}
use Rattle.jaeger_model.specs.declared.batch.Batch.{Batch}
use Rattle.jaeger_model.specs.declared.span.JSpan.{JSpan}
use Rattle.jaeger_model.specs.declared.span.Log.{Log}

time_whole : (held : List ℤ) (time : ℕ) → Required MeansTime held time → IsWhole time
time_whole [] time h = absurd h
time_whole (n ∷ []) time h = omega (arith, h.3)
time_whole (n ∷ other ∷ more) time h = absurd h

-- what is said of each struct of a list
module _ {B : Type 0} (Is : B → Fields → Type 0) (P : B → Type 0) (each : (x : B) (fields : Fields) → Is x fields → P x) where
  of_tree : (tree : Tree) (x : B) → IsStructOf (λ inner. Is x inner) tree → P x
  of_tree (structure inner) x h = each x inner h
  of_tree other x h = absurd h

  pub of_trees : (trees : Trees) (xs : List B) → EachStruct Is trees xs → All P xs
  unfolding EachStruct
  of_trees no_trees [] h = All-nil P
  of_trees no_trees (x ∷ xs) h = absurd h
  of_trees (tree_then tree more) [] h = absurd h
  of_trees (tree_then tree more) (x ∷ xs) h = All-cons P x xs (of_tree tree x h.0) (of_trees more xs h.1)

abbrev IsWholeLog : Log → Type 0
IsWholeLog log = IsWhole log.time

log_whole : (log : Log) (fields : Fields) → IsLog log fields → IsWholeLog log
log_whole log inner h = time_whole _ log.time h.time

logs_whole : (held : List Trees) (logs : List Log) → Singular MeansLogs (λ logs. logs ≡ []) held logs → All IsWholeLog logs
logs_whole [] logs h = subst (All IsWholeLog) (sym h) (All-nil IsWholeLog)
logs_whole (trees ∷ []) logs h = of_trees IsLog IsWholeLog log_whole trees logs h
logs_whole (trees ∷ other ∷ more) logs h = absurd h

end_whole : (fields : Fields) (start end : ℕ) → HasTimes fields start end → IsWhole end
end_whole inner start end h =
    let first : IsWhole start = time_whole _ start h.its_start in
    let last : IsWhole h.duration = time_whole _ h.duration h.its_duration in
    omega (arith, first, last, h.sum)

in_order : (fields : Fields) (start end : ℕ) → HasTimes fields start end → start ≤ end
in_order inner start end h = omega (arith, h.sum)

span_timed : (span : JSpan) (fields : Fields) → IsJSpan span fields → IsTimed span
span_timed span inner h = record {
  start = time_whole _ span.start h.times.its_start;
  end = end_whole inner span.start span.end h.times;
  ordered = in_order inner span.start span.end h.times;
  logs = logs_whole _ span.logs h.logs;
}

spans_timed : (held : List Trees) (spans : List JSpan) → Required MeansSpans held spans → All IsTimed spans
spans_timed [] spans h = absurd h
spans_timed (trees ∷ []) spans h = of_trees IsJSpan IsTimed span_timed trees spans h
spans_timed (trees ∷ other ∷ more) spans h = absurd h

pub batch_timed : (batch : Batch) (fields : Fields) → IsBatch batch fields → All IsTimed batch.spans
batch_timed batch inner h = spans_timed _ batch.spans h.spans
