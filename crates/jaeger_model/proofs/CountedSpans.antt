-- Spans that were read, and whose logs and references are counted.
use Rattle.std.proofs.Common.{List, [], ◌∷◌, All, Option, Some, Result, Ok, Err, IfOk, ◌≡◌, subst}
use Rattle.span_io.specs.RowsSoFar.{Gave}
use Rattle.thrift_core.specs.FieldValues.{IsStructOf, EachStruct}
use Rattle.thrift_core.specs.Trees.{structure, Tree, Trees, no_trees, tree_then, Fields}
use Rattle.jaeger_model.specs.Batch.{MeansSpans}
use Rattle.jaeger_model.specs.Counted.{IsCountedSpan}
use Rattle.jaeger_model.specs.Meanings.{Required}
use Rattle.jaeger_model.specs.Span.{IsJSpan}
use Rattle.jaeger_model.specs.private.SpanSoFar.{IsReadJSpan}
use Rattle.jaeger_model.specs.declared.span.JSpan.{JSpan}
use Rattle.jaeger_model.proofs.ReadTimes.{of_trees}

is_span : (tree : Tree) (span : JSpan) → IsStructOf (λ inner. IsReadJSpan span inner) tree → IsStructOf (λ inner. IsJSpan span inner) tree
is_span (structure inner) span h = h.is
is_span other span h = absurd h

are_spans : (trees : Trees) (spans : List JSpan) → EachStruct IsReadJSpan trees spans → MeansSpans trees spans
unfolding EachStruct
are_spans no_trees [] h = tt
are_spans no_trees (x ∷ xs) h = absurd h
are_spans (tree_then tree more) [] h = absurd h
are_spans (tree_then tree more) (x ∷ xs) h = (is_span tree x h.0, are_spans more xs h.1)

pub spans_required : (held : List Trees) (spans : List JSpan) → Required (λ trees xs. EachStruct IsReadJSpan trees xs) held spans → Required MeansSpans held spans
spans_required [] spans h = absurd h
spans_required (trees ∷ []) spans h = are_spans trees spans h
spans_required (trees ∷ other ∷ more) spans h = absurd h

pub each_counted : (trees : Trees) (spans : List JSpan) → EachStruct IsReadJSpan trees spans → All IsCountedSpan spans
each_counted trees spans h = of_trees IsReadJSpan IsCountedSpan (λ span fields is. is.counted) trees spans h

-- what is so of the value of a row
pub some_given : {A B : Type 0} (M : A → B → Type 0) (P : B → Type 0) → ((held : A) (value : B) → M held value → P value) → (xs : List A) (row : Option B) (value : B) → row ≡ Some value → Gave M xs row → P value
some_given {A} {B} M P each xs row value is gave = of xs (subst (λ (r : Option B). Gave M xs r) is gave)
  where
    of : (xs : List A) → Gave M xs (Some value) → P value
    of [] gave = absurd gave
    of (x ∷ []) gave = each x value gave
    of (x ∷ y ∷ more) gave = absurd gave

-- a span that was made, if it is counted
pub read_if_counted : {E : Type 0} (answer : Result JSpan E) (fields : Fields) → IfOk answer (λ span. IsJSpan span fields) → IfOk answer IsCountedSpan → IfOk answer (λ span. IsReadJSpan span fields)
read_if_counted (Ok span) fields is counted = record { is = is; counted = counted }
read_if_counted (Err e) fields is counted = tt
