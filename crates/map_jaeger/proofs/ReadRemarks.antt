-- The remarks on a span and on a batch, part by part.
use Rattle.std.proofs.Common.{◌≡◌, ℕ, nat_lt, List, [], ◌++◌, map, is_some, Result, Ok, Err, ap, ◌∙◌, append_assoc}
use Rattle.std.specs.Result.{OnOk}
use Rattle.jaeger_model.specs.declared.batch.Batch.{Batch}
use Rattle.jaeger_model.specs.declared.span.JSpan.{JSpan}
use Rattle.trace_model.specs.Attributes.{AreRepeated, at}
use Rattle.trace_model.specs.Remarks.{Keys, equal_keys, link_dropped, tags_dropped}
use Rattle.trace_model.specs.declared.place.Place.TheVariants as places
use Rattle.trace_model.specs.declared.remark.Remark.{Remark}
use Rattle.trace_model.specs.declared.value.Value.{Value}
use Rattle.span_tags.specs.TagKeys.{service_key}
use Rattle.span_tags.specs.TagWords.{if_left}
use Rattle.map_jaeger.specs.Columns.{looked, left_out}
use Rattle.map_jaeger.specs.private.Noted.{AddsNoted, AreNumbered}
use Rattle.map_jaeger.specs.Reading.{attributes_of}
use Rattle.map_jaeger.specs.Remarks.{AreRemarks, RepeatsOf, RepeatsOfSpan, log_remarks, jspan_remarks}
use Rattle.map_jaeger.specs.TagValues.{attribute_of}

pub if_there : {T E P : Type 0} (r : Result T E) → P → OnOk r P
if_there (Ok x) p = p
if_there (Err e) p = tt

four : {X : Type 0} (f a b c d r1 r2 r3 r4 : List X) → r1 ≡ f ++ a → r2 ≡ r1 ++ b → r3 ≡ r2 ++ c → r4 ≡ r3 ++ d → r4 ≡ f ++ (a ++ (b ++ (c ++ d)))
four f a b c d r1 r2 r3 r4 e1 e2 e3 e4 = e4 ∙ (ap (λ l. l ++ d) (e3 ∙ ap (λ l. l ++ c) (e2 ∙ ap (λ l. l ++ b) e1)) ∙ simp append_assoc)

three : {X : Type 0} (a b d r0 r1 r2 r3 : List X) → r0 ≡ [] → r1 ≡ r0 ++ a → r2 ≡ r1 ++ b → r3 ≡ r2 ++ d → r3 ≡ a ++ (b ++ d)
three a b d r0 r1 r2 r3 e0 e1 e2 e3 = e3 ∙ (ap (λ l. l ++ d) (e2 ∙ ap (λ l. l ++ b) (e1 ∙ ap (λ l. l ++ a) e0)) ∙ append_assoc a b d)

pub span_noted : (n : ℕ) (span : JSpan) (tags : List (List ℕ × Value)) (keys : Keys) (found first second third all events : List Remark)
    → tags ≡ attributes_of span.tags → AreRepeated keys (map attribute_of span.tags) → AreNumbered RepeatsOf (log_remarks n) 1 span.logs events
    → first ≡ found ++ equal_keys (places.Span n) keys
    → second ≡ first ++ link_dropped (places.Span n) (nat_lt 0 span.invalid_refs)
    → third ≡ second ++ tags_dropped (places.Span n) (left_out (looked tags))
    → all ≡ third ++ events → AddsNoted RepeatsOfSpan jspan_remarks n span found all
span_noted n span tags keys found first second third all events same repeated logs e1 e2 e3 e4 =
    let left : third ≡ second ++ tags_dropped (places.Span n) (left_out (looked (attributes_of span.tags))) =
    e3 ∙ ap (λ t. second ++ tags_dropped (places.Span n) (left_out (looked t))) same in
    record {
      note = record { span = keys; logs = logs.notes };
      its = record { tags = repeated; logs = logs.theirs };
      all = four found (equal_keys (places.Span n) keys) (link_dropped (places.Span n) (nat_lt 0 span.invalid_refs))
          (tags_dropped (places.Span n) (left_out (looked (attributes_of span.tags))))
          _ first second third all e1 e2 left (e4 ∙ ap (λ l. third ++ l) logs.all);
    }

pub batch_noted : (batch : Batch) (tags : List (List ℕ × Value)) (keys : Keys) (none first second all spans : List Remark)
    → tags ≡ attributes_of batch.tags → AreRepeated keys (map attribute_of batch.tags) → AreNumbered RepeatsOfSpan jspan_remarks 1 batch.spans spans
    → none ≡ [] → first ≡ none ++ equal_keys places.Resource keys
    → second ≡ first ++ tags_dropped places.Resource (if_left service_key (is_some (at service_key tags)))
    → all ≡ second ++ spans → AreRemarks batch all
batch_noted batch tags keys none first second all spans same repeated noted e0 e1 e2 e3 =
    let left : second ≡ first ++ tags_dropped places.Resource (if_left service_key (is_some (at service_key (attributes_of batch.tags)))) =
    e2 ∙ ap (λ t. first ++ tags_dropped places.Resource (if_left service_key (is_some (at service_key t)))) same in
    record {
      process = keys;
      its_process = repeated;
      spans = noted.notes;
      its_spans = noted.theirs;
      all = three (equal_keys places.Resource keys)
          (tags_dropped places.Resource (if_left service_key (is_some (at service_key (attributes_of batch.tags)))))
          _ none first second all e0 e1 left (e3 ∙ ap (λ l. second ++ l) noted.all);
    }
