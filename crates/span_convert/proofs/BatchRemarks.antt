-- Each batch has one list of remarks.
use Rattle.std.proofs.Common.{◌≡◌, ◌++◌, ◌∷◌, List, [], map, is_some, refl, sym, ◌∙◌}
use Rattle.std.specs.List.{AllZip, zip}
use Rattle.span_io.proofs.RowLaws.{all_zip_once}
use Rattle.jaeger_model.specs.declared.batch.Batch.{Batch}
use Rattle.jaeger_model.specs.declared.span.JSpan.{JSpan}
use Rattle.jaeger_model.specs.declared.span.Log.{Log}
use Rattle.span_tags.specs.TagKeys.{service_key}
use Rattle.span_tags.specs.TagWords.{if_left}
use Rattle.trace_model.specs.Attributes.{at}
use Rattle.trace_model.specs.StatedLaws.{AttributesOnce, AttributesExist}
use Rattle.trace_model.specs.Remarks.{Keys, equal_keys, tags_dropped, numbered}
use Rattle.trace_model.specs.declared.place.Place.TheVariants as places
use Rattle.trace_model.specs.declared.remark.Remark.{Remark}
use Rattle.map_jaeger.specs.Reading.{attributes_of}
use Rattle.map_jaeger.specs.Remarks.{jspan_remarks, SpanKeys, RepeatsOf, RepeatsOfSpan, AreRemarks}
use Rattle.map_jaeger.specs.TagValues.{attribute_of}

-- the remarks by the keys that stand more than once
abbrev remarks_by : Batch → Keys → List SpanKeys → List Remark
remarks_by batch process spans = equal_keys places.Resource process
    ++ (tags_dropped places.Resource (if_left service_key (is_some (at service_key (attributes_of batch.tags))))
    ++ numbered jspan_remarks 1 (zip batch.spans spans))

-- ---- one list at most

module _ (once : AttributesOnce) where
  log_once : (log : Log) (a b : Keys) → RepeatsOf log a → RepeatsOf log b → a ≡ b
  log_once log a b h g = once.repeated (map attribute_of log.fields) a b h g

  span_once : (span : JSpan) (a b : SpanKeys) → RepeatsOfSpan span a → RepeatsOfSpan span b → a ≡ b
  span_once span a b h g =
      let own : a.span ≡ b.span = once.repeated (map attribute_of span.tags) a.span b.span h.tags g.tags in
      let logs : a.logs ≡ b.logs = all_zip_once RepeatsOf log_once span.logs a.logs b.logs h.logs g.logs in
      λ i. record { span = own i; logs = logs i }

  pub remarks_once : (batch : Batch) (a b : List Remark) → AreRemarks batch a → AreRemarks batch b → a ≡ b
  remarks_once batch a b h g =
      let process : h.process ≡ g.process = once.repeated (map attribute_of batch.tags) h.process g.process h.its_process g.its_process in
      let spans : h.spans ≡ g.spans = all_zip_once RepeatsOfSpan span_once batch.spans h.spans g.spans h.its_spans g.its_spans in
      h.all ∙ (λ i. remarks_by batch (process i) (spans i)) ∙ sym g.all

-- ---- some list

some_zip : {A B : Type 0} (R : A → B → Type 0) → ((x : A) → (y : B) × R x y) → (xs : List A) → (ys : List B) × AllZip R xs ys
some_zip R some [] = ([], tt)
some_zip R some (x ∷ xs) =
    let here = some x in
    let rest = some_zip R some xs in
    (here.0 ∷ rest.0, (here.1, rest.1))

module _ (exist : AttributesExist) where
  some_log : (log : Log) → (keys : Keys) × RepeatsOf log keys
  some_log log = exist.repeated (map attribute_of log.fields)

  some_span : (span : JSpan) → (keys : SpanKeys) × RepeatsOfSpan span keys
  some_span span =
      let own = exist.repeated (map attribute_of span.tags) in
      let logs = some_zip RepeatsOf some_log span.logs in
      (record { span = own.0; logs = logs.0 }, record { tags = own.1; logs = logs.1 })

  pub some_remarks : (batch : Batch) → (remarks : List Remark) × AreRemarks batch remarks
  some_remarks batch =
      let process = exist.repeated (map attribute_of batch.tags) in
      let spans = some_zip RepeatsOfSpan some_span batch.spans in
      (remarks_by batch process.0 spans.0, record { process = process.0; its_process = process.1; spans = spans.0; its_spans = spans.1; all = refl })
