-- The laws of groups: a batch that was written is read as the normal form of its group without a remark, the
-- normal form is its own, and what is read is its own.
use Rattle.std.proofs.Common.{◌≡◌, ℕ, suc, List, [], ◌∷◌, ◌++◌, map, get_or, All, is_some, refl, sym, ap, ◌∙◌, subst}
use Rattle.std.specs.Prelude.{◌↔◌}
use Rattle.std.specs.List.{AllZip, zip}
use Rattle.std.proofs.lemmas.List.Elements.{All-head, All-tail, All-map}
use Rattle.jaeger_model.specs.declared.batch.Batch.{Batch}
use Rattle.jaeger_model.specs.declared.span.JSpan.{JSpan}
use Rattle.trace_model.specs.Attributes.{AreRepeated}
use Rattle.trace_model.specs.Remarks.{tags_dropped, numbered}
use Rattle.trace_model.specs.declared.place.Place.TheVariants as places
use Rattle.trace_model.specs.declared.span.Span.{Span}
use Rattle.trace_model.specs.declared.group.Group.{Group}
use Rattle.span_tags.proofs.RunLaws.{scoped_runs}
use Rattle.span_tags.specs.Runs.{Scoped, scoped, runs}
use Rattle.span_tags.specs.TagKeys.{service_key}
use Rattle.span_tags.specs.TagWords.{without, if_left}
use Rattle.map_jaeger.specs.Faults.{HasNoFault}
use Rattle.map_jaeger.specs.StatedLaws.{IsHeld, BatchesReadBack, NormalForms, IsTimely, ReadIsNormal}
use Rattle.map_jaeger.specs.Normal.{normal_span, normal_scoped, normal_resource, normal_group}
use Rattle.map_jaeger.specs.Reading.{scoped_of, group_of}
use Rattle.map_jaeger.specs.Remarks.{RepeatsOfSpan, AreRemarks, jspan_remarks}
use Rattle.map_jaeger.specs.TagValues.{tag_of}
use Rattle.map_jaeger.specs.Writing.{jaeger_span, batch_of}
use Rattle.map_jaeger.proofs.GroupLeaves.{map_back, tags_same}
use Rattle.map_jaeger.proofs.GroupProper.{TextsAreUtf8, resource_proper}
use Rattle.map_jaeger.proofs.GroupResource.{other_attributes, others_rise, resource_back, without_normal, name_normal, normal_itself, normal_plain, normal_is_sound, process_none, read_plain, resource_read}
use Rattle.map_jaeger.proofs.GroupSpans.{NoSpanFault, IsHeldSpan, held_spans, held_by, no_fault_by}
use Rattle.map_jaeger.proofs.SpanBack.{NoneRepeated, no_repeats, span_back, span_plain}
use Rattle.map_jaeger.proofs.SpanNormal.{normal_no_fault, normal_sound, normal_normal, normal_proper, normal_same}
use Rattle.map_jaeger.proofs.SpanParts.{back_each}
use Rattle.map_jaeger.proofs.SpanRead.{read_no_fault, read_normal}

-- ---- normal forms of spans

one_itself : (one : Scoped Span) → IsHeldSpan one → normal_scoped (normal_scoped one) ≡ normal_scoped one
one_itself one held =
    let alike : normal_span (normal_span one.span) ≡ normal_span one.span = normal_normal one.span held.sound held.proper held.no_fault in
    λ i. record { name = one.name; version = one.version; span = alike i }

all_held : TextsAreUtf8 → (spans : List (Scoped Span)) → All IsHeldSpan spans → All IsHeldSpan (map normal_scoped spans)
all_held utf8 spans held = All-map IsHeldSpan normal_scoped spans (λ k d lt. one_held (get_or spans k d) (held k d lt))
  where
    one_held : (one : Scoped Span) → IsHeldSpan one → IsHeldSpan (normal_scoped one)
    one_held one known = record {
      name = known.name;
      version = known.version;
      sound = normal_sound one.span known.sound known.proper known.no_fault;
      proper = normal_proper one.span known.sound known.proper known.no_fault utf8;
      no_fault = normal_no_fault one.span known.sound known.proper known.no_fault;
    }

-- ---- written and read

batch_means : (group : Group) → IsHeld group → group_of (batch_of group) ≡ normal_group group
batch_means group held =
    let resource = resource_back group.resource held.sound.resource.rising in
    let known = held_spans group held in
    let spans : map scoped_of (map jaeger_span (scoped group.scopes)) ≡ map normal_scoped (scoped group.scopes) =
    back_each scoped_of jaeger_span normal_scoped (scoped group.scopes)
    (λ k d lt. span_back (get_or (scoped group.scopes) k d) (known k d lt).sound (known k d lt).proper (known k d lt).no_fault) in
    λ i. record { resource = resource i; dropped = 0; schema_url = []; scopes = runs (spans i) }

module _ (unrepeated : NoneRepeated) where
  repeats : (spans : List (Scoped Span)) → All IsHeldSpan spans → AllZip RepeatsOfSpan (map jaeger_span spans) (map no_repeats spans)
  repeats [] held = tt
  repeats (one ∷ more) held =
      let known = All-head IsHeldSpan one more held in
      ((span_plain one known.sound known.proper known.no_fault unrepeated).0, repeats more (All-tail IsHeldSpan one more held))

  quiet : (n : ℕ) (spans : List (Scoped Span)) → All IsHeldSpan spans → numbered jspan_remarks n (zip (map jaeger_span spans) (map no_repeats spans)) ≡ []
  unfolding numbered
  quiet n [] held = refl
  quiet n (one ∷ more) held =
      let known = All-head IsHeldSpan one more held in
      ap (λ l. l ++ numbered jspan_remarks (suc n) (zip (map jaeger_span more) (map no_repeats more))) ((span_plain one known.sound known.proper known.no_fault unrepeated).1 n)
      ∙ quiet (suc n) more (All-tail IsHeldSpan one more held)

  batch_plainly : (group : Group) → IsHeld group → AreRemarks (batch_of group) []
  batch_plainly group held =
      let up = held.sound.resource.rising in
      let spans = scoped group.scopes in
      let known = held_spans group held in
      record {
        process = [];
        its_process = subst (AreRepeated []) (sym (map_back (without service_key group.resource))) (unrepeated (other_attributes group.resource) (others_rise group.resource up));
        spans = map no_repeats spans;
        its_spans = repeats spans known;
        all = sym (ap (λ o. tags_dropped places.Resource (if_left service_key (is_some o)) ++ numbered jspan_remarks 1 (zip (map jaeger_span spans) (map no_repeats spans))) (process_none group.resource up)
            ∙ quiet 1 spans known);
      }

  pub batches_read_back : BatchesReadBack
  batches_read_back = record { means = batch_means; plainly = batch_plainly }

-- ---- normal forms

normal_again : (group : Group) → IsHeld group → normal_group (normal_group group) ≡ normal_group group
normal_again group held =
    let resource = normal_itself group.resource held.sound.resource.rising in
    let known = held_spans group held in
    let spans : map normal_scoped (scoped (runs (map normal_scoped (scoped group.scopes)))) ≡ map normal_scoped (scoped group.scopes) =
    ap (map normal_scoped) (scoped_runs (map normal_scoped (scoped group.scopes)))
    ∙ back_each normal_scoped normal_scoped normal_scoped (scoped group.scopes) (λ k d lt. one_itself (get_or (scoped group.scopes) k d) (known k d lt)) in
    λ i. record { resource = resource i; dropped = 0; schema_url = []; scopes = runs (spans i) }

normal_written : (group : Group) → IsHeld group → batch_of (normal_group group) ≡ batch_of group
normal_written group held =
    let up = held.sound.resource.rising in
    let service = name_normal group.resource up in
    let tags = ap (map tag_of) (without_normal group.resource up) ∙ tags_same (without service_key group.resource) in
    let known = held_spans group held in
    let spans : map jaeger_span (scoped (runs (map normal_scoped (scoped group.scopes)))) ≡ map jaeger_span (scoped group.scopes) =
    ap (map jaeger_span) (scoped_runs (map normal_scoped (scoped group.scopes)))
    ∙ back_each jaeger_span normal_scoped jaeger_span (scoped group.scopes)
    (λ k d lt. normal_same (get_or (scoped group.scopes) k d) (known k d lt).sound (known k d lt).proper (known k d lt).no_fault) in
    λ i. record { service = service i; tags = tags i; spans = spans i }

normal_equal : (a b : Group) → IsHeld a → IsHeld b → (batch_of a ≡ batch_of b) ↔ (normal_group a ≡ normal_group b)
normal_equal a b held_a held_b = (
  λ same. sym (batch_means a held_a) ∙ ap group_of same ∙ batch_means b held_b,
  λ same. sym (normal_written a held_a) ∙ ap batch_of same ∙ normal_written b held_b,
)

module _ (utf8 : TextsAreUtf8) where
  normal_held : (group : Group) → IsHeld group → IsHeld (normal_group group)
  normal_held group held =
      let up = held.sound.resource.rising in
      held_by (normal_resource group.resource) (map normal_scoped (scoped group.scopes))
      (normal_is_sound group.resource up) (resource_proper utf8 group.resource held.proper.resource) (normal_plain group.resource up)
      (all_held utf8 (scoped group.scopes) (held_spans group held))

  pub normal_forms : NormalForms
  normal_forms = record { held = normal_held; itself = normal_again; same_batch = normal_written; equal = normal_equal }

-- ---- read

one_read : (span : JSpan) → IsTimely span → normal_scoped (scoped_of span) ≡ scoped_of span
one_read span timely =
    let alike : normal_span (scoped_of span).span ≡ (scoped_of span).span = read_normal span timely in
    λ i. record { name = (scoped_of span).name; version = (scoped_of span).version; span = alike i }

read_plainly : (batch : Batch) → All IsTimely batch.spans → HasNoFault (group_of batch)
read_plainly batch timely = no_fault_by (group_of batch) (read_plain batch)
    (subst (All (λ one. NoSpanFault one.span)) (sym (scoped_runs (map scoped_of batch.spans)))
    (All-map (λ one. NoSpanFault one.span) scoped_of batch.spans (λ k d lt. read_no_fault (get_or batch.spans k d) (timely k d lt))))

read_again : (batch : Batch) → All IsTimely batch.spans → normal_group (group_of batch) ≡ group_of batch
read_again batch timely =
    let resource = resource_read batch in
    let spans : map normal_scoped (scoped (runs (map scoped_of batch.spans))) ≡ map scoped_of batch.spans =
    ap (map normal_scoped) (scoped_runs (map scoped_of batch.spans))
    ∙ back_each normal_scoped scoped_of scoped_of batch.spans (λ k d lt. one_read (get_or batch.spans k d) (timely k d lt)) in
    λ i. record { resource = resource i; dropped = 0; schema_url = []; scopes = runs (spans i) }

pub read_is_normal : ReadIsNormal
read_is_normal = record { no_fault = read_plainly; itself = read_again }
