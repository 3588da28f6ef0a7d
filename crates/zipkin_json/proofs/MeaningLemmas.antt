-- What is written of a span means this span.
use Rattle.std.proofs.Common.{◌≡◌, ℕ, zero, suc, ◌+◌, ◌-◌, ◌<◌, ◌≤◌, List, [], ◌∷◌, map, false, Option, Some, None, option_map, codes, refl, sym, ap, subst, arith}
use Rattle.std.specs.List.{All, AllZip}
use Rattle.std.proofs.lemmas.List.Elements.{All-head, All-tail}
use Rattle.serde_json.specs.Data.{string, object}
use Rattle.serde_json.specs.View.{items_of}
use Rattle.span_ids.specs.StatedLaws.{IdentifiersReadBack}
use Rattle.span_ids.specs.Times.{micros, nanos, last_micros, IsWhole}
use Rattle.span_ids.specs.declared.hex_text.IdRule.TheVariants.{Padded}
use Rattle.span_io.specs.Paths.{Given, Never}
use Rattle.json_members.specs.Canonical.{text_data, count_data, truth_data, members_given, trace_id_text, span_id_text}
use Rattle.zipkin_json.specs.Canonical.{endpoint_rows, endpoint_data, annotation_json, annotations_data, tag_members, tags_data, kind_data, zspan_rows, span_json, spans_json}
use Rattle.zipkin_json.specs.Identifiers.{SpellsTrace, SpellsSpan, SpellsParent}
use Rattle.json_members.proofs.MeaningLaws.{given_row, text_again, count_again, truth_again}
use Rattle.json_members.specs.Members.{unless_null, member, elements, IsText, IsTruth, IsCount, Spelled}
use Rattle.zipkin_json.specs.Members.{IsPort}
use Rattle.span_ids.specs.Proper.{IsProperTraceId, IsProperSpanId, IsProperParent}
use Rattle.zipkin_json.specs.Proper.{IsProperEndpoint, IsProperAnnotation, IsTimelyAnnotation, IsWritableZSpan}
use Rattle.zipkin_json.specs.Span.{SpellsKind, IsEndpoint, no_endpoint, IsAnnotation, AreAnnotations, texts_in, AreTags, IsZSpan, AreSpans}
use Rattle.zipkin_json.specs.declared.span.Endpoint.{Endpoint}
use Rattle.zipkin_json.specs.declared.span.ZKind.{ZKind}
use Rattle.zipkin_json.specs.declared.span.ZKind.TheVariants as kinds
use Rattle.zipkin_json.specs.declared.span.ZSpan.{ZSpan}
use Rattle.zipkin_json.proofs.WritingLemmas.{endpoint_there}

-- ---- values of one member

port_again : (port : ℕ) → port < 65536 → Given IsPort (λ p. p ≡ 0) port (unless_null (count_data port))
port_again zero fits = refl
port_again (suc n) fits = (refl, omega arith)

kind_again : (kind : ZKind) → Given (Spelled SpellsKind) (λ k. k ≡ kinds.Absent) kind (unless_null (kind_data kind))
kind_again kinds.Absent = refl
kind_again kinds.Client = record { held = codes "CLIENT"; shape = refl; means = refl }
kind_again kinds.Server = record { held = codes "SERVER"; shape = refl; means = refl }
kind_again kinds.Producer = record { held = codes "PRODUCER"; shape = refl; means = refl }
kind_again kinds.Consumer = record { held = codes "CONSUMER"; shape = refl; means = refl }

module _ (ids : IdentifiersReadBack) where
  trace_again : (id : ℕ) → IsProperTraceId id → Spelled SpellsTrace id (string (trace_id_text id))
  trace_again id h = record { held = trace_id_text id; shape = refl; means = ids.trace_in_hex Padded id h.0 h.1 }

  id_again : (id : ℕ) → IsProperSpanId id → Spelled SpellsSpan id (string (span_id_text id))
  id_again id h = record { held = span_id_text id; shape = refl; means = ids.span_in_hex Padded id h.0 h.1 }

  parent_again : (parent : Option ℕ) → IsProperParent parent → Given (Spelled SpellsParent) (λ p. p ≡ None) parent (unless_null (option_map (λ id. string (span_id_text id)) parent))
  parent_again None h = refl
  parent_again (Some id) h = record { held = span_id_text id; shape = refl; means = ids.span_in_hex Padded id h.0 h.1 }

-- ---- endpoints

endpoint_means : (e : Endpoint) → IsProperEndpoint e → IsEndpoint e (object (members_given (endpoint_rows e)))
endpoint_means e h = record {
  shape = refl;
  service = given_row IsText (λ t. t ≡ []) e.service (codes "serviceName") (endpoint_rows e) (text_data e.service) refl (text_again e.service);
  ipv4 = given_row IsText (λ t. t ≡ []) e.ipv4 (codes "ipv4") (endpoint_rows e) (text_data e.ipv4) refl (text_again e.ipv4);
  ipv6 = given_row IsText (λ t. t ≡ []) e.ipv6 (codes "ipv6") (endpoint_rows e) (text_data e.ipv6) refl (text_again e.ipv6);
  port = given_row IsPort (λ p. p ≡ 0) e.port (codes "port") (endpoint_rows e) (count_data e.port) refl (port_again e.port h.port);
}

endpoint_again : (e : Endpoint) → IsProperEndpoint e → Given IsEndpoint (λ e. e ≡ no_endpoint) e (unless_null (endpoint_data e))
endpoint_again e h = on e.ipv4 e.ipv6 e.port e.service refl refl refl refl
  where
    there : ((e.ipv4 ≡ []) × (e.ipv6 ≡ []) × (e.port ≡ 0) × (e.service ≡ []) → ⊥) → Given IsEndpoint (λ e. e ≡ no_endpoint) e (unless_null (endpoint_data e))
    there some = subst (λ o. Given IsEndpoint (λ e. e ≡ no_endpoint) e (unless_null o)) (sym (endpoint_there e.ipv4 e.ipv6 e.port e.service some)) (endpoint_means e h)

    on : (ipv4 ipv6 : List ℕ) (port : ℕ) (service : List ℕ) → e.ipv4 ≡ ipv4 → e.ipv6 ≡ ipv6 → e.port ≡ port → e.service ≡ service
        → Given IsEndpoint (λ e. e ≡ no_endpoint) e (unless_null (endpoint_data e))
    on (x ∷ ipv4) ipv6 port service i j p s = there (λ h. let a = h.0 in cc)
    on [] (x ∷ ipv6) port service i j p s = there (λ h. let a = h.1 in cc)
    on [] [] (suc port) service i j p s = there (λ h. let a = h.2 in omega arith)
    on [] [] zero (x ∷ service) i j p s = there (λ h. let a = h.3 in cc)
    on [] [] zero [] i j p s = rw (i, j, p, s) refl

-- ---- annotations and tags

whole_micros : (time : ℕ) → IsWhole time → time ≡ nanos (micros time)
whole_micros time h = omega (arith, h)

fits_micros : (time : ℕ) → time < 18446744073709551616 → micros time ≤ last_micros
fits_micros time h = omega (arith, h)

annotation_again : (a : ℕ × List ℕ) → IsProperAnnotation a → IsTimelyAnnotation a → IsAnnotation a (annotation_json a)
unfolding member
annotation_again a proper timely = record {
  shape = refl;
  timestamp = micros a.0;
  its_timestamp = refl;
  fits = fits_micros a.0 proper.0;
  time = whole_micros a.0 timely;
  value = refl;
}

each_annotation : (list : List (ℕ × List ℕ)) → All IsProperAnnotation list → All IsTimelyAnnotation list
    → AllZip (λ d x. IsAnnotation x d) (elements (items_of (map annotation_json list))) list
each_annotation [] proper timely = tt
each_annotation (a ∷ list) proper timely = (
  annotation_again a (All-head IsProperAnnotation a list proper) (All-head IsTimelyAnnotation a list timely),
  each_annotation list (All-tail IsProperAnnotation a list proper) (All-tail IsTimelyAnnotation a list timely),
)

annotations_again : (list : List (ℕ × List ℕ)) → All IsProperAnnotation list → All IsTimelyAnnotation list
    → Given AreAnnotations (λ l. l ≡ []) list (unless_null (annotations_data list))
annotations_again [] proper timely = refl
annotations_again (a ∷ list) proper timely = record { held = _; shape = refl; means = each_annotation (a ∷ list) proper timely }

tags_in_members : (tags : List (List ℕ × List ℕ)) → texts_in (tag_members tags) ≡ Some tags
tags_in_members [] = refl
tags_in_members (tag ∷ tags) = ap (λ o. option_map (λ texts. (tag.0, tag.1) ∷ texts) o) (tags_in_members tags)

tags_again : (tags : List (List ℕ × List ℕ)) → Given AreTags (λ t. t ≡ []) tags (unless_null (tags_data tags))
tags_again [] = refl
tags_again (tag ∷ tags) = record { held = _; shape = refl; means = tags_in_members (tag ∷ tags) }

-- ---- spans

sum_fits : (start end : ℕ) → start ≤ end → end < 18446744073709551616 → micros start + (micros end - micros start) ≤ last_micros
sum_fits start end order h = omega (arith, order, h)

sum_ends : (start end : ℕ) → start ≤ end → IsWhole end → end ≡ nanos (micros start + (micros end - micros start))
sum_ends start end order h = omega (arith, order, h)

module _ (ids : IdentifiersReadBack) where
  pub span_again : (s : ZSpan) → IsWritableZSpan s → IsZSpan s (span_json s)
  span_again s h = record {
    shape = refl;
    trace = given_row (Spelled SpellsTrace) Never s.trace (codes "traceId") (zspan_rows s) (Some (string (trace_id_text s.trace))) refl (trace_again ids s.trace h.proper.trace);
    id = given_row (Spelled SpellsSpan) Never s.id (codes "id") (zspan_rows s) (Some (string (span_id_text s.id))) refl (id_again ids s.id h.proper.id);
    parent = given_row (Spelled SpellsParent) (λ p. p ≡ None) s.parent (codes "parentId") (zspan_rows s) (option_map (λ id. string (span_id_text id)) s.parent) refl (parent_again ids s.parent h.proper.parent);
    name = given_row IsText (λ t. t ≡ []) s.name (codes "name") (zspan_rows s) (text_data s.name) refl (text_again s.name);
    kind = given_row (Spelled SpellsKind) (λ k. k ≡ kinds.Absent) s.kind (codes "kind") (zspan_rows s) (kind_data s.kind) refl (kind_again s.kind);
    timestamp = micros s.start;
    its_timestamp = given_row IsCount (λ c. c ≡ 0) (micros s.start) (codes "timestamp") (zspan_rows s) (count_data (micros s.start)) refl (count_again (micros s.start));
    start = whole_micros s.start h.timely.start;
    duration = micros s.end - micros s.start;
    its_duration = given_row IsCount (λ c. c ≡ 0) (micros s.end - micros s.start) (codes "duration") (zspan_rows s) (count_data (micros s.end - micros s.start)) refl (count_again (micros s.end - micros s.start));
    sum = sum_fits s.start s.end h.timely.order h.proper.end;
    end = sum_ends s.start s.end h.timely.order h.timely.end;
    debug = given_row IsTruth (λ t. t ≡ false) s.debug (codes "debug") (zspan_rows s) (truth_data s.debug) refl (truth_again s.debug);
    shared = given_row IsTruth (λ t. t ≡ false) s.shared (codes "shared") (zspan_rows s) (truth_data s.shared) refl (truth_again s.shared);
    local = given_row IsEndpoint (λ e. e ≡ no_endpoint) s.local (codes "localEndpoint") (zspan_rows s) (endpoint_data s.local) refl (endpoint_again s.local h.proper.local);
    remote = given_row IsEndpoint (λ e. e ≡ no_endpoint) s.remote (codes "remoteEndpoint") (zspan_rows s) (endpoint_data s.remote) refl (endpoint_again s.remote h.proper.remote);
    annotations = given_row AreAnnotations (λ l. l ≡ []) s.annotations (codes "annotations") (zspan_rows s) (annotations_data s.annotations) refl (annotations_again s.annotations h.proper.annotations h.timely.annotations);
    tags = given_row AreTags (λ t. t ≡ []) s.tags (codes "tags") (zspan_rows s) (tags_data s.tags) refl (tags_again s.tags);
  }

  each_span : (spans : List ZSpan) → All IsWritableZSpan spans → AllZip (λ d x. IsZSpan x d) (elements (items_of (map span_json spans))) spans
  each_span [] h = tt
  each_span (s ∷ spans) h = (span_again s (All-head IsWritableZSpan s spans h), each_span spans (All-tail IsWritableZSpan s spans h))

  pub spans_again : (spans : List ZSpan) → All IsWritableZSpan spans → AreSpans spans (spans_json spans)
  spans_again spans h = record { held = _; shape = refl; means = each_span spans h }
