-- The laws of pairs: what is so of each span is so of groups.
use Rattle.std.proofs.Common.{◌≡◌, List, [], ◌∷◌, map, All, get_or, sym, ap, ◌∙◌, subst}
use Rattle.std.proofs.lemmas.List.Elements.{All-nil, All-head, All-tail, All-append, All-map}
use Rattle.trace_model.specs.Attributes.{Rise, keys}
use Rattle.trace_model.specs.Soundness.{IsSoundSpan, IsSoundScope}
use Rattle.trace_model.specs.declared.span.Span.{Span}
use Rattle.trace_model.specs.declared.group.Group.{Group}
use Rattle.trace_model.specs.declared.group.Scope.{Scope}
use Rattle.span_tags.proofs.RunLaws.{scoped_runs, scoped_all}
use Rattle.span_tags.specs.Runs.{Scoped, under, scoped}
use Rattle.span_tags.proofs.FaultLaws.{plain_resource, plain_spans, none_counts}
use Rattle.map_jaeger.specs.Faults.{IsResourceFault, IsSpanFault, HasNoFault}
use Rattle.map_jaeger.specs.StatedLaws.{IsHeld, NormalForms}
use Rattle.map_jaeger.specs.Normal.{normal_scoped, normal_group, normal}
use Rattle.map_zipkin.specs.Faults.{IsZipkinResourceFault, IsZipkinSpanFault, HasNoZipkinFault}
use Rattle.map_zipkin.specs.StatedLaws.{IsHeldByZipkin, Regroupings, ZipkinNormalForms}
use Rattle.map_zipkin.specs.Normal.{zipkin_normal}
use Rattle.map_zipkin.specs.Regrouped.{RunSpan, in_scope, run_of, runs_of, regrouped}
use Rattle.span_moves.specs.Pairs.{FromJaegerToZipkin, FromZipkinToJaeger}
use Rattle.span_moves.proofs.JaegerFaults.{DoublesStay, no_jaeger_fault, resource_no_jaeger_fault, plain_for_jaeger}
use Rattle.span_moves.proofs.Lists.{third_stays}
use Rattle.span_moves.proofs.NoFault.{PlainResource, PlainSpan}
use Rattle.span_moves.proofs.RunSpans.{jaeger_run, zipkin_run, spans_in, run_of_zipkin, run_of_jaeger, zipkin_spans, jaeger_spans, IsRunOf, regrouped_all, Stays, regrouped_left}
use Rattle.span_moves.proofs.TextPairs.{resource_stays}
use Rattle.span_moves.proofs.ZipkinFaults.{no_zipkin_fault, resource_no_zipkin_fault, plain_for_zipkin}

-- ---- the groups stay

zipkin_by_spans : (groups : List Group) → zipkin_normal groups ≡ regrouped (map zipkin_run (spans_in groups))
zipkin_by_spans groups = ap regrouped (zipkin_spans groups)

-- what Jaeger leaves of what Zipkin leaves, span by span
both_by_spans : (l : List RunSpan) → normal (regrouped (map zipkin_run l)) ≡ regrouped (map jaeger_run (map zipkin_run l))
both_by_spans l = regrouped_left (map zipkin_run l)
    (All-map (λ (one : RunSpan). Stays one.0.resource) zipkin_run l (λ k d lt. resource_stays (get_or l k d).0.resource))

jaeger_stays : (groups : List Group) → normal groups ≡ groups → normal (zipkin_normal groups) ≡ zipkin_normal groups
jaeger_stays groups same =
    let left : spans_in groups ≡ map jaeger_run (spans_in groups) = ap spans_in (sym same) ∙ jaeger_spans groups in
    ap normal (zipkin_by_spans groups)
    ∙ both_by_spans (spans_in groups)
    ∙ ap (λ l. regrouped (map jaeger_run (map zipkin_run l))) left
    ∙ ap regrouped (third_stays jaeger_run zipkin_run jaeger_run zipkin_run run_of_zipkin (spans_in groups))
    ∙ ap (λ l. regrouped (map zipkin_run l)) (sym left)
    ∙ sym (zipkin_by_spans groups)

module _ (regroupings : Regroupings) where
  zipkin_stays : (groups : List Group) → zipkin_normal groups ≡ groups → zipkin_normal (normal groups) ≡ normal groups
  zipkin_stays groups same =
      let is : groups ≡ regrouped (map zipkin_run (spans_in groups)) = sym same ∙ zipkin_by_spans groups in
      let left : spans_in groups ≡ map zipkin_run (spans_in groups) = ap spans_in is ∙ regroupings.spans (map zipkin_run (spans_in groups)) in
      zipkin_by_spans (normal groups)
      ∙ ap (λ l. regrouped (map zipkin_run l)) (jaeger_spans groups)
      ∙ ap (λ l. regrouped (map zipkin_run (map jaeger_run l))) left
      ∙ ap regrouped (third_stays zipkin_run jaeger_run zipkin_run jaeger_run run_of_jaeger (spans_in groups))
      ∙ sym (both_by_spans (spans_in groups))
      ∙ ap normal (sym is)

-- ---- no fault arises

-- a span that both can hold
record IsHeldSpan (one : Scoped Span) : Type 0 where
  rising : Rise (keys one.span.attributes)
  jaeger : PlainSpan IsSpanFault one
  zipkin : PlainSpan IsZipkinSpanFault one

abbrev IsHeldRun : RunSpan → Type 0
IsHeldRun one = IsHeldSpan (in_scope one)

abbrev IsSoundOne : Scoped Span → Type 0
IsSoundOne one = IsSoundSpan one.span

sound_spans : (scopes : List Scope) → All IsSoundScope scopes → All IsSoundOne (scoped scopes)
sound_spans scopes sound = scoped_all IsSoundOne scopes
    (λ k d lt. let scope = get_or scopes k d in All-map IsSoundOne (under scope.name scope.version) scope.spans ((sound k d lt).spans))

held_spans : (group : Group) → IsHeld group → IsHeldByZipkin group → All IsHeldSpan (scoped group.scopes)
held_spans group jaeger zipkin k d lt = record {
  rising = (sound_spans group.scopes jaeger.sound.scopes k d lt).attributes.rising;
  jaeger = plain_spans IsResourceFault IsSpanFault group jaeger.no_fault k d lt;
  zipkin = plain_spans IsZipkinResourceFault IsZipkinSpanFault group zipkin.no_fault k d lt;
}

held_in : (groups : List Group) → All IsHeld groups → All IsHeldByZipkin groups → All IsHeldRun (spans_in groups)
held_in [] jaeger zipkin = All-nil IsHeldRun
held_in (group ∷ groups) jaeger zipkin = All-append IsHeldRun (runs_of group) (spans_in groups)
    (All-map IsHeldRun (run_of group.resource) (scoped group.scopes)
    (held_spans group (All-head IsHeld group groups jaeger) (All-head IsHeldByZipkin group groups zipkin)))
    (held_in groups (All-tail IsHeld group groups jaeger) (All-tail IsHeldByZipkin group groups zipkin))

module _ (stay : DoublesStay) where
  plain_run : (one : RunSpan) → IsHeldRun one → IsRunOf (PlainResource IsResourceFault) (PlainSpan IsSpanFault) (zipkin_run one)
  plain_run one held = (resource_no_jaeger_fault one.0.resource, no_jaeger_fault one.1 held.rising held.jaeger held.zipkin stay)

  plain_runs : (l : List RunSpan) → All IsHeldRun l → All (IsRunOf (PlainResource IsResourceFault) (PlainSpan IsSpanFault)) (map zipkin_run l)
  plain_runs l held = All-map (IsRunOf (PlainResource IsResourceFault) (PlainSpan IsSpanFault)) zipkin_run l (λ k d lt. plain_run (get_or l k d) (held k d lt))

  without_jaeger_fault : (groups : List Group) → All IsHeld groups → All IsHeldByZipkin groups → All HasNoFault (zipkin_normal groups)
  without_jaeger_fault groups jaeger zipkin =
      let l = map zipkin_run (spans_in groups) in
      let all = regrouped_all (PlainResource IsResourceFault) (PlainSpan IsSpanFault) l (plain_runs (spans_in groups) (held_in groups jaeger zipkin)) in
      subst (All HasNoFault) (sym (zipkin_by_spans groups))
      (λ k d lt. let its = all k d lt in none_counts IsResourceFault IsSpanFault plain_for_jaeger (get_or (regrouped l) k d) its.0 its.1)

without_zipkin_fault : (group : Group) → HasNoZipkinFault group → HasNoZipkinFault (normal_group group)
without_zipkin_fault group none = none_counts IsZipkinResourceFault IsZipkinSpanFault plain_for_zipkin (normal_group group)
    (resource_no_zipkin_fault group.resource (plain_resource IsZipkinResourceFault IsZipkinSpanFault group none))
    (subst (All (PlainSpan IsZipkinSpanFault)) (sym (scoped_runs (map normal_scoped (scoped group.scopes))))
    (All-map (PlainSpan IsZipkinSpanFault) normal_scoped (scoped group.scopes)
    (λ k d lt. no_zipkin_fault (get_or (scoped group.scopes) k d).span (plain_spans IsZipkinResourceFault IsZipkinSpanFault group none k d lt))))

-- ---- the laws

pub from_jaeger_to_zipkin : DoublesStay → ZipkinNormalForms → FromJaegerToZipkin
from_jaeger_to_zipkin stay forms = record {
  held = λ groups jaeger zipkin k d lt. record {
    sound = (forms.held groups zipkin k d lt).sound;
    proper = (forms.held groups zipkin k d lt).proper;
    no_fault = without_jaeger_fault stay groups jaeger zipkin k d lt;
  };
  itself = jaeger_stays;
}

pub from_zipkin_to_jaeger : NormalForms → Regroupings → FromZipkinToJaeger
from_zipkin_to_jaeger forms regroupings = record {
  held = λ groups zipkin jaeger. All-map IsHeldByZipkin normal_group groups (λ k d lt.
      let group = get_or groups k d in
      record {
        sound = (forms.held group (jaeger k d lt)).sound;
        proper = (forms.held group (jaeger k d lt)).proper;
        no_fault = without_zipkin_fault group (zipkin k d lt).no_fault;
      });
  itself = zipkin_stays regroupings;
}
