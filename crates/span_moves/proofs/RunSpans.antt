-- Spans in their runs, and the groups that they make: what Jaeger and Zipkin leave of groups, by what they leave of each span.
--     jaeger_run one, zipkin_run one     the span, its scope and its resource
use Rattle.std.proofs.Common.{◌≡◌, Bool, true, false, List, [], ◌∷◌, ◌++◌, map, All, refl, sym, ap, ◌∙◌, subst}
use Rattle.std.specs.Prelude.{if◌then◌else◌}
use Rattle.std.specs.List.{flat_map}
use Rattle.std.proofs.lemmas.List.{map-append}
use Rattle.std.proofs.lemmas.List.Elements.{All-nil, All-cons, All-head, All-tail}
use Rattle.trace_model.specs.declared.group.Group.{Group}
use Rattle.trace_model.specs.declared.span.Span.{Span}
use Rattle.span_tags.proofs.RunLaws.{in_front_spans, scoped_runs}
use Rattle.span_tags.specs.Runs.{Scoped, scoped, in_front, runs}
use Rattle.span_tags.specs.TagKeys.{service_key}
use Rattle.span_tags.specs.TagWords.{Pairs}
use Rattle.map_jaeger.specs.Normal.{normal_resource, normal_span, normal_scoped, normal_group, normal}
use Rattle.map_zipkin.specs.Normal.{normal_pairs, zipkin_normal_span, normal_one, normal_spans}
use Rattle.map_zipkin.specs.Regrouped.{RunSpan, in_scope, run_of, runs_of, same_resource, plain_group, group_of_one, before, regrouped}
use Rattle.span_moves.proofs.SpanRows.{span_of_zipkin, span_of_jaeger}
use Rattle.span_moves.proofs.TextPairs.{left_again, resource_stays}

abbrev pub jaeger_run : RunSpan → RunSpan
jaeger_run one = (record { resource = normal_resource one.0.resource; name = one.0.name; version = one.0.version }, normal_span one.1)

abbrev pub zipkin_run : RunSpan → RunSpan
zipkin_run one = (record { resource = normal_pairs service_key one.0.resource; name = one.0.name; version = one.0.version }, zipkin_normal_span one.1)

abbrev pub spans_in : List Group → List RunSpan
spans_in groups = flat_map runs_of groups

-- ---- one span after both

pub run_of_zipkin : (one : RunSpan) → jaeger_run (zipkin_run (jaeger_run one)) ≡ zipkin_run (jaeger_run one)
run_of_zipkin one =
    let resource = resource_stays (normal_resource one.0.resource) in
    let span = span_of_zipkin one.1 in
    λ i. (record { resource = resource i; name = one.0.name; version = one.0.version }, span i)

resource_again : (resource : Pairs) → normal_pairs service_key (normal_resource (normal_pairs service_key resource)) ≡ normal_resource (normal_pairs service_key resource)
resource_again resource = ap (normal_pairs service_key) (resource_stays resource) ∙ left_again service_key resource ∙ sym (resource_stays resource)

pub run_of_jaeger : (one : RunSpan) → zipkin_run (jaeger_run (zipkin_run one)) ≡ jaeger_run (zipkin_run one)
run_of_jaeger one =
    let resource = resource_again one.0.resource in
    let span = span_of_jaeger one.1 in
    λ i. (record { resource = resource i; name = one.0.name; version = one.0.version }, span i)

-- ---- the spans of what is left

zipkin_each : (resource : Pairs) (l : List (Scoped Span)) → map (normal_one resource) l ≡ map zipkin_run (map (run_of resource) l)
zipkin_each resource [] = refl
zipkin_each resource (one ∷ l) = ap (λ (rest : List RunSpan). normal_one resource one ∷ rest) (zipkin_each resource l)

jaeger_each : (resource : Pairs) (l : List (Scoped Span)) → map (run_of (normal_resource resource)) (map normal_scoped l) ≡ map jaeger_run (map (run_of resource) l)
jaeger_each resource [] = refl
jaeger_each resource (one ∷ l) = ap (λ (rest : List RunSpan). jaeger_run (run_of resource one) ∷ rest) (jaeger_each resource l)

-- those that Zipkin puts into runs
pub zipkin_spans : (groups : List Group) → flat_map normal_spans groups ≡ map zipkin_run (spans_in groups)
zipkin_spans [] = refl
zipkin_spans (group ∷ groups) =
    (λ i. zipkin_each group.resource (scoped group.scopes) i ++ zipkin_spans groups i)
    ∙ sym (map-append zipkin_run (runs_of group) (spans_in groups))

-- those of the groups that Jaeger leaves
pub jaeger_spans : (groups : List Group) → spans_in (normal groups) ≡ map jaeger_run (spans_in groups)
jaeger_spans [] = refl
jaeger_spans (group ∷ groups) =
    ap (λ l. map (run_of (normal_resource group.resource)) l ++ spans_in (normal groups)) (scoped_runs (map normal_scoped (scoped group.scopes)))
    ∙ (λ i. jaeger_each group.resource (scoped group.scopes) i ++ jaeger_spans groups i)
    ∙ sym (map-append jaeger_run (runs_of group) (spans_in groups))

-- ---- what all spans and their runs have, the groups have

module _ (R : Pairs → Type 0) (S : Scoped Span → Type 0) where
  abbrev pub IsRunOf : RunSpan → Type 0
  IsRunOf one = R one.0.resource × S (in_scope one)

  abbrev pub IsGroupOf : Group → Type 0
  IsGroupOf group = R group.resource × All S (scoped group.scopes)

  before_all : (one : RunSpan) (groups : List Group) → IsRunOf one → All IsGroupOf groups → All IsGroupOf (before one groups)
  before_all one [] its all = All-cons IsGroupOf (group_of_one one) [] (its.0, All-cons S (in_scope one) [] its.1 (All-nil S)) (All-nil IsGroupOf)
  before_all one (group ∷ groups) its all = by (same_resource one.0.resource group.resource)
    where
      first : IsGroupOf group
      first = All-head IsGroupOf group groups all

      by : (b : Bool) → All IsGroupOf (if b then plain_group group.resource (in_front (in_scope one) group.scopes) ∷ groups else group_of_one one ∷ group ∷ groups)
      by true = All-cons IsGroupOf (plain_group group.resource (in_front (in_scope one) group.scopes)) groups
          (first.0, subst (All S) (sym (in_front_spans (in_scope one) group.scopes)) (All-cons S (in_scope one) (scoped group.scopes) its.1 first.1))
          (All-tail IsGroupOf group groups all)
      by false = All-cons IsGroupOf (group_of_one one) (group ∷ groups) (its.0, All-cons S (in_scope one) [] its.1 (All-nil S)) all

  pub regrouped_all : (l : List RunSpan) → All IsRunOf l → All IsGroupOf (regrouped l)
  regrouped_all [] all = All-nil IsGroupOf
  regrouped_all (one ∷ more) all = before_all one (regrouped more) (All-head IsRunOf one more all) (regrouped_all more (All-tail IsRunOf one more all))

-- ---- what Jaeger leaves of groups of runs whose resources it leaves

abbrev pub Stays : Pairs → Type 0
Stays resource = normal_resource resource ≡ resource

-- one more span before a group and others, where it is of the group or not
abbrev one_before : RunSpan → Group → List Group → Bool → List Group
one_before one group groups same =
    if same then plain_group group.resource (in_front (in_scope one) group.scopes) ∷ groups
    else group_of_one one ∷ group ∷ groups

before_by : (one : RunSpan) (group : Group) (groups : List Group) (same : Bool)
    → normal (one_before one group groups same) ≡ one_before (jaeger_run one) (normal_group group) (normal groups) same
before_by one group groups true =
    ap (λ (l : List (Scoped Span)). plain_group (normal_resource group.resource) (runs (map normal_scoped l)) ∷ normal groups) (in_front_spans (in_scope one) group.scopes)
before_by one group groups false = refl

left_before : (one : RunSpan) (groups : List Group) → Stays one.0.resource → All (λ (group : Group). Stays group.resource) groups
    → normal (before one groups) ≡ before (jaeger_run one) (normal groups)
left_before one [] here stay = refl
left_before one (group ∷ groups) here stay =
    let first : Stays group.resource = All-head (λ (g : Group). Stays g.resource) group groups stay in
    let same : same_resource one.0.resource group.resource ≡ same_resource (normal_resource one.0.resource) (normal_resource group.resource) =
    λ i. same_resource (sym here i) (sym first i) in
    before_by one group groups (same_resource one.0.resource group.resource)
    ∙ ap (one_before (jaeger_run one) (normal_group group) (normal groups)) same

pub regrouped_left : (l : List RunSpan) → All (λ one. Stays one.0.resource) l → normal (regrouped l) ≡ regrouped (map jaeger_run l)
regrouped_left [] stay = refl
regrouped_left (one ∷ more) stay =
    let rest : All (λ (next : RunSpan). Stays next.0.resource) more = All-tail (λ (next : RunSpan). Stays next.0.resource) one more stay in
    left_before one (regrouped more) (All-head (λ (next : RunSpan). Stays next.0.resource) one more stay) (stay_all more rest)
    ∙ ap (before (jaeger_run one)) (regrouped_left more rest)
  where
    stay_all : (runs : List RunSpan) → All (λ (next : RunSpan). Stays next.0.resource) runs → All (λ (group : Group). Stays group.resource) (regrouped runs)
    stay_all runs all k d lt = (regrouped_all Stays (λ span. Unit {0}) runs (λ n e low. (all n e low, tt)) k d lt).0
