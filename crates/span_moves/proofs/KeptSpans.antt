-- The spans of a normal form are those of the trace, in order, each taken by one function, which keeps what is to be kept.
use Rattle.std.proofs.Common.{◌≡◌, ℕ, List, [], ◌∷◌, ◌++◌, map, length, refl, sym, ap, ◌∙◌, subst, arith}
use Rattle.std.specs.List.{AllZip, flat_map}
use Rattle.std.proofs.lemmas.Grind.{flat_map-append}
use Rattle.std.proofs.lemmas.List.{map-append, length-map}
use Rattle.span_ids.specs.Times.{micros, floor}
use Rattle.span_io.proofs.RowLaws.{all_zip_self}
use Rattle.trace_model.specs.Flat.{flat}
use Rattle.trace_model.specs.declared.span.Code.{Code}
use Rattle.trace_model.specs.declared.span.Code.TheVariants as statuses
use Rattle.trace_model.specs.declared.span.Event.{Event}
use Rattle.trace_model.specs.declared.span.Link.{Link}
use Rattle.trace_model.specs.declared.span.Span.{Span}
use Rattle.trace_model.specs.declared.group.Group.{Group}
use Rattle.trace_model.specs.declared.group.Scope.{Scope}
use Rattle.span_tags.proofs.RunLaws.{scoped_runs}
use Rattle.span_tags.specs.Runs.{Scoped, under, spans_of, scoped}
use Rattle.span_tags.specs.TagWords.{Pairs}
use Rattle.map_jaeger.specs.Normal.{normal_status, normal_event, normal_link, normal_span, normal_scoped, normal_group, normal}
use Rattle.map_zipkin.specs.Normal.{message_kept, zipkin_normal_event, zipkin_normal_span, normal_one, normal_spans, zipkin_normal}
use Rattle.map_zipkin.specs.Regrouped.{RunSpan, run_of, runs_of, regrouped}
use Rattle.span_moves.specs.Keeps.{names_of, Keeps, identifiers_of, KeepsWithLinks, EachSpan, SpansKept}

-- ---- the spans of groups, without their scopes

abbrev span_in : Scoped Span → Span
span_in one = one.span

abbrev span_of_run : RunSpan → Span
span_of_run one = one.1

spans_under : (name version : List ℕ) (spans : List Span) → map span_in (map (under name version) spans) ≡ spans
spans_under name version [] = refl
spans_under name version (span ∷ spans) = ap (λ (l : List Span). span ∷ l) (spans_under name version spans)

spans_in : (scopes : List Scope) → flat_map (λ (scope : Scope). scope.spans) scopes ≡ map span_in (scoped scopes)
spans_in [] = refl
spans_in (scope ∷ scopes) =
    let here : map span_in (spans_of scope) ≡ scope.spans = spans_under scope.name scope.version scope.spans in
    let behind : flat_map (λ (scope : Scope). scope.spans) scopes ≡ map span_in (scoped scopes) = spans_in scopes in
    (λ i. sym here i ++ behind i) ∙ sym (map-append span_in (spans_of scope) (scoped scopes))

flat_first : (group : Group) (groups : List Group) → flat (group ∷ groups) ≡ map span_in (scoped group.scopes) ++ flat groups
flat_first group groups =
    flat_map-append (λ (scope : Scope). scope.spans) group.scopes (flat_map (λ (group : Group). group.scopes) groups)
    ∙ ap (λ (l : List Span). l ++ flat groups) (spans_in group.scopes)

-- spans that a function takes group by group
module _ (f : Span → Span) (group : Group) (groups : List Group) where
  taken_first : map f (map span_in (scoped group.scopes)) ++ map f (flat groups) ≡ map f (flat (group ∷ groups))
  taken_first = sym (map-append f (map span_in (scoped group.scopes)) (flat groups)) ∙ ap (map f) (sym (flat_first group groups))

-- ---- of Jaeger

normal_taken : (l : List (Scoped Span)) → map span_in (map normal_scoped l) ≡ map normal_span (map span_in l)
normal_taken [] = refl
normal_taken (one ∷ more) = ap (λ (l : List Span). normal_span one.span ∷ l) (normal_taken more)

jaeger_flat : (groups : List Group) → flat (normal groups) ≡ map normal_span (flat groups)
jaeger_flat [] = refl
jaeger_flat (group ∷ groups) =
    let runs_are : scoped (normal_group group).scopes ≡ map normal_scoped (scoped group.scopes) = scoped_runs (map normal_scoped (scoped group.scopes)) in
    let here : map span_in (scoped (normal_group group).scopes) ≡ map normal_span (map span_in (scoped group.scopes)) = ap (map span_in) runs_are ∙ normal_taken (scoped group.scopes) in
    let behind : flat (normal groups) ≡ map normal_span (flat groups) = jaeger_flat groups in
    flat_first (normal_group group) (normal groups) ∙ (λ i. here i ++ behind i) ∙ taken_first normal_span group groups

-- ---- of Zipkin

runs_taken : (resource : Pairs) (l : List (Scoped Span)) → map span_of_run (map (run_of resource) l) ≡ map span_in l
runs_taken resource [] = refl
runs_taken resource (one ∷ more) = ap (λ (l : List Span). one.span ∷ l) (runs_taken resource more)

runs_flat : (groups : List Group) → map span_of_run (flat_map runs_of groups) ≡ flat groups
runs_flat [] = refl
runs_flat (group ∷ groups) =
    let here : map span_of_run (runs_of group) ≡ map span_in (scoped group.scopes) = runs_taken group.resource (scoped group.scopes) in
    let behind : map span_of_run (flat_map runs_of groups) ≡ flat groups = runs_flat groups in
    map-append span_of_run (runs_of group) (flat_map runs_of groups) ∙ (λ i. here i ++ behind i) ∙ sym (flat_first group groups)

ones_taken : (resource : Pairs) (l : List (Scoped Span)) → map span_of_run (map (normal_one resource) l) ≡ map zipkin_normal_span (map span_in l)
ones_taken resource [] = refl
ones_taken resource (one ∷ more) = ap (λ (l : List Span). zipkin_normal_span one.span ∷ l) (ones_taken resource more)

ones_flat : (groups : List Group) → map span_of_run (flat_map normal_spans groups) ≡ map zipkin_normal_span (flat groups)
ones_flat [] = refl
ones_flat (group ∷ groups) =
    let here : map span_of_run (normal_spans group) ≡ map zipkin_normal_span (map span_in (scoped group.scopes)) = ones_taken group.resource (scoped group.scopes) in
    let behind : map span_of_run (flat_map normal_spans groups) ≡ map zipkin_normal_span (flat groups) = ones_flat groups in
    map-append span_of_run (normal_spans group) (flat_map normal_spans groups) ∙ (λ i. here i ++ behind i) ∙ taken_first zipkin_normal_span group groups

module _ (regrouped_spans : (l : List RunSpan) → flat_map runs_of (regrouped l) ≡ l) where
  zipkin_flat : (groups : List Group) → flat (zipkin_normal groups) ≡ map zipkin_normal_span (flat groups)
  zipkin_flat groups =
      sym (runs_flat (zipkin_normal groups))
      ∙ ap (map span_of_run) (regrouped_spans (flat_map normal_spans groups))
      ∙ ones_flat groups

-- ---- what a function keeps

each_kept : (IsKept : Span → Span → Type 0) (f : Span → Span) → ((span : Span) → IsKept span (f span)) → (spans : List Span) → AllZip IsKept spans (map f spans)
each_kept IsKept f is [] = tt
each_kept IsKept f is (span ∷ spans) = (is span, each_kept IsKept f is spans)

kept_by : (IsKept : Span → Span → Type 0) (f : Span → Span) → ((span : Span) → IsKept span (f span))
    → (groups moved : List Group) → flat moved ≡ map f (flat groups) → EachSpan IsKept groups moved
kept_by IsKept f is groups moved taken = record {
  as_many = ap length taken ∙ length-map (flat groups) f;
  each = subst (AllZip IsKept (flat groups)) (sym taken) (each_kept IsKept f is (flat groups));
}

micros_stay : (n : ℕ) → micros (floor n) ≡ micros n
micros_stay n = omega arith

-- ---- by Jaeger

message_stays : (code : Code) (message : List ℕ) → code ≡ statuses.Fail → (normal_status (record { code = code; message = message })).message ≡ message
message_stays statuses.Unset message fail = absurd (cc)
message_stays statuses.Okay message fail = refl
message_stays statuses.Fail message fail = refl

names_stay : (events : List Event) → names_of (map normal_event events) ≡ names_of events
names_stay [] = refl
names_stay (event ∷ events) = ap (λ (l : List (List ℕ)). event.name ∷ l) (names_stay events)

identifiers_stay : (links : List Link) → identifiers_of (map normal_link links) ≡ identifiers_of links
identifiers_stay [] = refl
identifiers_stay (link ∷ links) = ap (λ (l : List (ℕ × ℕ)). (link.trace, link.span) ∷ l) (identifiers_stay links)

normal_keeps : (span : Span) → KeepsWithLinks span (normal_span span)
normal_keeps span = record {
  kept = record {
    trace = refl;
    id = refl;
    parent = refl;
    name = refl;
    start = micros_stay span.start;
    end = micros_stay span.end;
    code = refl;
    message = message_stays span.status.code span.status.message;
    events = names_stay span.events;
  };
  links = identifiers_stay span.links;
}

-- ---- by Zipkin

message_of_error : (code : Code) (message : List ℕ) → code ≡ statuses.Fail → message_kept code message ≡ message
message_of_error statuses.Unset message fail = absurd (cc)
message_of_error statuses.Okay message fail = absurd (cc)
message_of_error statuses.Fail message fail = refl

zipkin_names_stay : (events : List Event) → names_of (map zipkin_normal_event events) ≡ names_of events
zipkin_names_stay [] = refl
zipkin_names_stay (event ∷ events) = ap (λ (l : List (List ℕ)). event.name ∷ l) (zipkin_names_stay events)

zipkin_normal_keeps : (span : Span) → Keeps span (zipkin_normal_span span)
zipkin_normal_keeps span = record {
  trace = refl;
  id = refl;
  parent = refl;
  name = refl;
  start = micros_stay span.start;
  end = micros_stay span.end;
  code = refl;
  message = message_of_error span.status.code span.status.message;
  events = zipkin_names_stay span.events;
}

-- ---- by OTLP

itself_keeps : (span : Span) → KeepsWithLinks span span
itself_keeps span = record {
  kept = record {
    trace = refl;
    id = refl;
    parent = refl;
    name = refl;
    start = refl;
    end = refl;
    code = refl;
    message = λ fail. refl;
    events = refl;
  };
  links = refl;
}

-- ---- each target

pub spans_kept : ((l : List RunSpan) → flat_map runs_of (regrouped l) ≡ l) → SpansKept
spans_kept regrouped_spans = record {
  otlp = λ groups. record { as_many = refl; each = all_zip_self KeepsWithLinks itself_keeps (flat groups) };
  jaeger = λ groups. kept_by KeepsWithLinks normal_span normal_keeps groups (normal groups) (jaeger_flat groups);
  zipkin = λ groups. kept_by Keeps zipkin_normal_span zipkin_normal_keeps groups (zipkin_normal groups) (zipkin_flat regrouped_spans groups);
}
