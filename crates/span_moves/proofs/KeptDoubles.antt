-- No double stands in a normal form where none stands in the trace.
use Rattle.std.proofs.Common.{◌≡◌, ℕ, Bool, true, false, ◌||◌, List, [], ◌∷◌, ◌++◌, map, not, All, refl, sym, ap, ◌∙◌, subst, if◌then◌else◌}
use Rattle.std.specs.Prelude.{◌≢◌}
use Rattle.std.specs.List.{flat_map, list_any}
use Rattle.std.specs.Str.{bytes_eq}
use Rattle.std.proofs.lemmas.List.Elements.{All-nil, All-cons, All-head, All-tail, All-append, All-map, All-filter, All-weaker}
use Rattle.std.proofs.lemmas.List.Folds.{list_any_none}
use Rattle.trace_model.specs.Attributes.{at}
use Rattle.trace_model.specs.EventTexts.{holds_double, with_texts}
use Rattle.trace_model.specs.ValueTexts.{has_double}
use Rattle.trace_model.specs.declared.span.Link.{Link}
use Rattle.trace_model.specs.declared.span.Span.{Span}
use Rattle.trace_model.specs.declared.group.Group.{Group}
use Rattle.trace_model.specs.declared.group.Scope.{Scope}
use Rattle.trace_model.specs.declared.value.Value.{Value, Text, List', Map', Nothing}
use Rattle.span_tags.proofs.AttributeLaws.{all_attrs}
use Rattle.span_tags.specs.Runs.{IsPlain}
use Rattle.span_tags.proofs.RunLaws.{scoped_all, scoped_each, runs_each}
use Rattle.span_tags.specs.Runs.{Scoped, under, spans_of, scoped}
use Rattle.span_tags.specs.TagKeys.{service_key}
use Rattle.span_tags.specs.TagWords.{Pairs, row, text_given, without, text_or_none}
use Rattle.map_jaeger.specs.Keys.{reference_key, child_of_word}
use Rattle.map_jaeger.specs.Normal.{normal_attributes, normal_event, normal_link, normal_span, normal_scoped, normal_resource, normal_group}
use Rattle.map_jaeger.specs.TagValues.{normal_value, normal_attribute}
use Rattle.map_jaeger.specs.Writing.{is_child_of}
use Rattle.map_zipkin.specs.Keys.{peer_key}
use Rattle.map_zipkin.specs.StatedLaws.{IsPlainGroup, Regroupings}
use Rattle.map_zipkin.specs.Normal.{normal_pairs, zipkin_normal_event, zipkin_normal_span, normal_one, normal_spans, zipkin_normal}
use Rattle.map_zipkin.specs.Regrouped.{RunSpan, run_of, runs_of, regrouped}
use Rattle.map_zipkin.specs.Writing.{as_text, as_texts}
use Rattle.otlp_json.specs.Doubles.{double_in_event, double_in_link, double_in_span, double_in_scope, double_in_group}
use Rattle.span_moves.specs.Keeps.{HaveNoDouble, NoDoubleMade}

-- ---- tests that nothing passes

left_false : (a b : Bool) → (a || b) ≡ false → a ≡ false
left_false true b e = e
left_false false b e = refl

right_false : (a b : Bool) → (a || b) ≡ false → b ≡ false
right_false true b e = absurd (cc)
right_false false b e = e

both_false : (a b : Bool) → a ≡ false → b ≡ false → (a || b) ≡ false
both_false a b first second = rw first second

module _ {X : Type 0} (test : X → Bool) where
  -- it fails the test
  abbrev Fails : X → Type 0
  Fails x = test x ≡ false

  each_fails : (xs : List X) → list_any test xs ≡ false → All Fails xs
  each_fails [] none = All-nil Fails
  each_fails (x ∷ xs) none =
      All-cons Fails x xs (left_false (test x) (list_any test xs) none) (each_fails xs (right_false (test x) (list_any test xs) none))

  -- what fails still does where a function takes it
  none_taken : (f : X → X) → ((x : X) → Fails x → Fails (f x)) → (xs : List X) → list_any test xs ≡ false → list_any test (map f xs) ≡ false
  none_taken f fails [] none = refl
  none_taken f fails (x ∷ xs) none = both_false (test (f x)) (list_any test (map f xs))
      (fails x (left_false (test x) (list_any test xs) none))
      (none_taken f fails xs (right_false (test x) (list_any test xs) none))

-- ---- lists

module _ {X : Type 0} (P : X → Type 0) where
  all_unmapped : {Y : Type 0} (f : Y → X) (ys : List Y) → All P (map f ys) → All (λ y. P (f y)) ys
  all_unmapped f [] all = All-nil (λ y. P (f y))
  all_unmapped f (y ∷ ys) all =
      All-cons (λ y. P (f y)) y ys (All-head P (f y) (map f ys) all) (all_unmapped f ys (All-tail P (f y) (map f ys) all))

  all_parts : (xs ys : List X) → All P (xs ++ ys) → All P xs × All P ys
  all_parts [] ys all = (All-nil P, all)
  all_parts (x ∷ xs) ys all =
      let rest = all_parts xs ys (All-tail P x (xs ++ ys) all) in
      (All-cons P x xs (All-head P x (xs ++ ys) all) rest.0, rest.1)

-- ---- attributes

abbrev double_under : List ℕ × Value → Bool
double_under pair = has_double pair.1

abbrev PairPlain : List ℕ × Value → Type 0
PairPlain pair = double_under pair ≡ false

row_plain : (key text : List ℕ) → All PairPlain (row key (text_given text))
row_plain key [] = All-nil PairPlain
row_plain key (x ∷ more) = All-cons PairPlain (key, Text (x ∷ more)) [] refl (All-nil PairPlain)

-- the attributes of a text under a key, and others
merged_plain : (key text : List ℕ) (others : Pairs) → All PairPlain others → All PairPlain (row key (text_given text) ++ others)
merged_plain key text others all = All-append PairPlain (row key (text_given text)) others (row_plain key text) all

-- ---- spans in their scopes

abbrev ScopedPlain : Scoped Span → Type 0
ScopedPlain one = double_in_span one.span ≡ false

abbrev ScopePlain : Scope → Type 0
ScopePlain scope = double_in_scope scope ≡ false

abbrev GroupPlain : Group → Type 0
GroupPlain group = double_in_group group ≡ false

abbrev SpansPlain : Scope → Type 0
SpansPlain scope = All ScopedPlain (spans_of scope)

-- a scope that has spans alone, with no double in them
scope_plain : (scope : Scope) → IsPlain scope × SpansPlain scope → ScopePlain scope
scope_plain scope h = both_false (holds_double scope.attributes) (list_any double_in_span scope.spans)
    (ap holds_double h.0.attributes)
    (list_any_none double_in_span scope.spans (all_unmapped ScopedPlain (under scope.name scope.version) scope.spans h.1))

spans_plain : (scope : Scope) → ScopePlain scope → SpansPlain scope
spans_plain scope none = All-map ScopedPlain (under scope.name scope.version) scope.spans
    (each_fails double_in_span scope.spans (right_false (holds_double scope.attributes) (list_any double_in_span scope.spans) none))

-- all spans of a group in which there is none
group_plain : (group : Group) → GroupPlain group → All ScopedPlain (scoped group.scopes)
group_plain group none = scoped_all ScopedPlain group.scopes (All-weaker ScopePlain SpansPlain spans_plain group.scopes
    (each_fails double_in_scope group.scopes (right_false (holds_double group.resource) (list_any double_in_scope group.scopes) none)))

-- a span by its parts
abbrev double_inside : Span → Bool
double_inside span = list_any double_in_event span.events || list_any double_in_link span.links

attributes_of_plain : (span : Span) → double_in_span span ≡ false → holds_double span.attributes ≡ false
attributes_of_plain span none = left_false (holds_double span.attributes) (double_inside span) none

events_of_plain : (span : Span) → double_in_span span ≡ false → list_any double_in_event span.events ≡ false
events_of_plain span none = left_false (list_any double_in_event span.events) (list_any double_in_link span.links)
    (right_false (holds_double span.attributes) (double_inside span) none)

span_of_parts : (span : Span) → holds_double span.attributes ≡ false → list_any double_in_event span.events ≡ false
    → list_any double_in_link span.links ≡ false → double_in_span span ≡ false
span_of_parts span attributes events links = both_false (holds_double span.attributes) (double_inside span) attributes
    (both_false (list_any double_in_event span.events) (list_any double_in_link span.links) events links)

-- ---- by Jaeger

value_plain : (value : Value) → has_double value ≡ false → has_double (normal_value value) ≡ false
value_plain (List' shape members) none = refl
value_plain (Map' shape members) none = refl
value_plain Nothing none = refl
value_plain value none = none

attributes_plain : (pairs : Pairs) → holds_double pairs ≡ false → holds_double (normal_attributes pairs) ≡ false
attributes_plain pairs none = none_taken double_under normal_attribute (λ pair plain. value_plain pair.1 plain) pairs none

resource_plain : (resource : Pairs) → holds_double resource ≡ false → holds_double (normal_resource resource) ≡ false
resource_plain resource none =
    let service = text_or_none (at service_key resource) in
    let others = without service_key resource in
    let kept : All PairPlain others = All-filter (λ (pair : List ℕ × Value). not (bytes_eq service_key pair.0)) PairPlain resource (each_fails double_under resource none) in
    let taken : All PairPlain (normal_attributes others) = each_fails double_under (normal_attributes others) (attributes_plain others (list_any_none double_under others kept)) in
    list_any_none double_under (normal_resource resource) (all_attrs PairPlain (row service_key (text_given service) ++ normal_attributes others)
    (merged_plain service_key service (normal_attributes others) taken))

link_plain : (link : Link) → double_in_link (normal_link link) ≡ false
link_plain link = by (is_child_of (at reference_key link.attributes))
  where
    by : (b : Bool) → holds_double (if b then (reference_key, Text child_of_word) ∷ [] else []) ≡ false
    by true = refl
    by false = refl

links_plain : (links : List Link) → list_any double_in_link (map normal_link links) ≡ false
links_plain [] = refl
links_plain (link ∷ links) =
    both_false (double_in_link (normal_link link)) (list_any double_in_link (map normal_link links)) (link_plain link) (links_plain links)

span_plain : (span : Span) → double_in_span span ≡ false → double_in_span (normal_span span) ≡ false
span_plain span none = span_of_parts (normal_span span)
    (attributes_plain span.attributes (attributes_of_plain span none))
    (none_taken double_in_event normal_event (λ event plain. attributes_plain event.attributes plain) span.events (events_of_plain span none))
    (links_plain span.links)

jaeger_plain : (group : Group) → GroupPlain group → GroupPlain (normal_group group)
jaeger_plain group none =
    let spans = scoped group.scopes in
    let taken : All ScopedPlain (map normal_scoped spans) = All-map ScopedPlain normal_scoped spans
    (All-weaker ScopedPlain (λ (one : Scoped Span). ScopedPlain (normal_scoped one)) (λ one plain. span_plain one.span plain) spans (group_plain group none)) in
    both_false (holds_double (normal_resource group.resource)) (list_any double_in_scope (normal_group group).scopes)
    (resource_plain group.resource (left_false (holds_double group.resource) (list_any double_in_scope group.scopes) none))
    (list_any_none double_in_scope (normal_group group).scopes
    (All-weaker (λ (scope : Scope). IsPlain scope × SpansPlain scope) ScopePlain scope_plain (normal_group group).scopes
    (runs_each ScopedPlain (map normal_scoped spans) taken)))

-- ---- by Zipkin

-- all values are texts
texts_plain : (key : List ℕ) (pairs : Pairs) → holds_double (normal_pairs key pairs) ≡ false
texts_plain key pairs =
    let own = text_or_none (at key pairs) in
    let others = as_texts (without key pairs) in
    list_any_none double_under (normal_pairs key pairs) (all_attrs PairPlain (row key (text_given own) ++ others)
    (merged_plain key own others (All-map PairPlain as_text (without key pairs) (λ k d lt. refl))))

abbrev RunPlain : RunSpan → Type 0
RunPlain one = (holds_double one.0.resource ≡ false) × (double_in_span one.1 ≡ false)

-- a group of runs has a span, so that its resource is that of a run
first_run : (resource : Pairs) (name version : List ℕ) (spans : List Span) (more : List (Scoped Span)) → spans ≢ []
    → All RunPlain (map (run_of resource) (map (under name version) spans ++ more)) → holds_double resource ≡ false
first_run resource name version [] more some all = absurd (some refl)
first_run resource name version (span ∷ spans) more some all =
    (All-head RunPlain (run_of resource (under name version span)) (map (run_of resource) (map (under name version) spans ++ more)) all).0

first_scope : (resource : Pairs) (scopes : List Scope) → scopes ≢ [] → All IsPlain scopes
    → All RunPlain (map (run_of resource) (scoped scopes)) → holds_double resource ≡ false
first_scope resource [] some plain all = absurd (some refl)
first_scope resource (scope ∷ scopes) some plain all =
    first_run resource scope.name scope.version scope.spans (scoped scopes) (All-head IsPlain scope scopes plain).some all

run_group_plain : (group : Group) → IsPlainGroup group → All RunPlain (runs_of group) → GroupPlain group
run_group_plain group plain all =
    let spans : All ScopedPlain (scoped group.scopes) =
    All-weaker (λ (one : Scoped Span). RunPlain (run_of group.resource one)) ScopedPlain (λ one h. h.1) (scoped group.scopes)
    (all_unmapped RunPlain (run_of group.resource) (scoped group.scopes) all) in
    let each : All SpansPlain group.scopes = scoped_each ScopedPlain group.scopes spans in
    both_false (holds_double group.resource) (list_any double_in_scope group.scopes)
    (first_scope group.resource group.scopes plain.some plain.scopes all)
    (list_any_none double_in_scope group.scopes (λ k d lt. scope_plain _ (plain.scopes k d lt, each k d lt)))

run_groups_plain : (groups : List Group) → All IsPlainGroup groups → All RunPlain (flat_map runs_of groups) → HaveNoDouble groups
run_groups_plain [] plain all = All-nil GroupPlain
run_groups_plain (group ∷ groups) plain all =
    let parts = all_parts RunPlain (runs_of group) (flat_map runs_of groups) all in
    All-cons GroupPlain group groups
    (run_group_plain group (All-head IsPlainGroup group groups plain) parts.0)
    (run_groups_plain groups (All-tail IsPlainGroup group groups plain) parts.1)

module _ (with_texts_plain : (attributes : Pairs) → holds_double (with_texts attributes) ≡ holds_double attributes) where
  zipkin_span_plain : (span : Span) → double_in_span span ≡ false → double_in_span (zipkin_normal_span span) ≡ false
  zipkin_span_plain span none = span_of_parts (zipkin_normal_span span)
      (texts_plain peer_key span.attributes)
      (none_taken double_in_event zipkin_normal_event (λ event plain. with_texts_plain event.attributes ∙ plain) span.events (events_of_plain span none))
      refl

  ones_plain : (group : Group) → GroupPlain group → All RunPlain (normal_spans group)
  ones_plain group none = All-map RunPlain (normal_one group.resource) (scoped group.scopes)
      (All-weaker ScopedPlain (λ (one : Scoped Span). RunPlain (normal_one group.resource one))
      (λ one plain. (texts_plain service_key group.resource, zipkin_span_plain one.span plain)) (scoped group.scopes) (group_plain group none))

  runs_plain : (groups : List Group) → HaveNoDouble groups → All RunPlain (flat_map normal_spans groups)
  runs_plain [] none = All-nil RunPlain
  runs_plain (group ∷ groups) none = All-append RunPlain (normal_spans group) (flat_map normal_spans groups)
      (ones_plain group (All-head GroupPlain group groups none))
      (runs_plain groups (All-tail GroupPlain group groups none))

  zipkin_plain : Regroupings → (groups : List Group) → HaveNoDouble groups → HaveNoDouble (zipkin_normal groups)
  zipkin_plain regroupings groups none =
      let l = flat_map normal_spans groups in
      run_groups_plain (regrouped l) (regroupings.plain l) (subst (All RunPlain) (sym (regroupings.spans l)) (runs_plain groups none))

-- ---- each target

pub no_double_made : ((attributes : Pairs) → holds_double (with_texts attributes) ≡ holds_double attributes) → Regroupings → NoDoubleMade
no_double_made with_texts_plain regroupings = record {
  jaeger = λ groups none. All-map GroupPlain normal_group groups (All-weaker GroupPlain (λ (group : Group). GroupPlain (normal_group group)) jaeger_plain groups none);
  zipkin = zipkin_plain with_texts_plain regroupings;
}
