-- Nothing in the gauge is a fault of any form.
use Rattle.std.proofs.Common.{◌≡◌, ℕ, ◌<◌, ◌≤◌, ◌⊎◌, inl, inr, Bool, true, false, List, [], ◌∷◌, length, get_or, All, None, refl, sym, ap, subst, arith}
use Rattle.std.specs.Prelude.{codes, Any, Contains, ◌||◌}
use Rattle.std.specs.List.{list_any}
use Rattle.std.proofs.lemmas.Bool.{cases_lt, false≢true}
use Rattle.std.proofs.lemmas.List.{get_or_past}
use Rattle.std.proofs.lemmas.List.Elements.{All-contains, All-map, All-from_recursion}
use Rattle.std.proofs.lemmas.List.Folds.{list_any_none}
use Rattle.trace_model.specs.Attributes.{keys, at}
use Rattle.trace_model.specs.ValueTexts.{has_double}
use Rattle.trace_model.specs.declared.fault.Fault.{Fault}
use Rattle.trace_model.specs.declared.fault.Fault.TheVariants.{EndBeforeStart, OwnKey, EventText, ChildOfLink, DoubleInText}
use Rattle.trace_model.specs.declared.span.Span.{Span}
use Rattle.trace_model.specs.declared.group.Scope.{Scope}
use Rattle.trace_model.specs.declared.value.Value.{Value}
use Rattle.span_tags.specs.PlacedFaults.{Placed, IsFaultBy, in_resource, in_span, CountsBy}
use Rattle.span_tags.proofs.RunLaws.{scoped_all}
use Rattle.span_tags.specs.Runs.{Scoped, scoped, spans_of, under}
use Rattle.otlp_json.specs.Doubles.{double_in_span, double_in_group}
use Rattle.map_jaeger.specs.Faults as jaeger
use Rattle.map_jaeger.specs.Keys.{flags_key}
use Rattle.map_zipkin.specs.Faults as zipkin
use Rattle.map_zipkin.specs.OwnColumns.{own_forms}
use Rattle.span_vectors.specs.Gauge.{gauge_attributes, gauge_resource, gauge_span, gauge_spans, gauge_scope, gauge_group, first_span, group_size}
use Rattle.span_vectors.proofs.Held.{alone, both, number_pair, text_pair, service_pair}
use Rattle.span_vectors.proofs.Spans.{all_spans}

-- ---- OTLP's JSON: no double stands in it

span_double : (i : ℕ) → double_in_span (gauge_span i) ≡ false
unfolding gauge_span
span_double i = refl

pub no_double : (spans group : ℕ) → double_in_group (gauge_group spans group) ≡ false
unfolding gauge_group
no_double spans group =
    let list = gauge_spans (first_span group) (group_size spans group) in
    let e : list_any double_in_span list ≡ false = list_any_none double_in_span list
    (all_spans (λ (span : Span). double_in_span span ≡ false) (first_span group) (group_size spans group) (λ i low high. span_double i)) in
    ap (λ (b : Bool). b || false) e

-- ---- faults at places

-- what the spans of a group have, by their numbers, all have under its scope
pub all_scoped : (Q : Scoped Span → Type 0) (spans group : ℕ) → ((i : ℕ) → Q (under (codes "gauge") [] (gauge_span i))) → All Q (scoped (gauge_group spans group).scopes)
unfolding gauge_group
all_scoped Q spans group each =
    let list = gauge_spans (first_span group) (group_size spans group) in
    scoped_all Q (gauge_scope list ∷ []) (alone (λ (scope : Scope). All Q (spans_of scope)) (gauge_scope list)
    (All-map Q (under (codes "gauge") []) list
    (all_spans (λ (span : Span). Q (under (codes "gauge") [] span)) (first_span group) (group_size spans group) (λ i low high. each i))))

-- what each has, and one that stands for none, is had at each place
at_each : {X : Type 0} (Q : X → Type 0) (xs : List X) (n : ℕ) (d : X) → All Q xs → Q d → Q (get_or xs n d)
at_each Q xs n d all one = by (cases_lt n (length xs))
  where
    by : (n < length xs) ⊎ (length xs ≤ n) → Q (get_or xs n d)
    by (inl lt) = all n d lt
    by (inr past) = subst Q (sym (get_or_past xs n d past)) one

module _ (IsResourceFault : List (List ℕ × Value) → Fault → Type 0) (IsSpanFault : Span → Fault → Type 0) where
  no_fault : (spans group : ℕ) → ((fault : Fault) → IsResourceFault gauge_resource fault → ⊥) → ((i : ℕ) (fault : Fault) → IsSpanFault (gauge_span i) fault → ⊥)
      → CountsBy IsResourceFault IsSpanFault (gauge_group spans group) None
  unfolding gauge_group
  no_fault spans group fine each = λ found fault. by found fault
    where
      by : (found : Placed) → IsFaultBy IsResourceFault IsSpanFault (gauge_group spans group) found → ⊥
      by found (in_resource place h) = fine found.fault h
      by found (in_span n place h) =
          let d = under (codes "gauge") [] (gauge_span 1) in
          let is_fine = λ (one : Scoped Span). (fault : Fault) → IsSpanFault one.span fault → ⊥ in
          at_each is_fine (scoped (gauge_group spans group).scopes) n d (all_scoped is_fine spans group each) (each 1) found.fault (h d)

-- ---- lists that have no such element

none_of : {X : Type 0} (P : X → Type 0) (xs : List X) → All (λ x. P x → ⊥) xs → Any P xs → ⊥
none_of {X} P xs all h = All-contains (λ (x : X). P x → ⊥) xs h.1 all (h.0, h.2, h.3) h.4

none_at_all : {X : Type 0} (P : X → Type 0) → Any P [] → ⊥
none_at_all P h = omega arith

own_keys : (i : ℕ) (P : List ℕ → Type 0) → P (codes "n") → P (codes "t") → All P (keys (gauge_attributes i))
own_keys i P number text = both P (codes "n") (codes "t") number text

-- ---- Jaeger

no_flags : (i : ℕ) → Contains (keys (gauge_attributes i)) flags_key → ⊥
no_flags i there = All-contains (λ (key : List ℕ). key ≡ flags_key → ⊥) (keys (gauge_attributes i)) flags_key (own_keys i (λ (key : List ℕ). key ≡ flags_key → ⊥) (λ e. cc) (λ e. cc)) there refl

no_double_inside : (i : ℕ) → jaeger.HasDouble (gauge_attributes i) → ⊥
no_double_inside i h = none_of (λ (pair : List ℕ × Value). jaeger.HasDoubleInside pair.1) (gauge_attributes i)
    (both (λ (pair : List ℕ × Value). jaeger.HasDoubleInside pair.1 → ⊥) (number_pair i) text_pair (λ e. e) (λ e. e)) h

jaeger_resource : (fault : Fault) → jaeger.IsResourceFault gauge_resource fault → ⊥
jaeger_resource EndBeforeStart h = h
jaeger_resource (OwnKey key) h = h
jaeger_resource EventText h = h
jaeger_resource ChildOfLink h = h
jaeger_resource DoubleInText (inl h) = false≢true h
jaeger_resource DoubleInText (inr h) = none_of (λ (pair : List ℕ × Value). jaeger.HasDoubleInside pair.1) gauge_resource
    (alone (λ (pair : List ℕ × Value). jaeger.HasDoubleInside pair.1 → ⊥) service_pair (λ e. e)) h

jaeger_span : (i : ℕ) (fault : Fault) → jaeger.IsSpanFault (gauge_span i) fault → ⊥
unfolding gauge_span
jaeger_span i EndBeforeStart h = omega arith
jaeger_span i (OwnKey key) h = no_flags i h.1
jaeger_span i EventText h = h
jaeger_span i ChildOfLink h = none_at_all _ h
jaeger_span i DoubleInText (inl h) = no_double_inside i h
jaeger_span i DoubleInText (inr h) = none_at_all _ h

pub jaeger_fine : (spans group : ℕ) → jaeger.HasNoFault (gauge_group spans group)
jaeger_fine spans group = no_fault jaeger.IsResourceFault jaeger.IsSpanFault spans group jaeger_resource jaeger_span

-- ---- Zipkin

-- none of its keys is one of Zipkin's own
no_own : (i : ℕ) (key : List ℕ) → Any (λ own. (key ≡ own.0) × zipkin.IsOutOfForm own.1 (at own.0 (gauge_attributes i))) own_forms → ⊥
no_own i key h =
    let out = λ (own : List ℕ × (Value → Bool)). (key ≡ own.0) × zipkin.IsOutOfForm own.1 (at own.0 (gauge_attributes i)) in
    none_of out own_forms (All-from_recursion (λ (own : List ℕ × (Value → Bool)). out own → ⊥) own_forms
    (λ e. e.1, (λ e. e.1, (λ e. e.1, (λ e. e.1, (λ e. e.1, (λ e. e.1, (λ e. e.1, (λ e. e.1, tt))))))))) h

no_double_in : (i : ℕ) → zipkin.HasDoubleIn (gauge_attributes i) → ⊥
no_double_in i h = none_of (λ (pair : List ℕ × Value). has_double pair.1 ≡ true) (gauge_attributes i)
    (both (λ (pair : List ℕ × Value). has_double pair.1 ≡ true → ⊥) (number_pair i) text_pair (λ e. false≢true e) (λ e. false≢true e)) h

zipkin_resource : (fault : Fault) → zipkin.IsZipkinResourceFault gauge_resource fault → ⊥
zipkin_resource EndBeforeStart h = h
zipkin_resource (OwnKey key) h = h
zipkin_resource EventText h = h
zipkin_resource ChildOfLink h = h
zipkin_resource DoubleInText h = none_of (λ (pair : List ℕ × Value). has_double pair.1 ≡ true) gauge_resource
    (alone (λ (pair : List ℕ × Value). has_double pair.1 ≡ true → ⊥) service_pair (λ e. false≢true e)) h

zipkin_span : (i : ℕ) (fault : Fault) → zipkin.IsZipkinSpanFault (gauge_span i) fault → ⊥
unfolding gauge_span
zipkin_span i EndBeforeStart h = omega arith
zipkin_span i (OwnKey key) h = no_own i key h
zipkin_span i EventText h = none_at_all _ h
zipkin_span i ChildOfLink h = h
zipkin_span i DoubleInText (inl h) = no_double_in i h
zipkin_span i DoubleInText (inr h) = none_at_all _ h

pub zipkin_fine : (spans group : ℕ) → zipkin.HasNoZipkinFault (gauge_group spans group)
zipkin_fine spans group = no_fault zipkin.IsZipkinResourceFault zipkin.IsZipkinSpanFault spans group zipkin_resource zipkin_span
