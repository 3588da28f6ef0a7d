-- What Zipkin leaves of a span that both can hold is no fault of Jaeger.
use Rattle.std.proofs.Common.{◌≡◌, ℕ, ◌<◌, true, List, [], map, Contains, Option, Some, None, option_map, refl, sym, ap, ◌∙◌, ⊎_elim, inr, arith}
use Rattle.std.specs.Prelude.{Any}
use Rattle.std.proofs.lemmas.List.Folds.{Any-from_list_any, list_any-from_Any}
use Rattle.span_ids.specs.Times.{floor}
use Rattle.trace_model.specs.Attributes.{Rise, keys, at}
use Rattle.trace_model.specs.EventTexts.{holds_double, with_texts}
use Rattle.trace_model.specs.ValueTexts.{has_double}
use Rattle.trace_model.specs.declared.fault.Fault.{Fault}
use Rattle.trace_model.specs.declared.fault.Fault.TheVariants.{EndBeforeStart, OwnKey, EventText, ChildOfLink, DoubleInText}
use Rattle.trace_model.specs.declared.span.Event.{Event}
use Rattle.trace_model.specs.declared.span.Span.{Span}
use Rattle.trace_model.specs.declared.value.Value.{Value, Text, List', Map'}
use Rattle.span_tags.proofs.LeastRows.{any_none}
use Rattle.span_tags.specs.TagKeys.{service_key}
use Rattle.span_tags.specs.TagWords.{Pairs}
use Rattle.span_tags.specs.FoundFaults.{plain_span}
use Rattle.map_jaeger.specs.ColumnWords.{flags_in}
use Rattle.map_jaeger.specs.Faults.{IsOwnParent, HasDoubleInside, HasDouble, HasDoubleAt, IsSpanFault, IsResourceFault}
use Rattle.map_jaeger.specs.Keys.{flags_key}
use Rattle.map_zipkin.specs.Faults.{HasDoubleIn, IsZipkinSpanFault}
use Rattle.map_zipkin.specs.Keys.{peer_key}
use Rattle.map_zipkin.specs.Normal.{normal_pairs, zipkin_normal_event, zipkin_normal_span}
use Rattle.span_moves.proofs.Lists.{any_back}
use Rattle.span_moves.proofs.NoFault.{PlainResource}
use Rattle.span_moves.proofs.TextPairs.{to_text, left_texts, left_at_other, left_key, texts_plain_at, texts_plain_inside}

-- a law of the model
abbrev pub DoublesStay : Type 0
DoublesStay = (attributes : Pairs) → holds_double (with_texts attributes) ≡ holds_double attributes

-- ---- times

pub floor_below : (m n : ℕ) → floor m < floor n → m < n
floor_below m n low = omega (arith, low)

-- ---- flags

-- flags are told by texts alone
flags_told : (value : Option Value) → flags_in (option_map to_text value) ≡ None → flags_in value ≡ None
flags_told None none = none
flags_told (Some (Text text)) none = none
flags_told (Some other) none = refl

-- ---- doubles

inside_is_in : (value : Value) → HasDoubleInside value → has_double value ≡ true
inside_is_in (List' shape members) inside = inside
inside_is_in (Map' shape members) inside = inside
inside_is_in other inside = absurd inside

event_doubles : DoublesStay → (attributes : Pairs) → HasDouble (with_texts attributes) → HasDoubleIn attributes
event_doubles stay attributes (k, pair, lt, there, inside) =
    let any : Any (λ (p : List ℕ × Value). has_double p.1 ≡ true) (with_texts attributes) = (k, pair, lt, there, inside_is_in pair.1 inside) in
    Any-from_list_any (λ (p : List ℕ × Value). has_double p.1) attributes
    (sym (stay attributes) ∙ list_any-from_Any (λ (p : List ℕ × Value). has_double p.1) (with_texts attributes) any)

-- ---- a span

module _ (span : Span) (up : Rise (keys span.attributes)) (jaeger : (fault : Fault) → IsSpanFault span fault → ⊥)
    (zipkin : (fault : Fault) → IsZipkinSpanFault span fault → ⊥) (stay : DoublesStay) where
  not_own : Contains (keys (normal_pairs peer_key span.attributes)) flags_key → flags_in (at flags_key (normal_pairs peer_key span.attributes)) ≡ None → ⊥
  not_own there none = jaeger (OwnKey flags_key) (
    refl,
    left_key peer_key span.attributes up flags_key there,
    flags_told (at flags_key span.attributes) (ap flags_in (sym (left_at_other peer_key span.attributes flags_key up refl)) ∙ none),
  )

  not_in_events : Any (λ event. HasDouble event.attributes) (map zipkin_normal_event span.events) → ⊥
  not_in_events any = zipkin DoubleInText (inr (any_back (λ event. HasDouble event.attributes) (λ event. HasDoubleIn event.attributes) zipkin_normal_event
      (λ event double. event_doubles stay event.attributes double) span.events any))

  pub no_jaeger_fault : (fault : Fault) → IsSpanFault (zipkin_normal_span span) fault → ⊥
  no_jaeger_fault EndBeforeStart early = jaeger EndBeforeStart (floor_below span.end span.start early)
  no_jaeger_fault (OwnKey key) has = not_own has.1 has.2
  no_jaeger_fault EventText has = has
  no_jaeger_fault ChildOfLink any = any_none (IsOwnParent (zipkin_normal_span span)) any
  no_jaeger_fault DoubleInText has = ⊎_elim
      (λ (inside : HasDouble (normal_pairs peer_key span.attributes)). texts_plain_inside (normal_pairs peer_key span.attributes) (left_texts peer_key span.attributes) inside)
      not_in_events
      has

-- ---- a resource

pub resource_no_jaeger_fault : (resource : Pairs) → PlainResource IsResourceFault (normal_pairs service_key resource)
resource_no_jaeger_fault resource DoubleInText is =
    let l = normal_pairs service_key resource in
    ⊎_elim
    (λ (double : HasDoubleAt (at service_key l)). texts_plain_at service_key l (left_texts service_key resource) double)
    (λ (inside : HasDouble l). texts_plain_inside l (left_texts service_key resource) inside)
    is
resource_no_jaeger_fault resource other is = is

-- ---- where there is nothing

pub plain_for_jaeger : (fault : Fault) → IsSpanFault plain_span fault → ⊥
plain_for_jaeger EndBeforeStart is = omega (arith, is)
plain_for_jaeger (OwnKey key) is = omega (arith, is.1.1)
plain_for_jaeger EventText is = is
plain_for_jaeger ChildOfLink is = any_none (IsOwnParent plain_span) is
plain_for_jaeger DoubleInText is = ⊎_elim
    (λ (h : HasDouble []). any_none (λ (pair : List ℕ × Value). HasDoubleInside pair.1) h)
    (λ (h : Any (λ (event : Event). HasDouble event.attributes) []). any_none (λ (event : Event). HasDouble event.attributes) h)
    is
