-- What Jaeger leaves of a span or resource in which Zipkin finds no fault is no fault of Zipkin.
use Rattle.std.proofs.Common.{◌≡◌, ℕ, Bool, true, false, List, [], ◌∷◌, ◌++◌, map, All, Option, Some, None, option_map, refl, sym, subst, ⊎_elim, inl, inr, true≢false, arith}
use Rattle.std.specs.Prelude.{Any, not}
use Rattle.std.specs.Str.{bytes_eq}
use Rattle.std.proofs.lemmas.List.Elements.{All-nil, All-cons, All-append, All-contains, All-filter, All-from_recursion, All-map, All-weaker}
use Rattle.trace_model.specs.Attributes.{at}
use Rattle.trace_model.specs.ValueTexts.{has_double}
use Rattle.trace_model.specs.declared.fault.Fault.{Fault}
use Rattle.trace_model.specs.declared.fault.Fault.TheVariants.{EndBeforeStart, OwnKey, EventText, ChildOfLink, DoubleInText}
use Rattle.trace_model.specs.declared.span.Event.{Event}
use Rattle.trace_model.specs.declared.span.Span.{Span}
use Rattle.trace_model.specs.declared.value.Value.{Value, Text, Eight}
use Rattle.span_tags.proofs.AttributeLaws.{all_attrs, at_map}
use Rattle.span_tags.proofs.LeastRows.{any_none}
use Rattle.span_tags.specs.TagKeys.{service_key}
use Rattle.span_tags.specs.TagWords.{Pairs, row, without, text_given, text_or_none}
use Rattle.span_tags.specs.FoundFaults.{plain_span}
use Rattle.map_jaeger.specs.Normal.{normal_attributes, normal_resource, normal_event, normal_span}
use Rattle.map_jaeger.specs.TagValues.{normal_value, normal_attribute}
use Rattle.map_zipkin.specs.Faults.{IsOutOfForm, HasOwnKey, IsToldWrong, HasDoubleIn, IsZipkinSpanFault, IsZipkinResourceFault}
use Rattle.map_zipkin.specs.OwnColumns.{is_true_text, is_address, is_port_text, own_forms}
use Rattle.span_moves.proofs.JaegerFaults.{floor_below}
use Rattle.span_moves.proofs.Lists.{any_back, none_of}
use Rattle.span_moves.proofs.NoFault.{PlainResource}

-- ---- keys of Zipkin's own: their forms are of texts, which stay

module _ (form : Value → Bool) (each : (value : Value) → form (normal_value value) ≡ false → form value ≡ false) where
  out_of_form : (value : Option Value) → IsOutOfForm form (option_map normal_value value) → IsOutOfForm form value
  out_of_form None out = out
  out_of_form (Some value) out = each value out

true_text : (value : Value) → is_true_text (normal_value value) ≡ false → is_true_text value ≡ false
true_text (Text text) out = out
true_text other out = refl

address : (value : Value) → is_address (normal_value value) ≡ false → is_address value ≡ false
address (Text text) out = out
address other out = refl

port_text : (value : Value) → is_port_text (normal_value value) ≡ false → is_port_text value ≡ false
port_text (Text text) out = out
port_text other out = refl

abbrev Stays : List ℕ × (Value → Bool) → Type 0
Stays own = (value : Option Value) → IsOutOfForm own.1 (option_map normal_value value) → IsOutOfForm own.1 value

forms_stay : All Stays own_forms
forms_stay = All-from_recursion Stays own_forms (
  out_of_form is_true_text true_text,
  (
    out_of_form is_address address,
    (
      out_of_form is_address address,
      (
        out_of_form is_port_text port_text,
        (
          out_of_form is_address address,
          (out_of_form is_address address, (out_of_form is_port_text port_text, (out_of_form is_true_text true_text, tt))),
        ),
      ),
    ),
  ),
)

own_key : (span : Span) (key : List ℕ) → HasOwnKey (normal_span span) key → HasOwnKey span key
own_key span key (k, own, lt, there, here) = (
  k,
  own,
  lt,
  there,
  (
    here.0,
    All-contains Stays own_forms own forms_stay (k, lt, there) (at own.0 span.attributes)
        (subst (IsOutOfForm own.1) (at_map normal_value own.0 span.attributes) here.1),
  ),
)

-- ---- events

none_before : (attributes : Pairs) → normal_attributes attributes ≡ [] → attributes ≡ []
none_before [] none = refl
none_before (pair ∷ more) none = absurd (cc)

told_wrong : (event : Event) → IsToldWrong (normal_event event) → IsToldWrong event
told_wrong event wrong = record { bare = none_before event.attributes wrong.bare; name = wrong.name; attributes = wrong.attributes; reads = wrong.reads }

-- ---- doubles

normal_double : (value : Value) → has_double (normal_value value) ≡ true → has_double value ≡ true
normal_double (Text text) double = double
normal_double (Eight held) double = double
normal_double other double = absurd (true≢false (sym double))

abbrev IsDoublePair : List ℕ × Value → Type 0
IsDoublePair pair = has_double pair.1 ≡ true

doubles_before : (attributes : Pairs) → HasDoubleIn (normal_attributes attributes) → HasDoubleIn attributes
doubles_before attributes double = any_back IsDoublePair IsDoublePair normal_attribute (λ pair is. normal_double pair.1 is) attributes double

-- ---- a span

module _ (span : Span) (zipkin : (fault : Fault) → IsZipkinSpanFault span fault → ⊥) where
  pub no_zipkin_fault : (fault : Fault) → IsZipkinSpanFault (normal_span span) fault → ⊥
  no_zipkin_fault EndBeforeStart early = zipkin EndBeforeStart (floor_below span.end span.start early)
  no_zipkin_fault (OwnKey key) has = zipkin (OwnKey key) (own_key span key has)
  no_zipkin_fault EventText any = zipkin EventText (any_back IsToldWrong IsToldWrong normal_event told_wrong span.events any)
  no_zipkin_fault ChildOfLink has = has
  no_zipkin_fault DoubleInText has = ⊎_elim
      (λ (double : HasDoubleIn (normal_attributes span.attributes)). zipkin DoubleInText (inl (doubles_before span.attributes double)))
      (λ (any : Any (λ (event : Event). HasDoubleIn event.attributes) (map normal_event span.events)).
      zipkin DoubleInText (inr (any_back (λ (event : Event). HasDoubleIn event.attributes) (λ (event : Event). HasDoubleIn event.attributes) normal_event
      (λ event double. doubles_before event.attributes double) span.events any)))
      has

-- ---- a resource

abbrev IsNoDouble : List ℕ × Value → Type 0
IsNoDouble pair = IsDoublePair pair → ⊥

row_plain : (key text : List ℕ) → All IsNoDouble (row key (text_given text))
row_plain key [] = All-nil IsNoDouble
row_plain key (x ∷ more) = All-cons IsNoDouble (key, Text (x ∷ more)) [] (λ is. true≢false (sym is)) (All-nil IsNoDouble)

left_plain : (resource : Pairs) → All IsNoDouble resource → All IsNoDouble (normal_resource resource)
left_plain resource plain =
    let text = text_or_none (at service_key resource) in
    let others : All IsNoDouble (without service_key resource) = All-filter (λ pair. not (bytes_eq service_key pair.0)) IsNoDouble resource plain in
    all_attrs IsNoDouble (row service_key (text_given text) ++ normal_attributes (without service_key resource))
    (All-append IsNoDouble (row service_key (text_given text)) (normal_attributes (without service_key resource))
    (row_plain service_key text)
    (All-map IsNoDouble normal_attribute (without service_key resource)
    (All-weaker IsNoDouble (λ pair. IsNoDouble (normal_attribute pair)) (λ pair none is. none (normal_double pair.1 is)) (without service_key resource) others)))

pub resource_no_zipkin_fault : (resource : Pairs) → PlainResource IsZipkinResourceFault resource
    → PlainResource IsZipkinResourceFault (normal_resource resource)
resource_no_zipkin_fault resource plain DoubleInText (k, pair, lt, there, double) =
    All-contains IsNoDouble (normal_resource resource) pair
    (left_plain resource (none_of IsDoublePair resource (λ any. plain DoubleInText any))) (k, lt, there) double
resource_no_zipkin_fault resource plain other is = is

-- ---- where there is nothing

pub plain_for_zipkin : (fault : Fault) → IsZipkinSpanFault plain_span fault → ⊥
plain_for_zipkin EndBeforeStart is = omega (arith, is)
plain_for_zipkin (OwnKey key) (k, own, lt, there, here) = here.1
plain_for_zipkin EventText is = any_none IsToldWrong is
plain_for_zipkin ChildOfLink is = is
plain_for_zipkin DoubleInText is = ⊎_elim
    (λ (h : HasDoubleIn []). any_none IsDoublePair h)
    (λ (h : Any (λ (event : Event). HasDoubleIn event.attributes) []). any_none (λ (event : Event). HasDoubleIn event.attributes) h)
    is
