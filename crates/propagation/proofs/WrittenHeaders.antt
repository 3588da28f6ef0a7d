-- The headers of a written context: their lines, their values, and what they tell.
use Rattle.std.proofs.Common.{◌≡◌, ℕ, List, [], ◌∷◌, ◌++◌, refl, sym, ap, ◌∙◌, append_assoc, inl, inr, arith}
use Rattle.std.specs.Prelude.{◌⊎◌, All, reverse, codes, Option, Some, None}
use Rattle.std.proofs.lemmas.Grind.{flat_map-append}
use Rattle.std.proofs.lemmas.List.{append-nil}
use Rattle.std.proofs.lemmas.List.Elements.{All-append, All-cons, All-nil}
use Rattle.span_ids.specs.declared.hex_text.IdRule.TheVariants as rules
use Rattle.span_ids.specs.StatedLaws.{IdentifiersReadBack}
use Rattle.span_ids.specs.Proper.{IsProperTraceId, IsProperSpanId, IsProperParent}
use Rattle.propagation.specs.Digits.{trace_digits, span_digits}
use Rattle.propagation.specs.Fronts.{BeginsWithout}
use Rattle.propagation.specs.Blocks.{Header, IsHeader, IsValueByte}
use Rattle.propagation.specs.Traceparent.{traceparent_text, sampling_flags}
use Rattle.propagation.specs.Tracestate.{IsBlank, ReadsTracestate}
use Rattle.propagation.specs.B3.{b3_state, b3_end, b3_text}
use Rattle.propagation.specs.Uber.{uber_parent, uber_flags, uber_text}
use Rattle.propagation.specs.Heads.{traceparent_name, tracestate_name, b3_name, uber_name, b3_trace_name, b3_span_name, b3_parent_name, b3_sampled_name, b3_flags_name}
use Rattle.propagation.specs.NormalContexts.{written_header, state_line, parent_line, multi_ids_lines, multi_sampling_line, traceparent_lines, uber_lines, context_lines}
use Rattle.propagation.specs.StatedLaws.{IsProperIds, AreProperIds}
use Rattle.propagation.specs.declared.ids.Ids.{Ids}
use Rattle.propagation.specs.declared.context.Context.{Context}
use Rattle.propagation.specs.declared.header_form.HeaderForm.{HeaderForm}
use Rattle.propagation.specs.declared.header_form.HeaderForm.TheVariants as forms
use Rattle.propagation.specs.declared.sampling.Sampling.{Sampling}
use Rattle.propagation.specs.declared.sampling.Sampling.TheVariants.{Absent, No, Yes, Debug}
use Rattle.propagation.proofs.ReadLemmas.{spelled_digits}
use Rattle.propagation.proofs.WrittenValues.{trace_digits_spelled, span_digits_spelled}
use Rattle.propagation.proofs.WrittenLines.{written_lines, IsVisible, AreVisible, none_visible, more_visible, plain_name, visible_header, visible_text, digits_visible, joined_visible}

abbrev pub header : List ℕ → List ℕ → Header
header name value = record { name = name; value = value }

abbrev pub state_headers : List ℕ → List Header
state_headers [] = []
state_headers (c ∷ state) = header tracestate_name (c ∷ state) ∷ []

abbrev pub traceparent_headers : Option Ids → Sampling → List ℕ → List Header
traceparent_headers None sampling state = []
traceparent_headers (Some ids) sampling state = header traceparent_name (traceparent_text ids sampling) ∷ state_headers state

abbrev pub b3_headers : Option Ids → Sampling → List Header
b3_headers ids sampling = header b3_name (b3_text ids sampling) ∷ []

abbrev pub parent_headers : Option ℕ → List Header
parent_headers None = []
parent_headers (Some id) = header b3_parent_name (span_digits id) ∷ []

abbrev pub multi_ids_headers : Option Ids → List Header
multi_ids_headers None = []
multi_ids_headers (Some ids) = header b3_trace_name (trace_digits ids.trace) ∷ header b3_span_name (span_digits ids.span) ∷ parent_headers ids.parent

abbrev pub multi_sampling_headers : Sampling → List Header
multi_sampling_headers Absent = []
multi_sampling_headers No = header b3_sampled_name (codes "0") ∷ []
multi_sampling_headers Yes = header b3_sampled_name (codes "1") ∷ []
multi_sampling_headers Debug = header b3_flags_name (codes "1") ∷ []

abbrev pub uber_headers : Option Ids → Sampling → List Header
uber_headers None sampling = []
uber_headers (Some ids) sampling = header uber_name (uber_text ids sampling) ∷ []

abbrev pub context_headers : HeaderForm → Context → List Header
context_headers forms.W3c c = traceparent_headers c.ids c.sampling c.state
context_headers forms.B3 c = b3_headers c.ids c.sampling
context_headers forms.B3Multi c = multi_ids_headers c.ids ++ multi_sampling_headers c.sampling
context_headers forms.Uber c = uber_headers c.ids c.sampling

-- ---- their lines

one_line : (name value : List ℕ) → written_header name value ≡ written_lines (header name value ∷ [])
one_line name value = sym (append-nil (written_header name value))

state_written : (state : List ℕ) → state_line state ≡ written_lines (state_headers state)
state_written [] = refl
state_written (c ∷ state) = one_line tracestate_name (c ∷ state)

parent_written : (parent : Option ℕ) → parent_line parent ≡ written_lines (parent_headers parent)
parent_written None = refl
parent_written (Some id) = one_line b3_parent_name (span_digits id)

multi_ids_written : (ids : Option Ids) → multi_ids_lines ids ≡ written_lines (multi_ids_headers ids)
multi_ids_written None = refl
multi_ids_written (Some ids) =
    append_assoc (written_header b3_trace_name (trace_digits ids.trace)) (written_header b3_span_name (span_digits ids.span)) (parent_line ids.parent)
    ∙ ap (λ s. written_header b3_trace_name (trace_digits ids.trace) ++ (written_header b3_span_name (span_digits ids.span) ++ s)) (parent_written ids.parent)

multi_sampling_written : (sampling : Sampling) → multi_sampling_line sampling ≡ written_lines (multi_sampling_headers sampling)
multi_sampling_written Absent = refl
multi_sampling_written No = one_line b3_sampled_name (codes "0")
multi_sampling_written Yes = one_line b3_sampled_name (codes "1")
multi_sampling_written Debug = one_line b3_flags_name (codes "1")

traceparent_written : (ids : Option Ids) (sampling : Sampling) (state : List ℕ) → traceparent_lines ids sampling state ≡ written_lines (traceparent_headers ids sampling state)
traceparent_written None sampling state = refl
traceparent_written (Some ids) sampling state = ap (λ s. written_header traceparent_name (traceparent_text ids sampling) ++ s) (state_written state)

uber_written : (ids : Option Ids) (sampling : Sampling) → uber_lines ids sampling ≡ written_lines (uber_headers ids sampling)
uber_written None sampling = refl
uber_written (Some ids) sampling = one_line uber_name (uber_text ids sampling)

pub context_written : (form : HeaderForm) (c : Context) → context_lines form c ≡ written_lines (context_headers form c)
context_written forms.W3c c = traceparent_written c.ids c.sampling c.state
context_written forms.B3 c = one_line b3_name (b3_text c.ids c.sampling)
context_written forms.B3Multi c =
    (λ i. multi_ids_written c.ids i ++ multi_sampling_written c.sampling i)
    ∙ sym (flat_map-append (λ (h : Header). written_header h.name h.value) (multi_ids_headers c.ids) (multi_sampling_headers c.sampling))
context_written forms.Uber c = uber_written c.ids c.sampling

-- ---- their names and values are those of headers

sampling_flags_visible : (sampling : Sampling) → All IsVisible (sampling_flags sampling)
sampling_flags_visible Absent = visible_text (codes "00") refl
sampling_flags_visible No = visible_text (codes "00") refl
sampling_flags_visible Yes = visible_text (codes "01") refl
sampling_flags_visible Debug = visible_text (codes "01") refl

b3_state_visible : (sampling : Sampling) → All IsVisible (b3_state sampling)
b3_state_visible Absent = visible_text [] refl
b3_state_visible No = visible_text (codes "0") refl
b3_state_visible Yes = visible_text (codes "1") refl
b3_state_visible Debug = visible_text (codes "d") refl

state_alone_visible : (sampling : Sampling) → AreVisible (b3_state sampling ∷ [])
state_alone_visible sampling = more_visible (b3_state sampling) [] (b3_state_visible sampling) none_visible

uber_flags_visible : (sampling : Sampling) → All IsVisible (uber_flags sampling)
uber_flags_visible Absent = visible_text (codes "0") refl
uber_flags_visible No = visible_text (codes "0") refl
uber_flags_visible Yes = visible_text (codes "1") refl
uber_flags_visible Debug = visible_text (codes "3") refl

one_formed : (h : Header) → IsHeader h → All IsHeader (h ∷ [])
one_formed h is = All-cons IsHeader h [] is (All-nil IsHeader)

multi_sampling_formed : (sampling : Sampling) → All IsHeader (multi_sampling_headers sampling)
multi_sampling_formed Absent = All-nil IsHeader
multi_sampling_formed No = one_formed (header b3_sampled_name (codes "0")) (visible_header b3_sampled_name (codes "0") (refl, refl) (visible_text (codes "0") refl))
multi_sampling_formed Yes = one_formed (header b3_sampled_name (codes "1")) (visible_header b3_sampled_name (codes "1") (refl, refl) (visible_text (codes "1") refl))
multi_sampling_formed Debug = one_formed (header b3_flags_name (codes "1")) (visible_header b3_flags_name (codes "1") (refl, refl) (visible_text (codes "1") refl))

module _ (L : IdentifiersReadBack) where
  trace_visible : (id : ℕ) → IsProperTraceId id → All IsVisible (trace_digits id)
  trace_visible id h = digits_visible (trace_digits id) (spelled_digits rules.Exact 32 (trace_digits id) id (trace_digits_spelled L rules.Exact id h))

  span_visible : (id : ℕ) → IsProperSpanId id → All IsVisible (span_digits id)
  span_visible id h = digits_visible (span_digits id) (spelled_digits rules.Exact 16 (span_digits id) id (span_digits_spelled L rules.Exact id h))

  traceparent_visible : (ids : Ids) (sampling : Sampling) → IsProperIds ids → All IsVisible (traceparent_text ids sampling)
  traceparent_visible ids sampling h =
      joined_visible 45 (codes "00" ∷ trace_digits ids.trace ∷ span_digits ids.span ∷ sampling_flags sampling ∷ []) (omega arith, omega arith)
      (more_visible (codes "00") (trace_digits ids.trace ∷ span_digits ids.span ∷ sampling_flags sampling ∷ []) (visible_text (codes "00") refl)
      (more_visible (trace_digits ids.trace) (span_digits ids.span ∷ sampling_flags sampling ∷ []) (trace_visible ids.trace h.trace)
      (more_visible (span_digits ids.span) (sampling_flags sampling ∷ []) (span_visible ids.span h.span)
      (more_visible (sampling_flags sampling) [] (sampling_flags_visible sampling) none_visible))))

  state_and_visible : (sampling : Sampling) (id : ℕ) → IsProperSpanId id → AreVisible (b3_state sampling ∷ span_digits id ∷ [])
  state_and_visible sampling id h = more_visible (b3_state sampling) (span_digits id ∷ []) (b3_state_visible sampling) (more_visible (span_digits id) [] (span_visible id h) none_visible)

  b3_end_visible : (sampling : Sampling) (parent : Option ℕ) → IsProperParent parent → AreVisible (b3_end sampling parent)
  b3_end_visible Absent parent h = none_visible
  b3_end_visible No None h = state_alone_visible No
  b3_end_visible No (Some id) h = state_and_visible No id h
  b3_end_visible Yes None h = state_alone_visible Yes
  b3_end_visible Yes (Some id) h = state_and_visible Yes id h
  b3_end_visible Debug None h = state_alone_visible Debug
  b3_end_visible Debug (Some id) h = state_and_visible Debug id h

  b3_visible : (ids : Option Ids) (sampling : Sampling) → AreProperIds ids → All IsVisible (b3_text ids sampling)
  b3_visible None sampling h = b3_state_visible sampling
  b3_visible (Some ids) sampling h =
      joined_visible 45 (trace_digits ids.trace ∷ span_digits ids.span ∷ b3_end sampling ids.parent) (omega arith, omega arith)
      (more_visible (trace_digits ids.trace) (span_digits ids.span ∷ b3_end sampling ids.parent) (trace_visible ids.trace h.trace)
      (more_visible (span_digits ids.span) (b3_end sampling ids.parent) (span_visible ids.span h.span) (b3_end_visible sampling ids.parent h.parent)))

  uber_parent_visible : (parent : Option ℕ) → IsProperParent parent → All IsVisible (uber_parent parent)
  uber_parent_visible None h = visible_text (codes "0") refl
  uber_parent_visible (Some id) h = span_visible id h

  uber_visible : (ids : Ids) (sampling : Sampling) → IsProperIds ids → All IsVisible (uber_text ids sampling)
  uber_visible ids sampling h =
      joined_visible 58 (trace_digits ids.trace ∷ span_digits ids.span ∷ uber_parent ids.parent ∷ uber_flags sampling ∷ []) (omega arith, omega arith)
      (more_visible (trace_digits ids.trace) (span_digits ids.span ∷ uber_parent ids.parent ∷ uber_flags sampling ∷ []) (trace_visible ids.trace h.trace)
      (more_visible (span_digits ids.span) (uber_parent ids.parent ∷ uber_flags sampling ∷ []) (span_visible ids.span h.span)
      (more_visible (uber_parent ids.parent) (uber_flags sampling ∷ []) (uber_parent_visible ids.parent h.parent)
      (more_visible (uber_flags sampling) [] (uber_flags_visible sampling) none_visible))))

  parent_formed : (parent : Option ℕ) → IsProperParent parent → All IsHeader (parent_headers parent)
  parent_formed None h = All-nil IsHeader
  parent_formed (Some id) h = one_formed (header b3_parent_name (span_digits id)) (visible_header b3_parent_name (span_digits id) (refl, refl) (span_visible id h))

  multi_ids_formed : (ids : Option Ids) → AreProperIds ids → All IsHeader (multi_ids_headers ids)
  multi_ids_formed None h = All-nil IsHeader
  multi_ids_formed (Some ids) h =
      All-cons IsHeader (header b3_trace_name (trace_digits ids.trace)) (header b3_span_name (span_digits ids.span) ∷ parent_headers ids.parent)
      (visible_header b3_trace_name (trace_digits ids.trace) (refl, refl) (trace_visible ids.trace h.trace))
      (All-cons IsHeader (header b3_span_name (span_digits ids.span)) (parent_headers ids.parent)
      (visible_header b3_span_name (span_digits ids.span) (refl, refl) (span_visible ids.span h.span)) (parent_formed ids.parent h.parent))

  uber_formed : (ids : Option Ids) (sampling : Sampling) → AreProperIds ids → All IsHeader (uber_headers ids sampling)
  uber_formed None sampling h = All-nil IsHeader
  uber_formed (Some ids) sampling h = one_formed (header uber_name (uber_text ids sampling)) (visible_header uber_name (uber_text ids sampling) (refl, refl) (uber_visible ids sampling h))

  module _ (state_is_value : (value state : List ℕ) → ReadsTracestate value state → All IsValueByte state × BeginsWithout IsBlank state × BeginsWithout IsBlank (reverse state)) where
    state_formed : (state : List ℕ) → (state ≡ []) ⊎ ReadsTracestate state state → All IsHeader (state_headers state)
    state_formed [] h = All-nil IsHeader
    state_formed (c ∷ state) (inl e) = absurd (let bad : ⊥ = cc in bad)
    state_formed (c ∷ state) (inr h) =
        let value = state_is_value (c ∷ state) (c ∷ state) h in
        one_formed (header tracestate_name (c ∷ state)) (record { name = plain_name tracestate_name (refl, refl); value = value.0; begins = value.1; ends = value.2 })

    traceparent_formed : (ids : Option Ids) (sampling : Sampling) (state : List ℕ) → AreProperIds ids → (state ≡ []) ⊎ ReadsTracestate state state → All IsHeader (traceparent_headers ids sampling state)
    traceparent_formed None sampling state h k = All-nil IsHeader
    traceparent_formed (Some ids) sampling state h k =
        All-cons IsHeader (header traceparent_name (traceparent_text ids sampling)) (state_headers state)
        (visible_header traceparent_name (traceparent_text ids sampling) (refl, refl) (traceparent_visible ids sampling h)) (state_formed state k)

    pub context_formed : (form : HeaderForm) (c : Context) → (c.state ≡ []) ⊎ ReadsTracestate c.state c.state → AreProperIds c.ids → All IsHeader (context_headers form c)
    context_formed forms.W3c c sound h = traceparent_formed c.ids c.sampling c.state h sound
    context_formed forms.B3 c sound h = one_formed (header b3_name (b3_text c.ids c.sampling)) (visible_header b3_name (b3_text c.ids c.sampling) (refl, refl) (b3_visible c.ids c.sampling h))
    context_formed forms.B3Multi c sound h = All-append IsHeader (multi_ids_headers c.ids) (multi_sampling_headers c.sampling) (multi_ids_formed c.ids h) (multi_sampling_formed c.sampling)
    context_formed forms.Uber c sound h = uber_formed c.ids c.sampling h
