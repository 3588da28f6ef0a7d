-- The lines of a context tell its normal form.
use Rattle.std.proofs.Common.{◌≡◌, ◌≢◌, ℕ, List, [], ◌∷◌, ◌++◌, refl, sym, ap, subst, ◌∙◌, inl, inr}
use Rattle.std.specs.Prelude.{◌⊎◌, All, false, map, filter, reverse, codes, Option, Some, None, option_map}
use Rattle.std.specs.Option.{option_to_list}
use Rattle.std.proofs.lemmas.List.{append-nil, map-append}
use Rattle.std.proofs.lemmas.List.Elements.{filter-append}
use Rattle.span_ids.specs.declared.hex_text.IdRule.TheVariants as rules
use Rattle.span_ids.specs.StatedLaws.{IdentifiersReadBack}
use Rattle.propagation.specs.Digits.{trace_digits, span_digits}
use Rattle.propagation.specs.Fronts.{BeginsWithout}
use Rattle.propagation.specs.Blocks.{Header, IsValueByte, HasHeaders}
use Rattle.propagation.specs.Traceparent.{traceparent_text, traceparent_ids, traceparent_sampling}
use Rattle.propagation.specs.Tracestate.{IsBlank, ReadsTracestate}
use Rattle.propagation.specs.B3.{HoldsB3, b3_text}
use Rattle.propagation.specs.Uber.{uber_text, told_sampling}
use Rattle.propagation.specs.Heads.{is_named, header_values, traceparent_name, b3_name, b3_trace_name, b3_span_name, b3_parent_name, b3_sampled_name, b3_flags_name, Misses, MissesMulti, IsFirstForm, StandsOnce, StandsAtMostOnce, TellsState, TellsMultiIds, TellsMultiSampling, TellsMulti, TellsContext, Head}
use Rattle.propagation.specs.NormalContexts.{IsSoundContext, CannotTell, context_lines, normal_context}
use Rattle.propagation.specs.StatedLaws.{IsProperIds, AreProperIds, HeadersReadBack}
use Rattle.propagation.specs.declared.ids.Ids.{Ids}
use Rattle.propagation.specs.declared.context.Context.{Context}
use Rattle.propagation.specs.declared.header_form.HeaderForm.{HeaderForm}
use Rattle.propagation.specs.declared.header_form.HeaderForm.TheVariants as forms
use Rattle.propagation.specs.declared.sampling.Sampling.{Sampling}
use Rattle.propagation.specs.declared.sampling.Sampling.TheVariants.{Absent, No, Yes, Debug}
use Rattle.propagation.proofs.NormalLemmas.{written_alike}
use Rattle.propagation.proofs.WrittenValues.{trace_digits_spelled, span_digits_spelled, traceparent_back, b3_back, uber_back}
use Rattle.propagation.proofs.WrittenLines.{written_have}
use Rattle.propagation.proofs.WrittenHeaders.{state_headers, traceparent_headers, multi_ids_headers, multi_sampling_headers, uber_headers, context_headers, context_written, context_formed}
use Rattle.propagation.proofs.OneVerdict.{one_head}

-- the context is sound, its identifiers are in their ranges, and the form can tell it
record IsTellable (form : HeaderForm) (c : Context) : Type 0 where
  sound : IsSoundContext c
  proper : AreProperIds c.ids
  told : ¬ (CannotTell form c)

-- ---- X-B3

-- what stands in each header
abbrev multi_trace : Option Ids → Option (List ℕ)
multi_trace ids = option_map (λ i. trace_digits i.trace) ids

abbrev multi_span : Option Ids → Option (List ℕ)
multi_span ids = option_map (λ i. span_digits i.span) ids

abbrev multi_parent : Option Ids → Option (List ℕ)
multi_parent None = None
multi_parent (Some ids) = option_map span_digits ids.parent

abbrev multi_sampled : Sampling → Option (List ℕ)
multi_sampled Absent = None
multi_sampled No = Some (codes "0")
multi_sampled Yes = Some (codes "1")
multi_sampled Debug = None

abbrev multi_flags : Sampling → Option (List ℕ)
multi_flags Absent = None
multi_flags No = None
multi_flags Yes = None
multi_flags Debug = Some (codes "1")

-- headers of identifiers, and none other
record IdsHeaders (headers : List Header) (trace span parent : Option (List ℕ)) : Type 0 where
  traceparent : Misses traceparent_name headers
  b3 : Misses b3_name headers
  trace_once : StandsAtMostOnce b3_trace_name headers trace
  span_once : StandsAtMostOnce b3_span_name headers span
  parent_once : StandsAtMostOnce b3_parent_name headers parent
  sampled : Misses b3_sampled_name headers
  flags : Misses b3_flags_name headers

parent_values : (trace span : ℕ) (parent : Option ℕ)
    → IdsHeaders (multi_ids_headers (Some (record { trace = trace; span = span; parent = parent }))) (Some (trace_digits trace)) (Some (span_digits span)) (option_map span_digits parent)
parent_values trace span None = record { traceparent = refl; b3 = refl; trace_once = refl; span_once = refl; parent_once = refl; sampled = refl; flags = refl }
parent_values trace span (Some id) = record { traceparent = refl; b3 = refl; trace_once = refl; span_once = refl; parent_once = refl; sampled = refl; flags = refl }

ids_values : (ids : Option Ids) → IdsHeaders (multi_ids_headers ids) (multi_trace ids) (multi_span ids) (multi_parent ids)
ids_values None = record { traceparent = refl; b3 = refl; trace_once = refl; span_once = refl; parent_once = refl; sampled = refl; flags = refl }
ids_values (Some ids) = parent_values ids.trace ids.span ids.parent

-- headers of a sampling, and none other
record SamplingHeaders (headers : List Header) (sampled flags : Option (List ℕ)) : Type 0 where
  traceparent : Misses traceparent_name headers
  b3 : Misses b3_name headers
  trace : Misses b3_trace_name headers
  span : Misses b3_span_name headers
  parent : Misses b3_parent_name headers
  sampled_once : StandsAtMostOnce b3_sampled_name headers sampled
  flags_once : StandsAtMostOnce b3_flags_name headers flags

sampling_values : (sampling : Sampling) → SamplingHeaders (multi_sampling_headers sampling) (multi_sampled sampling) (multi_flags sampling)
sampling_values Absent = record { traceparent = refl; b3 = refl; trace = refl; span = refl; parent = refl; sampled_once = refl; flags_once = refl }
sampling_values No = record { traceparent = refl; b3 = refl; trace = refl; span = refl; parent = refl; sampled_once = refl; flags_once = refl }
sampling_values Yes = record { traceparent = refl; b3 = refl; trace = refl; span = refl; parent = refl; sampled_once = refl; flags_once = refl }
sampling_values Debug = record { traceparent = refl; b3 = refl; trace = refl; span = refl; parent = refl; sampled_once = refl; flags_once = refl }

values_append : (name : List ℕ) (a b : List Header) → header_values name (a ++ b) ≡ header_values name a ++ header_values name b
values_append name a b = ap (λ l. map (λ (h : Header). h.value) l) (filter-append (is_named name) a b) ∙ map-append (λ (h : Header). h.value) (filter (is_named name) a) (filter (is_named name) b)

in_front : (name : List ℕ) (a b : List Header) (value : Option (List ℕ)) → StandsAtMostOnce name a value → Misses name b → StandsAtMostOnce name (a ++ b) value
in_front name a b value e f = values_append name a b ∙ (λ i. e i ++ f i) ∙ append-nil (option_to_list value)

behind : (name : List ℕ) (a b : List Header) (value : Option (List ℕ)) → Misses name a → StandsAtMostOnce name b value → StandsAtMostOnce name (a ++ b) value
behind name a b value e f = values_append name a b ∙ (λ i. e i ++ f i)

-- both together
record MultiHeaders (headers : List Header) (trace span parent sampled flags : Option (List ℕ)) : Type 0 where
  traceparent : Misses traceparent_name headers
  b3 : Misses b3_name headers
  trace_once : StandsAtMostOnce b3_trace_name headers trace
  span_once : StandsAtMostOnce b3_span_name headers span
  parent_once : StandsAtMostOnce b3_parent_name headers parent
  sampled_once : StandsAtMostOnce b3_sampled_name headers sampled
  flags_once : StandsAtMostOnce b3_flags_name headers flags

both_values : (a b : List Header) (trace span parent sampled flags : Option (List ℕ)) → IdsHeaders a trace span parent → SamplingHeaders b sampled flags → MultiHeaders (a ++ b) trace span parent sampled flags
both_values a b trace span parent sampled flags h k = record {
  traceparent = behind traceparent_name a b None h.traceparent k.traceparent;
  b3 = behind b3_name a b None h.b3 k.b3;
  trace_once = in_front b3_trace_name a b trace h.trace_once k.trace;
  span_once = in_front b3_span_name a b span h.span_once k.span;
  parent_once = in_front b3_parent_name a b parent h.parent_once k.parent;
  sampled_once = behind b3_sampled_name a b sampled h.sampled k.sampled_once;
  flags_once = behind b3_flags_name a b flags h.flags k.flags_once;
}

abbrev multi_headers : Option Ids → Sampling → List Header
multi_headers ids sampling = multi_ids_headers ids ++ multi_sampling_headers sampling

multi_values : (ids : Option Ids) (sampling : Sampling) → MultiHeaders (multi_headers ids sampling) (multi_trace ids) (multi_span ids) (multi_parent ids) (multi_sampled sampling) (multi_flags sampling)
multi_values ids sampling =
    both_values (multi_ids_headers ids) (multi_sampling_headers sampling) (multi_trace ids) (multi_span ids) (multi_parent ids) (multi_sampled sampling) (multi_flags sampling) (ids_values ids) (sampling_values sampling)

stands : (name : List ℕ) (headers : List Header) (value : List ℕ) → StandsAtMostOnce name headers (Some value) → ¬ (Misses name headers)
stands name headers value h missing =
    let e = sym h ∙ missing in
    cc

some_multi : (headers : List Header) (ids : Option Ids) (sampling : Sampling) → HoldsB3 ids sampling
    → MultiHeaders headers (multi_trace ids) (multi_span ids) (multi_parent ids) (multi_sampled sampling) (multi_flags sampling) → ¬ (MissesMulti headers)
some_multi headers (Some ids) sampling held h missing = stands b3_trace_name headers (trace_digits ids.trace) h.trace_once missing.trace
some_multi headers None Absent held h missing = held
some_multi headers None No held h missing = stands b3_sampled_name headers (codes "0") h.sampled_once missing.sampled
some_multi headers None Yes held h missing = stands b3_sampled_name headers (codes "1") h.sampled_once missing.sampled
some_multi headers None Debug held h missing = stands b3_flags_name headers (codes "1") h.flags_once missing.flags

parent_told : IdentifiersReadBack → (ids : Ids) (parent : Option ℕ) → IsProperIds ids → ids.parent ≡ parent → TellsMultiIds (Some (trace_digits ids.trace)) (Some (span_digits ids.span)) (option_map span_digits parent) (Some ids)
parent_told L ids None h e = (ids, trace_digits_spelled L rules.Half ids.trace h.trace, span_digits_spelled L rules.Exact ids.span h.span, e, refl)
parent_told L ids (Some id) h e =
    let proper = rw e at h.parent in
    (ids, trace_digits_spelled L rules.Half ids.trace h.trace, span_digits_spelled L rules.Exact ids.span h.span, (id, span_digits_spelled L rules.Exact id proper, e), refl)

multi_ids_told : IdentifiersReadBack → (ids : Option Ids) → AreProperIds ids → TellsMultiIds (multi_trace ids) (multi_span ids) (multi_parent ids) ids
multi_ids_told L None h = refl
multi_ids_told L (Some ids) h = parent_told L ids ids.parent h refl

multi_sampling_told : (sampling : Sampling) → TellsMultiSampling (multi_sampled sampling) (multi_flags sampling) sampling
multi_sampling_told Absent = inr (λ e. cc, refl)
multi_sampling_told No = inr (λ e. cc, inl refl)
multi_sampling_told Yes = inr (λ e. cc, inl refl)
multi_sampling_told Debug = inl (refl, refl)

something_held : (ids : Option Ids) (sampling : Sampling) → HoldsB3 ids sampling → (ids ≢ None) ⊎ (sampling ≢ Absent)
something_held (Some ids) sampling held = inl (λ e. cc)
something_held None Absent held = absurd held
something_held None No held = inr (λ e. cc)
something_held None Yes held = inr (λ e. cc)
something_held None Debug held = inr (λ e. cc)

multi_told : IdentifiersReadBack → (headers : List Header) (ids : Option Ids) (sampling : Sampling) → AreProperIds ids → HoldsB3 ids sampling
    → MultiHeaders headers (multi_trace ids) (multi_span ids) (multi_parent ids) (multi_sampled sampling) (multi_flags sampling) → TellsMulti headers ids sampling
multi_told L headers ids sampling proper held h = record {
  trace = multi_trace ids;
  span = multi_span ids;
  parent = multi_parent ids;
  sampled = multi_sampled sampling;
  flags = multi_flags sampling;
  trace_once = h.trace_once;
  span_once = h.span_once;
  parent_once = h.parent_once;
  sampled_once = h.sampled_once;
  flags_once = h.flags_once;
  ids_told = multi_ids_told L ids proper;
  sampling_told = multi_sampling_told sampling;
  something = something_held ids sampling held;
}

-- ---- which form is there

holds_b3 : (ids : Option Ids) (sampling : Sampling) → (ids ≡ None → sampling ≢ Absent) → HoldsB3 ids sampling
holds_b3 (Some ids) sampling h = tt
holds_b3 None Absent h = absurd (h refl refl)
holds_b3 None No h = tt
holds_b3 None Yes h = tt
holds_b3 None Debug h = tt

sound_holds : (c : Context) → IsSoundContext c → HoldsB3 c.ids c.sampling
sound_holds c h = holds_b3 c.ids c.sampling (λ e. (h.told e).0)

traceparent_first : (ids : Option Ids) (sampling : Sampling) (state : List ℕ) → ids ≢ None → IsFirstForm forms.W3c (traceparent_headers ids sampling state)
traceparent_first None sampling state some = absurd (some refl)
traceparent_first (Some ids) sampling state some = λ e. cc

uber_first : (ids : Option Ids) (sampling : Sampling) → ids ≢ None → IsFirstForm forms.Uber (uber_headers ids sampling)
uber_first None sampling some = absurd (some refl)
uber_first (Some ids) sampling some = (refl, refl, record { trace = refl; span = refl; parent = refl; sampled = refl; flags = refl }, λ e. cc)

first_form : (form : HeaderForm) (c : Context) → IsTellable form c → IsFirstForm form (context_headers form c)
first_form forms.W3c c h = traceparent_first c.ids c.sampling c.state h.told
first_form forms.B3 c h = (refl, λ e. cc)
first_form forms.B3Multi c h =
    let values = multi_values c.ids c.sampling in
    (values.traceparent, values.b3, some_multi (multi_headers c.ids c.sampling) c.ids c.sampling (sound_holds c h.sound) values)
first_form forms.Uber c h = uber_first c.ids c.sampling h.told

-- ---- what the headers tell

uber_told : IdentifiersReadBack → (ids : Option Ids) (sampling : Sampling) → ids ≢ None → AreProperIds ids → TellsContext forms.Uber (uber_headers ids sampling) (record { ids = ids; sampling = told_sampling sampling; state = [] }) false
uber_told L None sampling some h = absurd (some refl)
uber_told L (Some ids) sampling some h = (uber_text ids sampling, ids, refl, uber_back L ids sampling h, refl, refl, refl)

module _ (L : IdentifiersReadBack) (empty_state : ReadsTracestate [] []) where
  state_told : (value state : List ℕ) → (state ≡ []) ⊎ ReadsTracestate state state → TellsState (record { name = traceparent_name; value = value } ∷ state_headers state) state false
  state_told value [] h = empty_state
  state_told value (c ∷ state) (inl e) = absurd (let bad : ⊥ = cc in bad)
  state_told value (c ∷ state) (inr h) = h

  traceparent_once : (value state : List ℕ) → StandsOnce traceparent_name (record { name = traceparent_name; value = value } ∷ state_headers state) value
  traceparent_once value [] = refl
  traceparent_once value (c ∷ state) = refl

  traceparent_told : (ids : Option Ids) (sampling : Sampling) (state : List ℕ) → ids ≢ None → AreProperIds ids → (state ≡ []) ⊎ ReadsTracestate state state
      → TellsContext forms.W3c (traceparent_headers ids sampling state) (record { ids = option_map traceparent_ids ids; sampling = traceparent_sampling sampling; state = state }) false
  traceparent_told None sampling state some h k = absurd (some refl)
  traceparent_told (Some ids) sampling state some h k =
      let value = traceparent_text ids sampling in
      (value, traceparent_ids ids, traceparent_once value state, traceparent_back L ids sampling h, refl, state_told value state k)

  context_told : (form : HeaderForm) (c : Context) → IsTellable form c → TellsContext form (context_headers form c) (normal_context form c) false
  context_told forms.W3c c h = traceparent_told c.ids c.sampling c.state h.told h.proper h.sound.state
  context_told forms.B3 c h = (b3_text c.ids c.sampling, refl, b3_back L c.ids c.sampling h.proper (sound_holds c h.sound), refl, refl)
  context_told forms.B3Multi c h = (multi_told L (multi_headers c.ids c.sampling) c.ids c.sampling h.proper (sound_holds c h.sound) (multi_values c.ids c.sampling), refl, refl)
  context_told forms.Uber c h = uber_told L c.ids c.sampling h.told h.proper

  -- ---- the lines

  module _ (state_is_value : (value state : List ℕ) → ReadsTracestate value state → All IsValueByte state × BeginsWithout IsBlank state × BeginsWithout IsBlank (reverse state)) where
    lines_read_back : (form : HeaderForm) (c : Context) → IsTellable form c → Head (normal_context form c) false (context_lines form c)
    lines_read_back form c h = record {
      headers = context_headers form c;
      form = form;
      has = subst (λ block. HasHeaders block (context_headers form c)) (sym (context_written form c)) (written_have (context_headers form c) (context_formed L state_is_value form c h.sound.state h.proper));
      first = first_form form c h;
      tells = context_told form c h;
    }

    module _ (one_tracestate : (value a b : List ℕ) → ReadsTracestate value a → ReadsTracestate value b → a ≡ b)
        (one_headers : (block : List ℕ) (a b : List Header) → HasHeaders block a → HasHeaders block b → a ≡ b) where
      same_contexts : (form : HeaderForm) (c d : Context) → IsTellable form c → IsTellable form d → context_lines form c ≡ context_lines form d → normal_context form c ≡ normal_context form d
      same_contexts form c d h k e =
          (one_head one_tracestate one_headers (context_lines form d) (normal_context form c) (normal_context form d) false false
          (subst (λ block. Head (normal_context form c) false block) e (lines_read_back form c h)) (lines_read_back form d k)).0

      same_lines : (form : HeaderForm) (c d : Context) → normal_context form c ≡ normal_context form d → context_lines form c ≡ context_lines form d
      same_lines form c d e = sym (written_alike form c) ∙ ap (λ x. context_lines form x) e ∙ written_alike form d

      pub headers_read_back : HeadersReadBack
      headers_read_back = record {
        read_back = λ form c sound proper told. lines_read_back form c (record { sound = sound; proper = proper; told = told });
        equal_lines = λ form c d sound proper told sound2 proper2 told2.
            let h : IsTellable form c = record { sound = sound; proper = proper; told = told } in
            let k : IsTellable form d = record { sound = sound2; proper = proper2; told = told2 } in
            (same_contexts form c d h k, same_lines form c d);
      }
