-- A block of header lines has one verdict.
use Rattle.std.proofs.Common.{◌≡◌, ℕ, List, [], refl, sym, ap, subst, ◌∙◌, inl, inr, arith}
use Rattle.std.specs.Prelude.{Bool, true, false, codes, Option, Some, None}
use Rattle.std.specs.List.{join_with_byte}
use Rattle.std.specs.Option.{option_to_list}
use Rattle.span_ids.specs.declared.hex_text.IdRule.TheVariants as rules
use Rattle.propagation.specs.Blocks.{Header, HasHeaders}
use Rattle.propagation.specs.Traceparent.{ReadsTraceparent}
use Rattle.propagation.specs.Tracestate.{member_comma, ReadsTracestate}
use Rattle.propagation.specs.B3.{ReadsB3}
use Rattle.propagation.specs.Uber.{ReadsUber}
use Rattle.propagation.specs.Heads.{header_values, traceparent_name, tracestate_name, b3_name, uber_name, b3_trace_name, b3_span_name, b3_parent_name, b3_sampled_name, b3_flags_name, IsFirstForm, HasNoForm, StandsOnce, StandsAtMostOnce, TellsState, TellsMultiIds, TellsSampled, TellsMultiSampling, TellsMulti, TellsContext, Head, IsBadForm, IsHeaderCause, HeaderVerdict, IsHeaderVerdict}
use Rattle.propagation.specs.declared.ids.Ids.{Ids}
use Rattle.propagation.specs.declared.context.Context.{Context}
use Rattle.propagation.specs.declared.header_cause.HeaderCause.{HeaderCause}
use Rattle.propagation.specs.declared.header_cause.HeaderCause.TheVariants as causes
use Rattle.propagation.specs.declared.header_form.HeaderForm.{HeaderForm}
use Rattle.propagation.specs.declared.header_form.HeaderForm.TheVariants as forms
use Rattle.propagation.specs.declared.sampling.Sampling.{Sampling}
use Rattle.propagation.specs.declared.sampling.Sampling.TheVariants.{Absent, No, Yes, Debug}
use Rattle.propagation.proofs.FrontLemmas.{first_once}
use Rattle.propagation.proofs.OneValue.{spelled_once, ids_equal, one_traceparent, one_b3, one_uber}

-- ---- the form

pub one_form : (f g : HeaderForm) (headers : List Header) → IsFirstForm f headers → IsFirstForm g headers → f ≡ g
one_form forms.W3c forms.W3c headers h k = refl
one_form forms.W3c forms.B3 headers h k = absurd (h k.0)
one_form forms.W3c forms.B3Multi headers h k = absurd (h k.0)
one_form forms.W3c forms.Uber headers h k = absurd (h k.0)
one_form forms.B3 forms.W3c headers h k = absurd (k h.0)
one_form forms.B3 forms.B3 headers h k = refl
one_form forms.B3 forms.B3Multi headers h k = absurd (h.1 k.1)
one_form forms.B3 forms.Uber headers h k = absurd (h.1 k.1)
one_form forms.B3Multi forms.W3c headers h k = absurd (k h.0)
one_form forms.B3Multi forms.B3 headers h k = absurd (k.1 h.1)
one_form forms.B3Multi forms.B3Multi headers h k = refl
one_form forms.B3Multi forms.Uber headers h k = absurd (h.2 k.2)
one_form forms.Uber forms.W3c headers h k = absurd (k h.0)
one_form forms.Uber forms.B3 headers h k = absurd (k.1 h.1)
one_form forms.Uber forms.B3Multi headers h k = absurd (k.2 h.2)
one_form forms.Uber forms.Uber headers h k = refl

pub no_first_form : (form : HeaderForm) (headers : List Header) → HasNoForm headers → IsFirstForm form headers → ⊥
no_first_form forms.W3c headers none h = h none.traceparent
no_first_form forms.B3 headers none h = h.1 none.b3
no_first_form forms.B3Multi headers none h = h.2 none.multi
no_first_form forms.Uber headers none h = h.3 none.uber

-- ---- headers that stand once

one_value : (name : List ℕ) (headers : List Header) (a b : List ℕ) → StandsOnce name headers a → StandsOnce name headers b → a ≡ b
one_value name headers a b h k =
    let e = sym h ∙ k in
    cc

listed_once : (a b : Option (List ℕ)) → option_to_list a ≡ option_to_list b → a ≡ b
listed_once None None e = refl
listed_once None (Some b) e = cc
listed_once (Some a) None e = cc
listed_once (Some a) (Some b) e = cc

one_option : (name : List ℕ) (headers : List Header) (a b : Option (List ℕ)) → StandsAtMostOnce name headers a → StandsAtMostOnce name headers b → a ≡ b
one_option name headers a b h k = listed_once a b (sym h ∙ k)

-- ---- X-B3

multi_ids_once : (trace span parent : Option (List ℕ)) (a b : Option Ids) → TellsMultiIds trace span parent a → TellsMultiIds trace span parent b → a ≡ b
multi_ids_once None None None a b h k = h ∙ sym k
multi_ids_once None None (Some parent) a b h k = absurd h
multi_ids_once None (Some span) parent a b h k = absurd h
multi_ids_once (Some trace) None parent a b h k = absurd h
multi_ids_once (Some trace) (Some span) None a b (i, in_trace, in_span, no_parent, is) (j, in_trace2, in_span2, no_parent2, at) =
    let same = ids_equal i j (spelled_once rules.Half rules.Half 32 trace trace i.trace j.trace refl in_trace in_trace2)
    (spelled_once rules.Exact rules.Exact 16 span span i.span j.span refl in_span in_span2) (no_parent ∙ sym no_parent2) in
    is ∙ ap Some same ∙ sym at
multi_ids_once (Some trace) (Some span) (Some parent) a b (i, in_trace, in_span, (p, in_parent, told), is) (j, in_trace2, in_span2, (q, in_parent2, told2), at) =
    let same = ids_equal i j (spelled_once rules.Half rules.Half 32 trace trace i.trace j.trace refl in_trace in_trace2)
    (spelled_once rules.Exact rules.Exact 16 span span i.span j.span refl in_span in_span2)
    (told ∙ ap Some (spelled_once rules.Exact rules.Exact 16 parent parent p q refl in_parent in_parent2) ∙ sym told2) in
    is ∙ ap Some same ∙ sym at

no_and_yes : (text : List ℕ) → TellsSampled (Some text) No → TellsSampled (Some text) Yes → ⊥
no_and_yes text (inl e) (inl f) = let same = first_once text 48 49 [] [] e f in omega arith
no_and_yes text (inl e) (inr f) = let same = first_once text 48 116 [] (codes "rue") e f in omega arith
no_and_yes text (inr e) (inl f) = let same = first_once text 102 49 (codes "alse") [] e f in omega arith
no_and_yes text (inr e) (inr f) = let same = first_once text 102 116 (codes "alse") (codes "rue") e f in omega arith

sampled_once : (value : Option (List ℕ)) (s t : Sampling) → TellsSampled value s → TellsSampled value t → s ≡ t
sampled_once None s t h k = h ∙ sym k
sampled_once (Some text) Absent t h k = absurd h
sampled_once (Some text) No Absent h k = absurd k
sampled_once (Some text) No No h k = refl
sampled_once (Some text) No Yes h k = absurd (no_and_yes text h k)
sampled_once (Some text) No Debug h k = absurd k
sampled_once (Some text) Yes Absent h k = absurd k
sampled_once (Some text) Yes No h k = absurd (no_and_yes text k h)
sampled_once (Some text) Yes Yes h k = refl
sampled_once (Some text) Yes Debug h k = absurd k
sampled_once (Some text) Debug t h k = absurd h

multi_sampling_once : (sampled flags : Option (List ℕ)) (s t : Sampling) → TellsMultiSampling sampled flags s → TellsMultiSampling sampled flags t → s ≡ t
multi_sampling_once sampled flags s t (inl h) (inl k) = h.1 ∙ sym k.1
multi_sampling_once sampled flags s t (inl h) (inr k) = absurd (k.0 h.0)
multi_sampling_once sampled flags s t (inr h) (inl k) = absurd (h.0 k.0)
multi_sampling_once sampled flags s t (inr h) (inr k) = sampled_once sampled s t h.1 k.1

ids_moved : (trace span parent t s p : Option (List ℕ)) (ids : Option Ids) → trace ≡ t → span ≡ s → parent ≡ p → TellsMultiIds trace span parent ids → TellsMultiIds t s p ids
ids_moved trace span parent t s p ids e f g h = subst (λ x. TellsMultiIds t s x ids) g (subst (λ x. TellsMultiIds t x parent ids) f (subst (λ x. TellsMultiIds x span parent ids) e h))

sampling_moved : (sampled flags s f : Option (List ℕ)) (sampling : Sampling) → sampled ≡ s → flags ≡ f → TellsMultiSampling sampled flags sampling → TellsMultiSampling s f sampling
sampling_moved sampled flags s f sampling e g h = subst (λ x. TellsMultiSampling s x sampling) g (subst (λ x. TellsMultiSampling x flags sampling) e h)

pub one_multi : (headers : List Header) (i j : Option Ids) (s t : Sampling) → TellsMulti headers i s → TellsMulti headers j t → (i ≡ j) × (s ≡ t)
one_multi headers i j s t h k =
    let trace = one_option b3_trace_name headers h.trace k.trace h.trace_once k.trace_once in
    let span = one_option b3_span_name headers h.span k.span h.span_once k.span_once in
    let parent = one_option b3_parent_name headers h.parent k.parent h.parent_once k.parent_once in
    let sampled = one_option b3_sampled_name headers h.sampled k.sampled h.sampled_once k.sampled_once in
    let flags = one_option b3_flags_name headers h.flags k.flags h.flags_once k.flags_once in (
      multi_ids_once k.trace k.span k.parent i j (ids_moved h.trace h.span h.parent k.trace k.span k.parent i trace span parent h.ids_told) k.ids_told,
      multi_sampling_once k.sampled k.flags s t (sampling_moved h.sampled h.flags k.sampled k.flags s sampled flags h.sampling_told) k.sampling_told,
    )

-- ---- causes

-- the cause that a form is bad
pub form_cause : HeaderForm → HeaderCause
form_cause forms.W3c = causes.BadTraceparent
form_cause forms.B3 = causes.BadB3
form_cause forms.B3Multi = causes.BadB3
form_cause forms.Uber = causes.BadUber

pub data CauseView (block : List ℕ) (cause : HeaderCause) : Type 0 where
  bad_line : cause ≡ causes.HeaderLine → ((headers : List Header) → ¬ (HasHeaders block headers)) → CauseView block cause
  no_form : cause ≡ causes.NoContext → (headers : List Header) → HasHeaders block headers → HasNoForm headers → CauseView block cause
  bad_form : (form : HeaderForm) → cause ≡ form_cause form → IsBadForm form block → CauseView block cause

cause_view : (block : List ℕ) (cause : HeaderCause) → IsHeaderCause cause block → CauseView block cause
unfolding form_cause
cause_view block causes.HeaderLine h = bad_line refl h
cause_view block causes.NoContext (headers, has, none) = no_form refl headers has none
cause_view block causes.BadTraceparent h = bad_form forms.W3c refl h
cause_view block causes.BadB3 (inl h) = bad_form forms.B3 refl h
cause_view block causes.BadB3 (inr h) = bad_form forms.B3Multi refl h
cause_view block causes.BadUber h = bad_form forms.Uber refl h

-- ---- the context and the block

pub contexts_equal : (c d : Context) → c.ids ≡ d.ids → c.sampling ≡ d.sampling → c.state ≡ d.state → c ≡ d
contexts_equal c d e f g = λ i. record { ids = e i; sampling = f i; state = g i }

module _ (one_tracestate : (value a b : List ℕ) → ReadsTracestate value a → ReadsTracestate value b → a ≡ b) where
  pub one_state : (headers : List Header) (a b : List ℕ) (d e : Bool) → TellsState headers a d → TellsState headers b e → (a ≡ b) × (d ≡ e)
  one_state headers a b true true h k = (h.1 ∙ sym k.1, refl)
  one_state headers a b true false h k = absurd (h.0 b k)
  one_state headers a b false true h k = absurd (k.0 a h)
  one_state headers a b false false h k = (one_tracestate (join_with_byte member_comma (header_values tracestate_name headers)) a b h k, refl)

  pub one_context : (form : HeaderForm) (headers : List Header) (c d : Context) (x y : Bool) → TellsContext form headers c x → TellsContext form headers d y → (c ≡ d) × (x ≡ y)
  one_context forms.W3c headers c d x y (value, i, once, reads, is, state) (other, j, once2, reads2, is2, state2) =
      let same = one_value traceparent_name headers value other once once2 in
      let told = one_traceparent other i j c.sampling d.sampling (subst (λ v. ReadsTraceparent v i c.sampling) same reads) reads2 in
      let tail = one_state headers c.state d.state x y state state2 in
      (contexts_equal c d (is ∙ ap Some told.0 ∙ sym is2) told.1 tail.0, tail.1)
  one_context forms.B3 headers c d x y (value, once, reads, state, kept) (other, once2, reads2, state2, kept2) =
      let same = one_value b3_name headers value other once once2 in
      let told = one_b3 other c.ids d.ids c.sampling d.sampling (subst (λ v. ReadsB3 v c.ids c.sampling) same reads) reads2 in
      (contexts_equal c d told.0 told.1 (state ∙ sym state2), kept ∙ sym kept2)
  one_context forms.B3Multi headers c d x y (tells, state, kept) (tells2, state2, kept2) =
      let told = one_multi headers c.ids d.ids c.sampling d.sampling tells tells2 in
      (contexts_equal c d told.0 told.1 (state ∙ sym state2), kept ∙ sym kept2)
  one_context forms.Uber headers c d x y (value, i, once, reads, is, state, kept) (other, j, once2, reads2, is2, state2, kept2) =
      let same = one_value uber_name headers value other once once2 in
      let told = one_uber other i j c.sampling d.sampling (subst (λ v. ReadsUber v i c.sampling) same reads) reads2 in
      (contexts_equal c d (is ∙ ap Some told.0 ∙ sym is2) told.1 (state ∙ sym state2), kept ∙ sym kept2)

  module _ (one_headers : (block : List ℕ) (a b : List Header) → HasHeaders block a → HasHeaders block b → a ≡ b) where
    block_form : (block : List ℕ) (a b : List Header) (f g : HeaderForm) → HasHeaders block a → HasHeaders block b → IsFirstForm f a → IsFirstForm g b → f ≡ g
    block_form block a b f g h k p q = one_form f g b (subst (λ x. IsFirstForm f x) (one_headers block a b h k) p) q

    context_moved : (f g : HeaderForm) (a b : List Header) (c : Context) (x : Bool) → f ≡ g → a ≡ b → TellsContext f a c x → TellsContext g b c x
    context_moved f g a b c x e s h = subst (λ y. TellsContext g y c x) s (subst (λ y. TellsContext y a c x) e h)

    pub one_head : (block : List ℕ) (c d : Context) (x y : Bool) → Head c x block → Head d y block → (c ≡ d) × (x ≡ y)
    one_head block c d x y h k =
        let same = one_headers block h.headers k.headers h.has k.has in
        let form = block_form block h.headers k.headers h.form k.form h.has k.has h.first k.first in
        one_context k.form k.headers c d x y (context_moved h.form k.form h.headers k.headers c x form same h.tells) k.tells

    told_or_not : (block : List ℕ) (c : Context) (x : Bool) (cause : HeaderCause) → Head c x block → CauseView block cause → ⊥
    told_or_not block c x cause h (bad_line is none) = none h.headers h.has
    told_or_not block c x cause h (no_form is headers has none) =
        no_first_form h.form headers none (subst (λ y. IsFirstForm h.form y) (one_headers block h.headers headers h.has has) h.first)
    told_or_not block c x cause h (bad_form form is k) =
        let same = one_headers block h.headers k.headers h.has k.has in
        let first = block_form block h.headers k.headers h.form form h.has k.has h.first k.first in
        k.bad c x (context_moved h.form form h.headers k.headers c x first same h.tells)

    no_form_no_bad_form : (block : List ℕ) (headers : List Header) (form : HeaderForm) → HasHeaders block headers → HasNoForm headers → IsBadForm form block → ⊥
    no_form_no_bad_form block headers form has none k =
        no_first_form form headers none (subst (λ y. IsFirstForm form y) (one_headers block k.headers headers k.has has) k.first)

    one_view : (block : List ℕ) (a b : HeaderCause) → CauseView block a → CauseView block b → a ≡ b
    one_view block a b (bad_line e none) (bad_line f none2) = e ∙ sym f
    one_view block a b (bad_line e none) (no_form f headers has free) = absurd (none headers has)
    one_view block a b (bad_line e none) (bad_form form f k) = absurd (none k.headers k.has)
    one_view block a b (no_form e headers has free) (bad_line f none) = absurd (none headers has)
    one_view block a b (no_form e headers has free) (no_form f headers2 has2 free2) = e ∙ sym f
    one_view block a b (no_form e headers has free) (bad_form form f k) = absurd (no_form_no_bad_form block headers form has free k)
    one_view block a b (bad_form form e h) (bad_line f none) = absurd (none h.headers h.has)
    one_view block a b (bad_form form e h) (no_form f headers has free) = absurd (no_form_no_bad_form block headers form has free h)
    one_view block a b (bad_form form e h) (bad_form other f k) =
        e ∙ ap form_cause (block_form block h.headers k.headers form other h.has k.has h.first k.first) ∙ sym f

    pub one_verdict : (block : List ℕ) (a b : HeaderVerdict) → IsHeaderVerdict block a → IsHeaderVerdict block b → a ≡ b
    one_verdict block (HeaderVerdict.told c x) (HeaderVerdict.told d y) h k =
        let same = one_head block c d x y h k in
        λ i. HeaderVerdict.told (same.0 i) (same.1 i)
    one_verdict block (HeaderVerdict.told c x) (HeaderVerdict.refused b) h k = absurd (told_or_not block c x b h (cause_view block b k))
    one_verdict block (HeaderVerdict.refused a) (HeaderVerdict.told d y) h k = absurd (told_or_not block d y a k (cause_view block a h))
    one_verdict block (HeaderVerdict.refused a) (HeaderVerdict.refused b) h k = ap HeaderVerdict.refused (one_view block a b (cause_view block a h) (cause_view block b k))
