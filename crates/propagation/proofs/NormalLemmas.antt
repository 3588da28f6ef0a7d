-- The normal form of a context is its own, and a context is written as its normal form is.
use Rattle.std.proofs.Common.{◌≡◌, ℕ, List, [], ◌∷◌, ◌++◌, refl, ap}
use Rattle.std.specs.Prelude.{Option, Some, None, option_map, codes}
use Rattle.std.specs.List.{join_with_byte}
use Rattle.propagation.specs.Digits.{dash, trace_digits, span_digits}
use Rattle.propagation.specs.Heads.{traceparent_name, b3_name, uber_name}
use Rattle.propagation.specs.NormalContexts.{context_lines, normal_context, written_header, state_line, traceparent_lines, uber_lines}
use Rattle.propagation.specs.Traceparent.{traceparent_ids, traceparent_sampling, sampling_flags}
use Rattle.propagation.specs.B3.{b3_ids, b3_parent, b3_text, b3_end}
use Rattle.propagation.specs.Uber.{colon, told_sampling, uber_flags, uber_parent}
use Rattle.propagation.specs.declared.ids.Ids.{Ids}
use Rattle.propagation.specs.declared.context.Context.{Context}
use Rattle.propagation.specs.declared.header_form.HeaderForm.{HeaderForm}
use Rattle.propagation.specs.declared.header_form.HeaderForm.TheVariants as forms
use Rattle.propagation.specs.declared.sampling.Sampling.{Sampling}
use Rattle.propagation.specs.declared.sampling.Sampling.TheVariants.{Absent, No, Yes, Debug}

flags_once : (sampling : Sampling) → traceparent_sampling (traceparent_sampling sampling) ≡ traceparent_sampling sampling
flags_once Absent = refl
flags_once No = refl
flags_once Yes = refl
flags_once Debug = refl

told_once : (sampling : Sampling) → told_sampling (told_sampling sampling) ≡ told_sampling sampling
told_once Absent = refl
told_once No = refl
told_once Yes = refl
told_once Debug = refl

parentless_once : (ids : Option Ids) → option_map traceparent_ids (option_map traceparent_ids ids) ≡ option_map traceparent_ids ids
parentless_once None = refl
parentless_once (Some ids) = refl

b3_parent_once : (sampling : Sampling) (parent : Option ℕ) → b3_parent sampling (b3_parent sampling parent) ≡ b3_parent sampling parent
b3_parent_once Absent parent = refl
b3_parent_once No parent = refl
b3_parent_once Yes parent = refl
b3_parent_once Debug parent = refl

b3_once : (ids : Option Ids) (sampling : Sampling) → b3_ids (b3_ids ids sampling) sampling ≡ b3_ids ids sampling
b3_once None sampling = refl
b3_once (Some ids) sampling = ap (λ parent. Some (record ids { parent = parent })) (b3_parent_once sampling ids.parent)

pub normal_once : (form : HeaderForm) (c : Context) → normal_context form (normal_context form c) ≡ normal_context form c
normal_once forms.W3c c = λ i. record c { ids = parentless_once c.ids i; sampling = flags_once c.sampling i }
normal_once forms.B3 c = λ i. record c { ids = b3_once c.ids c.sampling i; state = [] }
normal_once forms.B3Multi c = refl
normal_once forms.Uber c = λ i. record c { sampling = told_once c.sampling i; state = [] }

-- ---- the lines

state_flags : (sampling : Sampling) → sampling_flags (traceparent_sampling sampling) ≡ sampling_flags sampling
state_flags Absent = refl
state_flags No = refl
state_flags Yes = refl
state_flags Debug = refl

told_flags : (sampling : Sampling) → uber_flags (told_sampling sampling) ≡ uber_flags sampling
told_flags Absent = refl
told_flags No = refl
told_flags Yes = refl
told_flags Debug = refl

told_end : (sampling : Sampling) (parent : Option ℕ) → b3_end sampling (b3_parent sampling parent) ≡ b3_end sampling parent
told_end Absent parent = refl
told_end No parent = refl
told_end Yes parent = refl
told_end Debug parent = refl

traceparent_alike : (ids : Option Ids) (sampling : Sampling) (state : List ℕ) → traceparent_lines (option_map traceparent_ids ids) (traceparent_sampling sampling) state ≡ traceparent_lines ids sampling state
traceparent_alike None sampling state = refl
traceparent_alike (Some ids) sampling state =
    ap (λ flags. written_header traceparent_name (join_with_byte dash (codes "00" ∷ trace_digits ids.trace ∷ span_digits ids.span ∷ flags ∷ [])) ++ state_line state) (state_flags sampling)

b3_alike : (ids : Option Ids) (sampling : Sampling) → b3_text (b3_ids ids sampling) sampling ≡ b3_text ids sampling
b3_alike None sampling = refl
b3_alike (Some ids) sampling = ap (λ end. join_with_byte dash (trace_digits ids.trace ∷ span_digits ids.span ∷ end)) (told_end sampling ids.parent)

uber_alike : (ids : Option Ids) (sampling : Sampling) → uber_lines ids (told_sampling sampling) ≡ uber_lines ids sampling
uber_alike None sampling = refl
uber_alike (Some ids) sampling =
    ap (λ flags. written_header uber_name (join_with_byte colon (trace_digits ids.trace ∷ span_digits ids.span ∷ uber_parent ids.parent ∷ flags ∷ []))) (told_flags sampling)

pub written_alike : (form : HeaderForm) (c : Context) → context_lines form (normal_context form c) ≡ context_lines form c
written_alike forms.W3c c = traceparent_alike c.ids c.sampling c.state
written_alike forms.B3 c = ap (λ text. written_header b3_name text) (b3_alike c.ids c.sampling)
written_alike forms.B3Multi c = refl
written_alike forms.Uber c = uber_alike c.ids c.sampling
