-- The lines by which a context is written in each form of headers, and what a form holds of a context: its normal form.
use Rattle.std.specs.Prelude.{◌≡◌, ◌≢◌, ◌⊎◌, ℕ, List, [], ◌∷◌, ◌++◌, codes, Option, Some, None, option_map}
use Rattle.propagation.specs.Digits.{trace_digits, span_digits}
use Rattle.propagation.specs.Heads.{traceparent_name, tracestate_name, b3_name, uber_name, b3_trace_name, b3_span_name, b3_parent_name, b3_sampled_name, b3_flags_name}
use Rattle.propagation.specs.Traceparent.{traceparent_text, traceparent_ids, traceparent_sampling}
use Rattle.propagation.specs.Tracestate.{ReadsTracestate}
use Rattle.propagation.specs.B3.{b3_text, b3_ids}
use Rattle.propagation.specs.Uber.{uber_text, told_sampling}
use Rattle.propagation.specs.declared.ids.Ids.{Ids}
use Rattle.propagation.specs.declared.context.Context.{Context}
use Rattle.propagation.specs.declared.header_form.HeaderForm.{HeaderForm}
use Rattle.propagation.specs.declared.header_form.HeaderForm.TheVariants as forms
use Rattle.propagation.specs.declared.sampling.Sampling.{Sampling}
use Rattle.propagation.specs.declared.sampling.Sampling.TheVariants.{Absent, No, Yes, Debug}

-- without identifiers something is said of sampling, and there is no state; a state is a canonical text
pub record IsSoundContext (c : Context) : Type 0 where
  pub told : c.ids ≡ None → (c.sampling ≢ Absent) × (c.state ≡ [])
  pub state : (c.state ≡ []) ⊎ ReadsTracestate c.state c.state

-- a name, a colon and a space, a value, LF
abbrev pub written_header : List ℕ → List ℕ → List ℕ
written_header name value = (name ++ codes ": ") ++ (value ++ 10 ∷ [])

-- a header that is left out where its value is empty
abbrev pub state_line : List ℕ → List ℕ
state_line [] = []
state_line (c ∷ state) = written_header tracestate_name (c ∷ state)

-- the line `X-B3-ParentSpanId`, where there is a parent
abbrev pub parent_line : Option ℕ → List ℕ
parent_line None = []
parent_line (Some id) = written_header b3_parent_name (span_digits id)

-- the lines `X-B3-TraceId`, `X-B3-SpanId` and that of a parent, or none where there are no identifiers
abbrev pub multi_ids_lines : Option Ids → List ℕ
multi_ids_lines None = []
multi_ids_lines (Some ids) =
    written_header b3_trace_name (trace_digits ids.trace) ++ written_header b3_span_name (span_digits ids.span)
    ++ parent_line ids.parent

-- the line `X-B3-Sampled` with 0 or 1, or for debug `X-B3-Flags` with 1, or none where nothing is said of sampling
abbrev pub multi_sampling_line : Sampling → List ℕ
multi_sampling_line Absent = []
multi_sampling_line No = written_header b3_sampled_name (codes "0")
multi_sampling_line Yes = written_header b3_sampled_name (codes "1")
multi_sampling_line Debug = written_header b3_flags_name (codes "1")

-- the line `traceparent` and, where there is a state, `tracestate`; nothing where there are no identifiers
abbrev pub traceparent_lines : Option Ids → Sampling → List ℕ → List ℕ
traceparent_lines None sampling state = []
traceparent_lines (Some ids) sampling state = written_header traceparent_name (traceparent_text ids sampling) ++ state_line state

-- the line `uber-trace-id`, or nothing where there are no identifiers
abbrev pub uber_lines : Option Ids → Sampling → List ℕ
uber_lines None sampling = []
uber_lines (Some ids) sampling = written_header uber_name (uber_text ids sampling)

-- the written lines
abbrev pub context_lines : HeaderForm → Context → List ℕ
context_lines forms.W3c c = traceparent_lines c.ids c.sampling c.state
context_lines forms.B3 c = written_header b3_name (b3_text c.ids c.sampling)
context_lines forms.B3Multi c = multi_ids_lines c.ids ++ multi_sampling_line c.sampling
context_lines forms.Uber c = uber_lines c.ids c.sampling

-- without identifiers, `traceparent` and `uber-trace-id` can't tell it
abbrev pub CannotTell : HeaderForm → Context → Type 0
CannotTell forms.W3c c = c.ids ≡ None
CannotTell forms.B3 c = ⊥
CannotTell forms.B3Multi c = ⊥
CannotTell forms.Uber c = c.ids ≡ None

-- what a form holds of a context
abbrev pub normal_context : HeaderForm → Context → Context
normal_context forms.W3c c = record c { ids = option_map traceparent_ids c.ids; sampling = traceparent_sampling c.sampling }
normal_context forms.B3 c = record c { ids = b3_ids c.ids c.sampling; state = [] }
normal_context forms.B3Multi c = record c { state = [] }
normal_context forms.Uber c = record c { sampling = told_sampling c.sampling; state = [] }
