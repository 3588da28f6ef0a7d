-- Which context a block of header lines tells, in the four forms: `traceparent` and `tracestate` (W3C Trace Context Level 1), the one header `b3`,
-- the headers whose names begin with `X-B3-` (B3 propagation, "Multiple Headers"), and Jaeger's `uber-trace-id`.
use Rattle.std.specs.Prelude.{◌≡◌, ◌≢◌, ◌⊎◌, ℕ, Bool, false, List, [], ◌∷◌, codes, map, filter, Option, Some, None}
use Rattle.std.specs.Bool.{MatchBool}
use Rattle.std.specs.List.{join_with_byte}
use Rattle.std.specs.Option.{option_to_list}
use Rattle.std.specs.Char.{eq_ignore_ascii_case}
use lib.Pointwise.{pointwise}
use Rattle.span_ids.specs.HexTexts.{SpellsInHex}
use Rattle.span_ids.specs.declared.hex_text.IdRule.TheVariants.{Exact, Half}
use Rattle.propagation.specs.Blocks.{Header, HasHeaders}
use Rattle.propagation.specs.Traceparent.{ReadsTraceparent}
use Rattle.propagation.specs.Tracestate.{member_comma, ReadsTracestate}
use Rattle.propagation.specs.B3.{ReadsB3}
use Rattle.propagation.specs.Uber.{ReadsUber}
use Rattle.propagation.specs.declared.ids.Ids.{Ids}
use Rattle.propagation.specs.declared.context.Context.{Context}
use Rattle.propagation.specs.declared.header_cause.HeaderCause.{HeaderCause}
use Rattle.propagation.specs.declared.header_cause.HeaderCause.TheVariants as causes
use Rattle.propagation.specs.declared.header_form.HeaderForm.{HeaderForm}
use Rattle.propagation.specs.declared.header_form.HeaderForm.TheVariants as forms
use Rattle.propagation.specs.declared.sampling.Sampling.{Sampling}
use Rattle.propagation.specs.declared.sampling.Sampling.TheVariants.{Absent, No, Yes, Debug}

-- the header has this name, in any case of letters
abbrev pub is_named : List ℕ → Header → Bool
is_named name h = pointwise eq_ignore_ascii_case h.name name

-- the values of the headers of a name, in their order
abbrev pub header_values : List ℕ → List Header → List (List ℕ)
header_values name headers = map (λ h. h.value) (filter (is_named name) headers)

-- the header of W3C's identifiers and flags (Trace Context Level 1, section 3.2)
abbrev pub traceparent_name : List ℕ
traceparent_name = codes "traceparent"

-- the header of W3C's state, which goes with `traceparent` (Trace Context Level 1, section 3.3)
abbrev pub tracestate_name : List ℕ
tracestate_name = codes "tracestate"

-- the one header of B3 (B3 propagation, "Single Header")
abbrev pub b3_name : List ℕ
b3_name = codes "b3"

-- the one header of Jaeger's propagation format
abbrev pub uber_name : List ℕ
uber_name = codes "uber-trace-id"

-- the trace's identifier, in 16 or 32 digits (B3 propagation, "Multiple Headers", "TraceId")
abbrev pub b3_trace_name : List ℕ
b3_trace_name = codes "X-B3-TraceId"

-- the span's identifier, in 16 digits (B3 propagation, "Multiple Headers", "SpanId")
abbrev pub b3_span_name : List ℕ
b3_span_name = codes "X-B3-SpanId"

-- the parent's identifier, in 16 digits (B3 propagation, "Multiple Headers", "ParentSpanId")
abbrev pub b3_parent_name : List ℕ
b3_parent_name = codes "X-B3-ParentSpanId"

-- whether the trace is recorded (B3 propagation, "Multiple Headers", "Sampling State")
abbrev pub b3_sampled_name : List ℕ
b3_sampled_name = codes "X-B3-Sampled"

-- 1 for debug, which is recorded in any case (B3 propagation, "Multiple Headers", "Debug Flag")
abbrev pub b3_flags_name : List ℕ
b3_flags_name = codes "X-B3-Flags"

-- no header of the name is there
abbrev pub Misses : List ℕ → List Header → Type 0
Misses name headers = header_values name headers ≡ []

-- none of the five headers X-B3 is there
pub record MissesMulti (headers : List Header) : Type 0 where
  pub trace : Misses b3_trace_name headers
  pub span : Misses b3_span_name headers
  pub parent : Misses b3_parent_name headers
  pub sampled : Misses b3_sampled_name headers
  pub flags : Misses b3_flags_name headers

-- the form is the first that is there, in the order `traceparent`, `b3`, X-B3, `uber-trace-id`
abbrev pub IsFirstForm : HeaderForm → List Header → Type 0
IsFirstForm forms.W3c headers = ¬ (Misses traceparent_name headers)
IsFirstForm forms.B3 headers = Misses traceparent_name headers × ¬ (Misses b3_name headers)
IsFirstForm forms.B3Multi headers = Misses traceparent_name headers × Misses b3_name headers × ¬ (MissesMulti headers)
IsFirstForm forms.Uber headers =
    Misses traceparent_name headers × Misses b3_name headers × MissesMulti headers × ¬ (Misses uber_name headers)

-- no form is there
pub record HasNoForm (headers : List Header) : Type 0 where
  pub traceparent : Misses traceparent_name headers
  pub b3 : Misses b3_name headers
  pub multi : MissesMulti headers
  pub uber : Misses uber_name headers

-- a header stands once, with this value
abbrev pub StandsOnce : List ℕ → List Header → List ℕ → Type 0
StandsOnce name headers value = header_values name headers ≡ value ∷ []

-- a header stands once at most: this is its value, if it has one
abbrev pub StandsAtMostOnce : List ℕ → List Header → Option (List ℕ) → Type 0
StandsAtMostOnce name headers value = header_values name headers ≡ option_to_list value

-- the `tracestate` of all lines, or nothing where it isn't of the form and is dropped
abbrev pub TellsState : List Header → List ℕ → Bool → Type 0
TellsState headers state dropped =
    let text = join_with_byte member_comma (header_values tracestate_name headers) in
    MatchBool dropped (((other : List ℕ) → ¬ (ReadsTracestate text other)) × (state ≡ [])) (ReadsTracestate text state)

-- identifiers in headers of their own: those of trace and span stand both or neither, and a parent stands only with them
abbrev pub TellsMultiIds : Option (List ℕ) → Option (List ℕ) → Option (List ℕ) → Option Ids → Type 0
TellsMultiIds None None None ids = ids ≡ None
TellsMultiIds (Some trace) (Some span) None ids =
    (told : Ids) × SpellsInHex Half 32 trace told.trace × SpellsInHex Exact 16 span told.span × (told.parent ≡ None) × (ids ≡ Some told)
TellsMultiIds (Some trace) (Some span) (Some parent) ids =
    (told : Ids) × SpellsInHex Half 32 trace told.trace × SpellsInHex Exact 16 span told.span
    × ((id : ℕ) × SpellsInHex Exact 16 parent id × (told.parent ≡ Some id)) × (ids ≡ Some told)
TellsMultiIds trace span parent ids = ⊥

-- "X-B3-Sampled"
abbrev pub TellsSampled : Option (List ℕ) → Sampling → Type 0
TellsSampled None sampling = sampling ≡ Absent
TellsSampled (Some text) No = (text ≡ codes "0") ⊎ (text ≡ codes "false")
TellsSampled (Some text) Yes = (text ≡ codes "1") ⊎ (text ≡ codes "true")
TellsSampled (Some text) sampling = ⊥

-- "X-B3-Flags" 1 is debug, and then "X-B3-Sampled" isn't looked at; another value counts as absent
abbrev pub TellsMultiSampling : Option (List ℕ) → Option (List ℕ) → Sampling → Type 0
TellsMultiSampling sampled flags sampling = ((flags ≡ Some (codes "1")) × (sampling ≡ Debug)) ⊎ ((flags ≢ Some (codes "1")) × TellsSampled sampled sampling)

-- the headers X-B3, each of which stands once at most, tell these identifiers, if any, and this sampling, one of both at least
pub record TellsMulti (headers : List Header) (ids : Option Ids) (sampling : Sampling) : Type 0 where
  pub trace : Option (List ℕ)
  pub span : Option (List ℕ)
  pub parent : Option (List ℕ)
  pub sampled : Option (List ℕ)
  pub flags : Option (List ℕ)
  pub trace_once : StandsAtMostOnce b3_trace_name headers trace
  pub span_once : StandsAtMostOnce b3_span_name headers span
  pub parent_once : StandsAtMostOnce b3_parent_name headers parent
  pub sampled_once : StandsAtMostOnce b3_sampled_name headers sampled
  pub flags_once : StandsAtMostOnce b3_flags_name headers flags
  pub ids_told : TellsMultiIds trace span parent ids
  pub sampling_told : TellsMultiSampling sampled flags sampling
  -- neither identifiers nor a sampling is bad
  pub something : (ids ≢ None) ⊎ (sampling ≢ Absent)

-- the headers of a form tell this context, and whether a `tracestate` was dropped
abbrev pub TellsContext : HeaderForm → List Header → Context → Bool → Type 0
TellsContext forms.W3c headers c dropped =
    (value : List ℕ) × (ids : Ids) × StandsOnce traceparent_name headers value × ReadsTraceparent value ids c.sampling × (c.ids ≡ Some ids) × TellsState headers c.state dropped
TellsContext forms.B3 headers c dropped =
    (value : List ℕ) × StandsOnce b3_name headers value × ReadsB3 value c.ids c.sampling × (c.state ≡ []) × (dropped ≡ false)
TellsContext forms.B3Multi headers c dropped = TellsMulti headers c.ids c.sampling × (c.state ≡ []) × (dropped ≡ false)
TellsContext forms.Uber headers c dropped =
    (value : List ℕ) × (ids : Ids) × StandsOnce uber_name headers value × ReadsUber value ids c.sampling × (c.ids ≡ Some ids) × (c.state ≡ []) × (dropped ≡ false)

-- the block tells this context: by the first form that is there, whatever stands in lines of the others
pub record Head (c : Context) (dropped : Bool) (block : List ℕ) : Type 0 where
  pub headers : List Header
  pub form : HeaderForm
  pub has : HasHeaders block headers
  pub first : IsFirstForm form headers
  pub tells : TellsContext form headers c dropped

-- the headers of the form, which is the first that is there, tell no context
pub record IsBadForm (form : HeaderForm) (block : List ℕ) : Type 0 where
  pub headers : List Header
  pub has : HasHeaders block headers
  pub first : IsFirstForm form headers
  pub bad : (c : Context) (dropped : Bool) → ¬ (TellsContext form headers c dropped)

-- why a block tells no context: a bad line, wherever it stands, goes before all else
abbrev pub IsHeaderCause : HeaderCause → List ℕ → Type 0
IsHeaderCause causes.HeaderLine block = (headers : List Header) → ¬ (HasHeaders block headers)
IsHeaderCause causes.NoContext block = (headers : List Header) × HasHeaders block headers × HasNoForm headers
IsHeaderCause causes.BadTraceparent block = IsBadForm forms.W3c block
IsHeaderCause causes.BadB3 block = IsBadForm forms.B3 block ⊎ IsBadForm forms.B3Multi block
IsHeaderCause causes.BadUber block = IsBadForm forms.Uber block

-- the verdict on a block: the context that it tells and whether a `tracestate` was dropped, or why it tells none
pub data HeaderVerdict : Type 0 where
  told : (c : Context) (dropped : Bool) → HeaderVerdict
  refused : HeaderCause → HeaderVerdict

-- the verdict is right of the block
abbrev pub IsHeaderVerdict : List ℕ → HeaderVerdict → Type 0
IsHeaderVerdict block (told c dropped) = Head c dropped block
IsHeaderVerdict block (refused cause) = IsHeaderCause cause block
