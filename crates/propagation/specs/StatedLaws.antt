-- What the laws of header values and of contexts say.
use Rattle.std.specs.Prelude.{Bool, ◌≡◌, ◌↔◌, ℕ, List, false, Option, Some, None, ⊤}
use Rattle.span_ids.specs.Proper.{IsProperTraceId, IsProperSpanId, IsProperParent}
use Rattle.propagation.specs.Traceparent.{ReadsTraceparent, traceparent_text, traceparent_ids, traceparent_sampling}
use Rattle.propagation.specs.Tracestate.{ReadsTracestate}
use Rattle.propagation.specs.B3.{ReadsB3, HoldsB3, b3_text, b3_ids}
use Rattle.propagation.specs.Uber.{ReadsUber, uber_text, told_sampling}
use Rattle.propagation.specs.Heads.{Head, HeaderVerdict, IsHeaderVerdict}
use Rattle.propagation.specs.NormalContexts.{IsSoundContext, CannotTell, context_lines, normal_context}
use Rattle.propagation.specs.declared.context.Context.{Context}
use Rattle.propagation.specs.declared.header_form.HeaderForm.{HeaderForm}
use Rattle.propagation.specs.declared.ids.Ids.{Ids}
use Rattle.propagation.specs.declared.sampling.Sampling.{Sampling}

-- identifiers in their ranges
pub record IsProperIds (ids : Ids) : Type 0 where
  pub trace : IsProperTraceId ids.trace
  pub span : IsProperSpanId ids.span
  pub parent : IsProperParent ids.parent

-- identifiers, if there are any, are in their ranges
abbrev pub AreProperIds : Option Ids → Type 0
AreProperIds None = ⊤
AreProperIds (Some ids) = IsProperIds ids

-- a value that is written is of its form, and tells what the form holds of the identifiers and the sampling
pub record ValuesReadBack : Type 0 where
  pub traceparent : (ids : Ids) (sampling : Sampling) → IsProperIds ids
      → ReadsTraceparent (traceparent_text ids sampling) (traceparent_ids ids) (traceparent_sampling sampling)
  pub b3 : (ids : Option Ids) (sampling : Sampling) → AreProperIds ids → HoldsB3 ids sampling
      → ReadsB3 (b3_text ids sampling) (b3_ids ids sampling) sampling
  pub uber : (ids : Ids) (sampling : Sampling) → IsProperIds ids → ReadsUber (uber_text ids sampling) ids (told_sampling sampling)

-- the normal form of a context is its own, and is written by the same lines
pub record ContextsAreNormal : Type 0 where
  pub normal_again : (form : HeaderForm) (c : Context) → normal_context form (normal_context form c) ≡ normal_context form c
  pub same_lines : (form : HeaderForm) (c : Context) → context_lines form (normal_context form c) ≡ context_lines form c

-- a block of header lines has one verdict
pub record OneHeaderVerdict : Type 0 where
  pub one : (block : List ℕ) (a b : HeaderVerdict) → IsHeaderVerdict block a → IsHeaderVerdict block b → a ≡ b

-- the context that a block tells is sound, and its identifiers lie in their ranges
pub record HeadsAreSound : Type 0 where
  pub sound : (block : List ℕ) (c : Context) (dropped : Bool) → Head c dropped block → IsSoundContext c
  pub proper : (block : List ℕ) (c : Context) (dropped : Bool) → Head c dropped block → AreProperIds c.ids

-- the state that a value tells is its own canonical text, and makes a sound context with any identifiers
pub record StatesAreSound : Type 0 where
  pub own : (value state : List ℕ) → ReadsTracestate value state → ReadsTracestate state state
  pub sound : (value state : List ℕ) (ids : Ids) (sampling : Sampling) → ReadsTracestate value state
      → IsSoundContext (record { ids = Some ids; sampling = sampling; state = state })

-- the lines of a context tell its normal form, so that two contexts have the same lines just where they have the same normal form
pub record HeadersReadBack : Type 0 where
  pub read_back : (form : HeaderForm) (c : Context) → IsSoundContext c → AreProperIds c.ids → ¬ (CannotTell form c)
      → Head (normal_context form c) false (context_lines form c)
  pub equal_lines : (form : HeaderForm) (c d : Context) → IsSoundContext c → AreProperIds c.ids → ¬ (CannotTell form c)
      → IsSoundContext d → AreProperIds d.ids → ¬ (CannotTell form d)
      → (context_lines form c ≡ context_lines form d) ↔ (normal_context form c ≡ normal_context form d)
