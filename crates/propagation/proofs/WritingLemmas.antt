-- Lines that are appended one behind the other.
use Rattle.std.proofs.Common.{◌≡◌, ◌≢◌, ℕ, List, [], ◌∷◌, ◌++◌, length, take, refl, sym, ap, ◌∙◌, append_assoc}
use Rattle.std.specs.Prelude.{Option, Some, None, Result, Ok, Err, OnOk}
use Rattle.std.proofs.Math.Seq.{take-append_seam}
use Rattle.std.proofs.lemmas.List.{append-nil}
use Rattle.span_io.specs.Outside.{IsFront}
use Rattle.propagation.specs.Digits.{trace_digits, span_digits}
use Rattle.propagation.specs.Heads.{traceparent_name, tracestate_name, b3_trace_name, b3_span_name, b3_parent_name}
use Rattle.propagation.specs.NormalContexts.{written_header, state_line, parent_line, multi_ids_lines, traceparent_lines}
use Rattle.propagation.specs.Traceparent.{traceparent_text}
use Rattle.propagation.specs.declared.ids.Ids.{Ids}
use Rattle.propagation.specs.declared.sampling.Sampling.{Sampling}

pub where_ok : {T E P Q : Type 0} (r : Result T E) → (P → Q) → OnOk r P → OnOk r Q
where_ok (Ok x) f h = f h
where_ok (Err e) f h = tt

-- what was added by two calls
added_twice : (before mid now a b : List ℕ) → mid ≡ before ++ a → now ≡ mid ++ b → now ≡ before ++ (a ++ b)
added_twice before mid now a b e f = f ∙ ap (λ s. s ++ b) e ∙ append_assoc before a b

-- what is kept of a list that was added to
pub kept_front : (before now : List ℕ) (kept : ℕ) → kept ≡ length before → IsFront before now → take kept now ≡ before
kept_front before now kept e (more, f) = ap (λ s. take kept s) f ∙ ap (λ k. take k (before ++ more)) e ∙ take-append_seam before more

-- ---- `tracestate`

some_state : (state : List ℕ) → state ≢ [] → state_line state ≡ written_header tracestate_name state
some_state [] h = absurd (h refl)
some_state (c ∷ state) h = refl

pub with_state : (ids : Ids) (sampling : Sampling) (state before mid now value : List ℕ) → value ≡ traceparent_text ids sampling → state ≢ []
    → mid ≡ before ++ written_header traceparent_name value → now ≡ mid ++ written_header tracestate_name state → now ≡ before ++ traceparent_lines (Some ids) sampling state
with_state ids sampling state before mid now value is some e f =
    added_twice before mid now (written_header traceparent_name value) (written_header tracestate_name state) e f
    ∙ ap (λ s. before ++ (written_header traceparent_name value ++ s)) (sym (some_state state some))
    ∙ ap (λ s. before ++ (written_header traceparent_name s ++ state_line state)) is

-- ---- identifiers in headers of their own

module _ (ids : Option Ids) (told : Ids) (before mid next trace span : List ℕ) (is : ids ≡ Some told) (in_trace : trace ≡ trace_digits told.trace) (in_span : span ≡ span_digits told.span)
    (e : mid ≡ before ++ written_header b3_trace_name trace) (f : next ≡ mid ++ written_header b3_span_name span) where
  both : next ≡ before ++ (written_header b3_trace_name (trace_digits told.trace) ++ written_header b3_span_name (span_digits told.span))
  both =
      added_twice before mid next (written_header b3_trace_name trace) (written_header b3_span_name span) e f
      ∙ ap (λ s. before ++ (written_header b3_trace_name s ++ written_header b3_span_name span)) in_trace
      ∙ ap (λ s. before ++ (written_header b3_trace_name (trace_digits told.trace) ++ written_header b3_span_name s)) in_span

  pub without_parent : told.parent ≡ None → next ≡ before ++ multi_ids_lines ids
  without_parent none =
      both
      ∙ ap (λ s. before ++ s) (sym (append-nil (written_header b3_trace_name (trace_digits told.trace) ++ written_header b3_span_name (span_digits told.span))))
      ∙ ap (λ p. before ++ (written_header b3_trace_name (trace_digits told.trace) ++ written_header b3_span_name (span_digits told.span) ++ parent_line p)) (sym none)
      ∙ ap (λ o. before ++ multi_ids_lines o) (sym is)

  pub with_parent : (id : ℕ) (now parent : List ℕ) → told.parent ≡ Some id → parent ≡ span_digits id → now ≡ next ++ written_header b3_parent_name parent → now ≡ before ++ multi_ids_lines ids
  with_parent id now parent some in_parent g =
      added_twice before next now (written_header b3_trace_name (trace_digits told.trace) ++ written_header b3_span_name (span_digits told.span)) (written_header b3_parent_name parent) both g
      ∙ ap (λ s. before ++ (written_header b3_trace_name (trace_digits told.trace) ++ written_header b3_span_name (span_digits told.span) ++ written_header b3_parent_name s)) in_parent
      ∙ ap (λ p. before ++ (written_header b3_trace_name (trace_digits told.trace) ++ written_header b3_span_name (span_digits told.span) ++ parent_line p)) (sym some)
      ∙ ap (λ o. before ++ multi_ids_lines o) (sym is)
