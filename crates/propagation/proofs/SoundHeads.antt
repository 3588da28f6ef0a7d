-- A context that a block tells is sound.
use Rattle.std.proofs.Common.{◌≡◌, ◌≢◌, ◌⊎◌, ℕ, Bool, true, false, List, [], Option, Some, None, refl, sym, subst, ◌∙◌, inl, inr}
use Rattle.propagation.specs.B3.{ReadsB3, IsB3State}
use Rattle.propagation.specs.Blocks.{Header}
use Rattle.propagation.specs.Heads.{Head, TellsContext, TellsState}
use Rattle.propagation.specs.NormalContexts.{IsSoundContext}
use Rattle.propagation.specs.Tracestate.{ReadsTracestate}
use Rattle.propagation.specs.declared.context.Context.{Context}
use Rattle.propagation.specs.declared.header_form.HeaderForm.{HeaderForm}
use Rattle.propagation.specs.declared.header_form.HeaderForm.TheVariants as forms
use Rattle.propagation.specs.declared.ids.Ids.{Ids}
use Rattle.propagation.specs.declared.sampling.Sampling.{Sampling}
use Rattle.propagation.specs.declared.sampling.Sampling.TheVariants.{Absent, No, Yes, Debug}
use Rattle.propagation.proofs.OneTracestate.{state_reads_back}

some_not_none : (ids : Option Ids) (told : Ids) → ids ≡ Some told → ids ≡ None → ⊥
some_not_none ids told is none = let e : ◌≡◌ {A = Option Ids} (Some told) None = sym is ∙ none in cc

-- a context with identifiers may hold a state that was read
pub state_sound : (value state : List ℕ) (ids : Ids) (sampling : Sampling) → ReadsTracestate value state
    → IsSoundContext (record { ids = Some ids; sampling = sampling; state = state })
state_sound value state ids sampling reads = record {
  told = λ none. absurd (some_not_none (Some ids) ids refl none);
  state = inr (state_reads_back reads);
}

sound_state : (headers : List Header) (state : List ℕ) (dropped : Bool) → TellsState headers state dropped → (state ≡ []) ⊎ ReadsTracestate state state
sound_state headers state true tells = inl tells.1
sound_state headers state false tells = inr (state_reads_back tells)

state_not_absent : (value : List ℕ) (sampling : Sampling) → IsB3State value sampling → sampling ≢ Absent
state_not_absent value Absent is e = is
state_not_absent value No is e = cc
state_not_absent value Yes is e = cc
state_not_absent value Debug is e = cc

sound_told : (form : HeaderForm) (headers : List Header) (c : Context) (dropped : Bool) → TellsContext form headers c dropped → IsSoundContext c
sound_told forms.W3c headers c dropped (value, ids, once, reads, are, state) = record {
  told = λ none. absurd (some_not_none c.ids ids are none);
  state = sound_state headers c.state dropped state;
}
sound_told forms.B3 headers c dropped (value, once, reads, none, kept) = record {
  told = λ no_ids. (state_not_absent value c.sampling (subst (λ (ids : Option Ids). ReadsB3 value ids c.sampling) no_ids reads), none);
  state = inl none;
}
sound_told forms.B3Multi headers c dropped (tells, none, kept) = record {
  told = λ no_ids. (
    elim tells.something [
      | inl ids ↦ absurd (ids no_ids)
      | inr sampling ↦ sampling
    ],
    none,
  );
  state = inl none;
}
sound_told forms.Uber headers c dropped (value, ids, once, reads, are, none, kept) = record {
  told = λ no_ids. absurd (some_not_none c.ids ids are no_ids);
  state = inl none;
}

pub head_sound : (block : List ℕ) (c : Context) (dropped : Bool) → Head c dropped block → IsSoundContext c
head_sound block c dropped head = sound_told head.form head.headers c dropped head.tells
