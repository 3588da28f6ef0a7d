-- What stands behind the units of an input: what is fine there, or a rest that isn't read for one cause. An input that has ended is fine
-- where nothing is left; of one that may go on, where a frame may yet come of what is left.
use Rattle.std.proofs.Common.{◌≡◌, ◌<◌, ◌≤◌, ◌∷◌, ◌⊎◌, inl, inr, ℕ, List, [], length, refl, sym, subst, arith}
use Rattle.std.proofs.lemmas.Bool.{cases_lt}
use Rattle.span_io.specs.Frames.{NeedsMore}
use Rattle.span_io.specs.Framings.{OneStep, RestIs}
use Rattle.span_io.specs.Limits.{AreLimits}
use Rattle.span_io.specs.declared.cause.Cause.{Cause}
use Rattle.span_io.specs.declared.cause.Cause.TheVariants as causes
use Rattle.span_io.specs.declared.limits.Limits.{Limits}
use Rattle.trace_model.specs.OtlpParts.{NotedGroup}
use Rattle.span_convert.specs.FramedForms.{FramedForm, RestCause, LastingCause, UnitsThen}
use Rattle.span_convert.proofs.FrameLemmas.{stops_ends, end_stops, one_stop}
use Rattle.span_convert.proofs.SourceLaws.{Ends}

-- over what is fine of a rest of an input of so many bytes, and why one isn't read
pub record RestLaws (from : FramedForm) (Fine : Limits → ℕ → List ℕ → Type 0) (Why : Limits → ℕ → List ℕ → Cause → Type 0) : Type 0 where
  pub fine_ends : (limits : Limits) (size : ℕ) (rest : List ℕ) → AreLimits limits → Fine limits size rest → Ends from limits rest
  pub rest_ends : (limits : Limits) (size : ℕ) (rest : List ℕ) (cause : Cause) → Why limits size rest cause → Ends from limits rest
  pub one_cause : (limits : Limits) (size : ℕ) (rest : List ℕ) (a b : Cause) → Why limits size rest a → Why limits size rest b → a ≡ b
  pub not_both : (limits : Limits) (size : ℕ) (rest : List ℕ) (cause : Cause) → AreLimits limits → Fine limits size rest → Why limits size rest cause → ⊥
  pub some : (limits : Limits) (size : ℕ) (rest : List ℕ) → RestIs from.frames from.Refused limits.unit rest → Fine limits size rest ⊎ ((cause : Cause) × Why limits size rest cause)

-- The input begins with units of these groups, and then comes a rest that is fine.
pub record AreUnitsThen (from : FramedForm) (Fine : Limits → ℕ → List ℕ → Type 0) (limits : Limits) (bytes : List ℕ) (noted : List NotedGroup) : Type 0 where
  pub rest : List ℕ
  pub units_then : UnitsThen from limits bytes noted rest
  pub fine : Fine limits (length bytes) rest

-- nothing is left
abbrev pub NothingLeft : Limits → ℕ → List ℕ → Type 0
NothingLeft limits size rest = (rest ≡ []) × (size ≤ limits.binary)

-- a frame may yet come of what is left
abbrev pub MayGoOn : FramedForm → Limits → ℕ → List ℕ → Type 0
MayGoOn from limits size rest = NeedsMore from.frames limits.unit rest × (size ≤ limits.binary)

module _ (from : FramedForm) (S : OneStep from.frames from.Refused) where
  -- ---- an input that has ended

  -- no bytes need more
  none_needs : (limits : Limits) (rest : List ℕ) → AreLimits limits → rest ≡ [] → NeedsMore from.frames limits.unit rest
  none_needs limits rest valid none = subst (λ (l : List ℕ). NeedsMore from.frames limits.unit l) (sym none) (S.empty limits.unit valid.unit.0)

  not_ended : (limits : Limits) (size : ℕ) (rest : List ℕ) (cause : Cause) → AreLimits limits → NothingLeft limits size rest → RestCause from limits size rest cause → ⊥
  not_ended limits size rest cause valid fine why =
      (end_stops from.frames from.Refused S limits.unit (limits.binary < size) (size ≤ limits.binary) (λ long. omega (arith, long, fine.1)) rest cause (none_needs limits rest valid fine.0) why).1 fine.0

  -- the rest ends the input, or a cause stops a walk there
  needs_at_end : (limits : Limits) (size : ℕ) (rest : List ℕ) → NeedsMore from.frames limits.unit rest → (limits.binary < size) ⊎ (size ≤ limits.binary) → NothingLeft limits size rest ⊎ ((cause : Cause) × RestCause from limits size rest cause)
  needs_at_end limits size rest needs (inl long) = inr (causes.InputTooLong, inr (needs, inl (refl, long)))
  needs_at_end limits size [] needs (inr short) = inl (refl, short)
  needs_at_end limits size (x ∷ rest) needs (inr short) = inr (causes.Truncated, inr (needs, inr (refl, short, λ e. cc)))

  at_end : (limits : Limits) (size : ℕ) (rest : List ℕ) → RestIs from.frames from.Refused limits.unit rest → NothingLeft limits size rest ⊎ ((cause : Cause) × RestCause from limits size rest cause)
  at_end limits size rest (inl needs) = needs_at_end limits size rest needs (cases_lt limits.binary size)
  at_end limits size rest (inr (cause, none)) = inr (cause, inl none)

  pub ended_rests : RestLaws from NothingLeft (RestCause from)
  ended_rests = record {
    fine_ends = λ limits size rest valid fine n. S.open_frame limits.unit n rest (none_needs limits rest valid fine.0);
    rest_ends = λ limits size. stops_ends from.frames from.Refused S limits.unit (limits.binary < size) (size ≤ limits.binary);
    one_cause = λ limits size. one_stop from.frames from.Refused S limits.unit (limits.binary < size) (size ≤ limits.binary) (λ long within. omega (arith, long, within));
    not_both = not_ended;
    some = at_end;
  }

  -- ---- an input that may go on

  not_open : (limits : Limits) (size : ℕ) (rest : List ℕ) (cause : Cause) → MayGoOn from limits size rest → LastingCause from limits size rest cause → ⊥
  not_open limits size rest cause fine why =
      (end_stops from.frames from.Refused S limits.unit (limits.binary < size) ⊥ (λ long. omega (arith, long, fine.1)) rest cause fine.0 why).0

  needs_so_far : (limits : Limits) (size : ℕ) (rest : List ℕ) → NeedsMore from.frames limits.unit rest → (limits.binary < size) ⊎ (size ≤ limits.binary) → MayGoOn from limits size rest ⊎ ((cause : Cause) × LastingCause from limits size rest cause)
  needs_so_far limits size rest needs (inl long) = inr (causes.InputTooLong, inr (needs, inl (refl, long)))
  needs_so_far limits size rest needs (inr short) = inl (needs, short)

  so_far : (limits : Limits) (size : ℕ) (rest : List ℕ) → RestIs from.frames from.Refused limits.unit rest → MayGoOn from limits size rest ⊎ ((cause : Cause) × LastingCause from limits size rest cause)
  so_far limits size rest (inl needs) = needs_so_far limits size rest needs (cases_lt limits.binary size)
  so_far limits size rest (inr (cause, none)) = inr (cause, inl none)

  pub open_rests : RestLaws from (MayGoOn from) (LastingCause from)
  open_rests = record {
    fine_ends = λ limits size rest valid fine n. S.open_frame limits.unit n rest fine.0;
    rest_ends = λ limits size. stops_ends from.frames from.Refused S limits.unit (limits.binary < size) ⊥;
    one_cause = λ limits size. one_stop from.frames from.Refused S limits.unit (limits.binary < size) ⊥ (λ long never. never);
    not_both = λ limits size rest cause valid. not_open limits size rest cause;
    some = so_far;
  }
