-- Inputs behind whose bytes others may come: each has one list of units, or is refused in one way. What is told of the first bytes is told
-- of every input that begins with them.
use Rattle.std.proofs.Common.{◌≡◌, ◌≢◌, ◌+◌, ◌-◌, ◌<◌, ◌≤◌, ◌++◌, ◌∷◌, ◌⊎◌, inl, inr, ℕ, List, [], length, take, refl, ap, sym, ◌∙◌, subst, arith}
use Rattle.std.proofs.lemmas.Bool.{cases_lt}
use Rattle.std.proofs.lemmas.List.{append-nil, length-append}
use Rattle.std.proofs.lemmas.List.Elements.{All-nil}
use Rattle.span_io.specs.Limits.{AreLimits}
use Rattle.span_io.specs.declared.cause.Cause.{Cause}
use Rattle.span_io.specs.declared.cause.Cause.TheVariants as causes
use Rattle.span_io.specs.declared.limits.Limits.{Limits}
use Rattle.span_io.specs.declared.refusal.Refusal.{Refusal}
use Rattle.trace_model.specs.Proper.{IsProperGroup}
use Rattle.trace_model.specs.Soundness.{IsSoundGroup, IsSoundTrace}
use Rattle.trace_model.specs.OtlpParts.{NotedGroup}
use Rattle.span_convert.specs.Documents.{DocumentForm, DocumentHalted}
use Rattle.span_convert.specs.FramedForms.{FramedForm, LastingCause, UnitsThen, UnitsBegin, AreAllUnits, UnitOffends, RestStopsBy, UnitsRefused, UnitsGoOn, UnitsHalted}
use Rattle.span_convert.specs.Units.{InputForm, framed_input, document_input, open_frames, open_document, groups_in}
use Rattle.span_convert.specs.Verdicts.{IsProperTrace}
use Rattle.span_convert.proofs.FrameLemmas.{stops_weaker}
use Rattle.span_convert.proofs.FramedInputs.{read_laws, read_some}
use Rattle.span_convert.proofs.InputForms.{InputFormLaws, IsDecidedInput, SomeInput}
use Rattle.span_convert.proofs.RestLaws.{MayGoOn, open_rests}
use Rattle.span_convert.proofs.SourceLaws.{SourceLaws, UnitLaws}

-- What is told of the first bytes of an input stays, whatever follows; and where nothing follows it is told of the input.
pub record LastingLaws (opened closed : InputForm) : Type 0 where
  pub begins : (limits : Limits) (bytes more : List ℕ) (units : List NotedGroup) → opened.Begins limits bytes units → opened.Begins limits (bytes ++ more) units
  pub refuses : (limits : Limits) (bytes more : List ℕ) (units : List NotedGroup) (refusal : Refusal) → opened.Refuses limits bytes units refusal → opened.Refuses limits (bytes ++ more) units refusal
  pub begun : (limits : Limits) (bytes : List ℕ) (units : List NotedGroup) → opened.Begins limits bytes units → (units ≡ []) ⊎ closed.Begins limits bytes units
  pub refused : (limits : Limits) (bytes : List ℕ) (units : List NotedGroup) (refusal : Refusal) → opened.Refuses limits bytes units refusal → closed.Refuses limits bytes units refusal

-- ---- frames

module _ (from : FramedForm) (S : SourceLaws from) where
  pub open_laws : InputFormLaws (open_frames from)
  open_laws = read_laws from S (MayGoOn from) (LastingCause from) (open_rests from S.step) (UnitsGoOn from)
      (λ limits bytes units h. record { rest = h.rest; units_then = h.units_then; fine = (h.needs, h.within) })

  pub open_some : UnitLaws from → SomeInput (open_frames from)
  open_some U = read_some from S U (MayGoOn from) (LastingCause from) (open_rests from S.step) (UnitsGoOn from)
      (λ limits bytes units h. record { rest = h.rest; units_then = h.units_then; needs = h.fine.0; within = h.fine.1 })

  -- nothing stops an input of which no bytes are there yet
  pub frames_begin : (limits : Limits) → AreLimits limits → UnitsGoOn from limits [] []
  frames_begin limits valid = record { rest = []; units_then = record { units = []; held = S.nothing limits; are_groups = tt }; needs = S.step.empty limits.unit valid.unit.0; within = omega arith }

  module _ (limits : Limits) (bytes more : List ℕ) where
    -- what is looked at of the others
    abbrev behind : List ℕ
    behind = take (limits.binary - length bytes) more

    units_longer : (units : List NotedGroup) (rest : List ℕ) → UnitsThen from limits bytes units rest → UnitsThen from limits (bytes ++ more) units (rest ++ behind)
    units_longer units rest h = record { units = h.units; held = S.longer limits bytes more h.units rest h.held; are_groups = h.are_groups }

    begins_longer : (units : List NotedGroup) → UnitsBegin from limits bytes units → UnitsBegin from limits (bytes ++ more) units
    begins_longer units h = record { rest = h.rest ++ behind; units_then = units_longer units h.rest h.units_then }

    offends_longer : (units : List NotedGroup) (cause : Cause) → UnitOffends from limits bytes units cause → UnitOffends from limits (bytes ++ more) units cause
    offends_longer units cause h = record {
      before = h.before;
      unit = h.unit;
      rest = h.rest ++ behind;
      held = S.longer limits bytes more (h.before ++ h.unit ∷ []) h.rest h.held;
      are_groups = h.are_groups;
      least = h.least;
    }

    -- nothing is looked at behind the limit
    none_behind : limits.binary < length bytes → behind ≡ []
    none_behind long = let none : limits.binary - length bytes ≡ 0 = omega (arith, long) in ap (λ n. take n more) none

    cause_longer : (rest : List ℕ) (cause : Cause) → LastingCause from limits (length bytes) rest cause → LastingCause from limits (length (bytes ++ more)) (rest ++ behind) cause
    cause_longer rest cause (inl none) = inl (S.pieces.no_frame_more limits.unit rest behind cause none)
    cause_longer rest cause (inr (needs, inl (is, long))) =
        subst (λ (l : List ℕ). LastingCause from limits (length (bytes ++ more)) l cause) (sym (ap (λ l. rest ++ l) (none_behind long) ∙ append-nil rest))
        (inr (needs, inl (is, omega (arith, long, length-append bytes more))))
    cause_longer rest cause (inr (needs, inr ended)) = absurd ended.1

    halted_longer : (units : List NotedGroup) (refusal : Refusal) → UnitsHalted from limits bytes units refusal → UnitsHalted from limits (bytes ++ more) units refusal
    halted_longer units refusal h = record { why = of h.why; number = h.number }
      where
        of : UnitOffends from limits bytes units refusal.cause ⊎ RestStopsBy from (LastingCause from) limits bytes units refusal.cause
            → UnitOffends from limits (bytes ++ more) units refusal.cause ⊎ RestStopsBy from (LastingCause from) limits (bytes ++ more) units refusal.cause
        of (inl o) = inl (offends_longer units refusal.cause o)
        of (inr s) = inr (record { rest = s.rest ++ behind; units_then = units_longer units s.rest s.units_then; why = cause_longer s.rest refusal.cause s.why })

  halted_refused : (limits : Limits) (bytes : List ℕ) (units : List NotedGroup) (refusal : Refusal) → UnitsHalted from limits bytes units refusal → UnitsRefused from limits bytes units refusal
  halted_refused limits bytes units refusal h = record {
    why = elim h.why [
      | inl o ↦ inl o
      | inr s ↦ inr (record {
        rest = s.rest;
        units_then = s.units_then;
        why = stops_weaker from.frames from.Refused limits.unit (limits.binary < length bytes) (limits.binary < length bytes) ⊥ (length bytes ≤ limits.binary) (λ long. long) (λ never. absurd never) s.rest refusal.cause s.why;
      })
    ];
    number = h.number;
  }

  pub frames_last : LastingLaws (open_frames from) (framed_input from)
  frames_last = record {
    begins = begins_longer;
    refuses = halted_longer;
    begun = λ limits bytes units h. inr h;
    refused = halted_refused;
  }

-- ---- the end of an input of frames

module _ (from : FramedForm) (limits : Limits) (bytes : List ℕ) (units : List NotedGroup) where
  -- with no rest all of it are units
  pub whole_at_end : (h : UnitsGoOn from limits bytes units) → h.rest ≡ [] → AreAllUnits from limits bytes units
  whole_at_end h none = record { units_then = subst (λ (l : List ℕ). UnitsThen from limits bytes units l) none h.units_then; within = h.within }

  -- else it is refused behind them, as it ends too early
  pub cut_at_end : (h : UnitsGoOn from limits bytes units) → h.rest ≢ [] → UnitsRefused from limits bytes units (record { unit = length units + 1; cause = causes.Truncated })
  cut_at_end h some = record {
    why = inr (record { rest = h.rest; units_then = h.units_then; why = inr (h.needs, inr (refl, h.within, some)) });
    number = refl;
  }

-- ---- documents

pub open_document_laws : InputFormLaws open_document
open_document_laws = record {
  compare = λ limits bytes a b h k. inl (record { more = b; parts = sym (ap (λ l. l ++ b) h) });
  shorter = λ limits bytes a b h. none_before a b h;
  whole_begins = λ limits bytes a h. h.none;
  whole_ends = λ limits bytes a b valid h k. record { more = a; parts = sym (ap (λ l. l ++ a) k) };
  refused_begins = λ limits bytes a r h. inl h.none;
  refused_ends = λ limits bytes a b r valid h k. record { more = a; parts = sym (ap (λ l. l ++ a) k) };
  whole_or_refused = λ limits bytes a b r valid h k. (let within = h.within in let long = k.why.0 in omega (arith, within, long));
  refused_once = λ limits bytes a b r q valid h k. (h.none ∙ sym k.none, h.why.1 ∙ sym k.why.1);
}
  where
    none_before : (a b : List NotedGroup) → a ++ b ≡ [] → a ≡ []
    none_before [] b e = refl
    none_before (x ∷ a) b e = cc

open_document_decided : (limits : Limits) (bytes : List ℕ) → (limits.json < length bytes) ⊎ (length bytes ≤ limits.json) → IsDecidedInput open_document limits bytes
open_document_decided limits bytes (inl long) = inr ([], record { unit = 0; cause = causes.InputTooLong }, record { none = refl; why = (long, refl) })
open_document_decided limits bytes (inr within) = inl ([], record { none = refl; within = within })

pub open_document_some : SomeInput open_document
open_document_some = record {
  decided = λ limits bytes all. open_document_decided limits bytes (cases_lt limits.json (length bytes));
  sound = λ limits bytes units none. subst (λ (l : List NotedGroup). IsSoundTrace (groups_in l)) (sym none) (All-nil IsSoundGroup);
  proper = λ limits bytes units all none. subst (λ (l : List NotedGroup). IsProperTrace (groups_in l)) (sym none) (All-nil IsProperGroup);
}

-- a document that is too long already stays so
too_long_longer : (limits : Limits) (bytes more : List ℕ) (units : List NotedGroup) (refusal : Refusal) → DocumentHalted limits bytes units refusal → DocumentHalted limits (bytes ++ more) units refusal
too_long_longer limits bytes more units refusal h =
    let long = h.why.0 in
    record { none = h.none; why = (omega (arith, long, length-append bytes more), h.why.1) }

pub documents_last : (from : DocumentForm) → LastingLaws open_document (document_input from)
documents_last from = record {
  begins = λ limits bytes more units none. none;
  refuses = too_long_longer;
  begun = λ limits bytes units none. inl none;
  refused = λ limits bytes units refusal h. record { none = h.none; why = inl h.why };
}
