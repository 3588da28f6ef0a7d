-- What the outlook on the first bytes of an input says of the outlook and the verdict on more of them.
use Rattle.std.proofs.Common.{◌≡◌, ◌+◌, ◌++◌, ◌∷◌, ◌⊎◌, inl, inr, ℕ, List, [], refl, ap, sym, ◌∙◌, subst}
use Rattle.std.proofs.lemmas.List.{append-nil}
use Rattle.span_io.specs.Limits.{AreLimits}
use Rattle.span_io.specs.Outside.{IsFront}
use Rattle.span_io.specs.declared.cause.Cause.TheVariants as causes
use Rattle.span_io.specs.declared.form.Form.{Form}
use Rattle.span_io.specs.declared.form.Form.TheVariants as forms
use Rattle.span_io.specs.declared.limits.Limits.{Limits}
use Rattle.trace_model.specs.OtlpParts.{NotedGroup}
use Rattle.span_convert.specs.BatchFiles.{binary, compact}
use Rattle.span_convert.specs.FramedForms.{FramedForm}
use Rattle.span_convert.specs.Outlooks.{IsOutlookOn, IsLasting, EndsSo, whole, cut, IfFrames}
use Rattle.span_convert.specs.Targets.{Target, CanHoldUnits, open_target}
use Rattle.span_convert.specs.private.TargetSteps.{TargetLaws}
use Rattle.span_convert.specs.Units.{InputForm, request_form, batch_form, framed_input, input_form, open_frames}
use Rattle.span_convert.specs.Verdicts.{Verdict, good, refused, faulted, IsGood, IsRefusal, IsFaulted, IsTextSoFar, none, first, IsVerdictOn, verdict_text}
use Rattle.span_convert.specs.declared.tally.Tally.{Tally}
use Rattle.span_convert.specs.declared.target_fault.TargetFault.{TargetFault}
use Rattle.span_convert.proofs.InputForms.{InputFormLaws}
use Rattle.span_convert.proofs.OpenInputs.{LastingLaws, whole_at_end, cut_at_end}
use Rattle.span_convert.proofs.VerdictLaws.{so_far}
use Rattle.span_convert.proofs.WalkLemmas.{holds_no_unit}

-- ---- targets

module _ (to : Target) where
  -- it holds units whether others may come or not
  held_closed : (units : List NotedGroup) → CanHoldUnits (open_target to) units → CanHoldUnits to units
  held_closed units h = record { sound = h.sound; proper = h.proper; no_fault = h.no_fault }

  pub open_target_laws : TargetLaws to → TargetLaws (open_target to)
  open_target_laws T = record {
    fault_or_none = T.fault_or_none;
    fault_once = T.fault_once;
    no_fault = T.no_fault;
    none = T.none;
    front = λ a b held. T.front a b (held_closed (a ++ b) held);
    closed = λ units. sym (append-nil (to.partial_text units));
  }

-- ---- no bytes

-- of no bytes nothing is said, where nothing stops them
pub nothing_said : (opened : InputForm) (to : Target) → TargetLaws to → (limits : Limits) → opened.IsWhole limits [] [] → IsVerdictOn opened (open_target to) limits [] (good [] (record { units = 0; spans = 0 }))
nothing_said opened to T limits is = record { noted = []; whole = is; held = holds_no_unit (open_target to); is_text = sym T.none; counts = refl }

-- ---- more bytes

no_last : (before : List NotedGroup) (unit : NotedGroup) → before ++ unit ∷ [] ≡ [] → ⊥
no_last [] unit e = cc
no_last (x ∷ before) unit e = cc

module _ (opened closed : InputForm) (K : LastingLaws opened closed) (to : Target) (limits : Limits) where
  -- a refusal or a fault is the outlook on more bytes
  pub lasts : (bytes more : List ℕ) (outlook : Verdict) → IsLasting outlook → IsVerdictOn opened (open_target to) limits bytes outlook → IsVerdictOn opened (open_target to) limits (bytes ++ more) outlook
  lasts bytes more (good text tally) lasting is = absurd lasting
  lasts bytes more (refused refusal text) lasting is = record { noted = is.noted; refuses = K.refuses limits bytes more is.noted refusal is.refuses; held = is.held; is_text = is.is_text }
  lasts bytes more (faulted found text) lasting is = record {
    noted = is.noted;
    next = is.next;
    begins = K.begins limits bytes more (is.noted ++ is.next ∷ []) is.begins;
    held = is.held;
    fault = is.fault;
    number = is.number;
    is_text = is.is_text;
  }

  fault_stands : (bytes text : List ℕ) (found : TargetFault) (is : IsFaulted opened (open_target to) limits bytes text found) → (is.noted ++ is.next ∷ [] ≡ []) ⊎ closed.Begins limits bytes (is.noted ++ is.next ∷ [])
      → IsFaulted closed to limits bytes text found
  fault_stands bytes text found is (inl empty) = absurd (no_last is.noted is.next empty)
  fault_stands bytes text found is (inr begins) = record {
    noted = is.noted;
    next = is.next;
    begins = begins;
    held = held_closed to is.noted is.held;
    fault = is.fault;
    number = is.number;
    is_text = is.is_text;
  }

  -- and the verdict, where no more follow
  pub stands : (bytes : List ℕ) (outlook : Verdict) → IsLasting outlook → IsVerdictOn opened (open_target to) limits bytes outlook → IsVerdictOn closed to limits bytes outlook
  stands bytes (good text tally) lasting is = absurd lasting
  stands bytes (refused refusal text) lasting is = record { noted = is.noted; refuses = K.refused limits bytes is.noted refusal is.refuses; held = held_closed to is.noted is.held; is_text = is.is_text }
  stands bytes (faulted found text) lasting is = fault_stands bytes text found is (K.begun limits bytes (is.noted ++ is.next ∷ []) is.begins)

  pub lasts_to_end : (bytes more : List ℕ) (outlook : Verdict) → IsLasting outlook → IsVerdictOn opened (open_target to) limits bytes outlook → IsVerdictOn closed to limits (bytes ++ more) outlook
  lasts_to_end bytes more outlook lasting is = stands (bytes ++ more) outlook lasting (lasts bytes more outlook lasting is)

  -- ---- what is said so far

  module _ (L : InputFormLaws opened) (T : TargetLaws to) (valid : AreLimits limits) (bytes more said : List ℕ) (tally : Tally) (is : IsGood opened (open_target to) limits bytes said tally) where
    there : opened.Begins limits (bytes ++ more) is.noted
    there = K.begins limits bytes more is.noted (L.whole_begins limits bytes is.noted is.whole)

    said_first : IsTextSoFar opened (open_target to) limits (bytes ++ more) said
    said_first = first (record { noted = is.noted; begins = there; held = is.held; is_text = is.is_text })

    -- each outlook on more bytes goes on with it
    pub goes_on : (outlook : Verdict) → IsVerdictOn opened (open_target to) limits (bytes ++ more) outlook → IsFront said (verdict_text outlook)
    goes_on outlook = so_far opened L (open_target to) (open_target_laws to T) limits valid (bytes ++ more) said outlook said_first

    said_at_end : (is.noted ≡ []) ⊎ closed.Begins limits (bytes ++ more) is.noted → IsTextSoFar closed to limits (bytes ++ more) said
    said_at_end (inl empty) = none (is.is_text ∙ ap (λ (l : List NotedGroup). to.partial_text l) empty ∙ T.none)
    said_at_end (inr begins) = first (record { noted = is.noted; begins = begins; held = held_closed to is.noted is.held; is_text = is.is_text })

    -- and so does each verdict
    pub goes_on_to_end : InputFormLaws closed → (verdict : Verdict) → IsVerdictOn closed to limits (bytes ++ more) verdict → IsFront said (verdict_text verdict)
    goes_on_to_end C verdict = so_far closed C to T limits valid (bytes ++ more) said verdict (said_at_end (K.begun limits (bytes ++ more) is.noted there))

-- ---- the end of an input of frames

module _ (from : FramedForm) (to : Target) (limits : Limits) (bytes said : List ℕ) (tally : Tally) (is : IsGood (open_frames from) (open_target to) limits bytes said tally) where
  -- the unit behind those that are counted
  abbrev Cut : ℕ → Type 0
  Cut number = IsRefusal (framed_input from) to limits bytes said (record { unit = number; cause = causes.Truncated })

  by_rest : (rest : List ℕ) → is.whole.rest ≡ rest → EndsSo (framed_input from) to limits bytes said tally
  by_rest [] empty = whole (to.whole_text is.noted) (record {
    noted = is.noted;
    whole = whole_at_end from limits bytes is.noted is.whole empty;
    held = held_closed to is.noted is.held;
    is_text = refl;
    counts = is.counts;
  })
  by_rest (b ∷ rest) some = cut (subst (λ n. Cut (n + 1)) (sym (ap (λ (t : Tally). t.units) is.counts)) (record {
    noted = is.noted;
    refuses = cut_at_end from limits bytes is.noted is.whole (λ empty. cc);
    held = held_closed to is.noted is.held;
    is_text = is.is_text;
  }))

  pub ends_so : EndsSo (framed_input from) to limits bytes said tally
  ends_so = by_rest is.whole.rest refl

pub outlook_ends : (from : Form) (to : Target) (limits : Limits) (bytes said : List ℕ) (tally : Tally) → IsOutlookOn from to limits bytes (good said tally) → IfFrames from (EndsSo (input_form from) to limits bytes said tally)
outlook_ends forms.OtlpProto to limits bytes said tally is = ends_so request_form to limits bytes said tally is
outlook_ends forms.OtlpJson to limits bytes said tally is = tt
outlook_ends forms.JaegerBinary to limits bytes said tally is = ends_so (batch_form binary) to limits bytes said tally is
outlook_ends forms.JaegerCompact to limits bytes said tally is = ends_so (batch_form compact) to limits bytes said tally is
outlook_ends forms.ZipkinJson to limits bytes said tally is = tt
