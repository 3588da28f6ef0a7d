-- What was taken in of an input so far, and the outlook on it.
use Rattle.std.proofs.Common.{◌≡◌, ◌≢◌, ℕ, ◌≤◌, ◌^◌, true, List, [], length, None, refl, ap, ◌∙◌, arith}
use Rattle.span_io.specs.Limits.{AreLimits}
use Rattle.span_io.specs.Outside.{Outlet}
use Rattle.span_io.specs.declared.form.Form.{Form}
use Rattle.span_io.specs.declared.form.Form.TheVariants as forms
use Rattle.span_io.specs.declared.limits.Limits.{Limits}
use Rattle.span_io.specs.Scans.{Scanning}
use Rattle.span_convert.specs.Converters.{is_ended, stop_in}
use Rattle.span_convert.specs.FramedForms.{FramedForm}
use Rattle.span_convert.specs.private.TargetSteps.{CanBeRead}
use Rattle.span_convert.specs.Intakes.{Taken, form_in}
use Rattle.span_convert.specs.Outlooks.{IfDocument, IsOutlookOn, WritesFrontFrom}
use Rattle.span_convert.specs.Reports.{written_target}
use Rattle.span_convert.specs.Targets.{Target, CanHoldUnits, open_target}
use Rattle.span_convert.specs.Units.{framed_input, document_input, input_form, input_limit, open_document, open_form, open_frames}
use Rattle.span_convert.specs.Documents.{DocumentForm}
use Rattle.trace_model.specs.OtlpParts.{NotedGroup}
use Rattle.span_convert.specs.Verdicts.{good, IsTextSoFar, none, first, all, IsGood}
use Rattle.span_convert.specs.Walks.{DocumentTaken, FramesTaken}
use Rattle.span_convert.specs.declared.walker.State.{State}
use Rattle.span_convert.specs.declared.walker.State.TheVariants as states
use Rattle.span_convert.specs.declared.intake.Intake.{Intake}
use Rattle.span_convert.specs.declared.intake.Intake.TheVariants as intakes
use Rattle.span_convert.specs.declared.progress.Progress.{Progress}
use Rattle.span_convert.specs.declared.written.Written.{Written}
use Rattle.span_convert.proofs.WalkLemmas.{as_open, holds_no_unit}

-- ---- states and sizes

-- one that neither stopped nor ended goes on
pub is_open : (state : State) → stop_in state ≡ None → is_ended state ≢ true → state ≡ states.Open
is_open states.Open unstopped going = refl
is_open states.Ended unstopped going = absurd (going refl)
is_open (states.Refused refusal) unstopped going = cc
is_open (states.Faulted found) unstopped going = cc
is_open states.Write unstopped going = cc
is_open states.OutOfMemory unstopped going = cc

pub input_small : (from : Form) (limits : Limits) → AreLimits limits → input_limit from limits ≤ 2 ^ 40
input_small forms.OtlpProto limits valid = omega (arith, valid.binary.1)
input_small forms.OtlpJson limits valid = omega (arith, valid.json.1)
input_small forms.JaegerBinary limits valid = omega (arith, valid.binary.1)
input_small forms.JaegerCompact limits valid = omega (arith, valid.binary.1)
input_small forms.ZipkinJson limits valid = omega (arith, valid.json.1)

-- what is said of documents alone
pub of_documents : (from : Form) (P : Type 0) → P → IfDocument from P
of_documents forms.OtlpProto P p = tt
of_documents forms.OtlpJson P p = p
of_documents forms.JaegerBinary P p = tt
of_documents forms.JaegerCompact P p = tt
of_documents forms.ZipkinJson P p = p

-- a document is small
pub can_be_read : (intake : Intake) (limits : Limits) (held : List ℕ) → AreLimits limits → length held ≤ input_limit (form_in intake) limits → CanBeRead intake held
can_be_read (intakes.Request scanner) limits held valid within = tt
can_be_read intakes.GroupFile limits held valid within = omega (arith, valid.json.1, within)
can_be_read (intakes.BinaryBatches scanner) limits held valid within = tt
can_be_read (intakes.CompactBatches scanner) limits held valid within = tt
can_be_read intakes.SpanFile limits held valid within = omega (arith, valid.json.1, within)

-- ---- the outlook on what was taken

module _ (what : Written) (limits : Limits) (bytes said held : List ℕ) (progress : Progress) where
  frames_outlook : (form : FramedForm) (s : Scanning) → FramesTaken form what limits bytes said s held progress → IsGood (open_frames form) (open_target (written_target what)) limits bytes said progress.tally
  frames_outlook form s taken = record {
    noted = taken.noted;
    whole = record { rest = held; units_then = taken.units_then; needs = taken.needs; within = taken.within };
    held = (as_open (written_target what)).held taken.noted taken.done.held.can_hold;
    is_text = taken.is_said;
    counts = taken.done.counts;
  }

  document_outlook : DocumentTaken what limits bytes said held progress → IsGood open_document (open_target (written_target what)) limits bytes said progress.tally
  document_outlook taken = record {
    noted = [];
    whole = record { none = refl; within = taken.within };
    held = (as_open (written_target what)).held [] (holds_no_unit (written_target what));
    is_text = taken.is_said;
    counts = taken.done.counts;
  }

  pub taken_outlook : (intake : Intake) → Taken intake what limits bytes said held progress → IsOutlookOn (form_in intake) (written_target what) limits bytes (good said progress.tally)
  taken_outlook (intakes.Request scanner) taken = frames_outlook _ _ taken
  taken_outlook intakes.GroupFile taken = document_outlook taken
  taken_outlook (intakes.BinaryBatches scanner) taken = frames_outlook _ _ taken
  taken_outlook (intakes.CompactBatches scanner) taken = frames_outlook _ _ taken
  taken_outlook intakes.SpanFile taken = document_outlook taken

  pub taken_within : (intake : Intake) → Taken intake what limits bytes said held progress → length bytes ≤ input_limit (form_in intake) limits
  taken_within (intakes.Request scanner) taken = taken.within
  taken_within intakes.GroupFile taken = taken.within
  taken_within (intakes.BinaryBatches scanner) taken = taken.within
  taken_within (intakes.CompactBatches scanner) taken = taken.within
  taken_within intakes.SpanFile taken = taken.within

-- ---- a text so far of an input that goes on is one of it as it is

module _ (to : Target) (limits : Limits) (bytes text : List ℕ) where
  closed : (units : List NotedGroup) → CanHoldUnits (open_target to) units → CanHoldUnits to units
  closed units held = record { sound = held.sound; proper = held.proper; no_fault = held.no_fault }

  frames_so_far : (form : FramedForm) → IsTextSoFar (open_frames form) (open_target to) limits bytes text → IsTextSoFar (framed_input form) to limits bytes text
  frames_so_far form (none e) = none e
  frames_so_far form (first p) = first (record { noted = p.noted; begins = p.begins; held = closed p.noted p.held; is_text = p.is_text })
  frames_so_far form (all tally g) =
      first (record { noted = g.noted; begins = record { rest = g.whole.rest; units_then = g.whole.units_then }; held = closed g.noted g.held; is_text = g.is_text })

  document_so_far : (form : DocumentForm) → to.partial_text [] ≡ [] → IsTextSoFar open_document (open_target to) limits bytes text → IsTextSoFar (document_input form) to limits bytes text
  document_so_far form empty (none e) = none e
  document_so_far form empty (first p) = none (p.is_text ∙ ap (λ (l : List NotedGroup). to.partial_text l) p.begins ∙ empty)
  document_so_far form empty (all tally g) = none (g.is_text ∙ ap (λ (l : List NotedGroup). to.partial_text l) g.whole.none ∙ empty)

  pub so_far_closed : (from : Form) → to.partial_text [] ≡ [] → IsTextSoFar (open_form from) (open_target to) limits bytes text → IsTextSoFar (input_form from) to limits bytes text
  so_far_closed forms.OtlpProto empty h = frames_so_far _ h
  so_far_closed forms.OtlpJson empty h = document_so_far _ empty h
  so_far_closed forms.JaegerBinary empty h = frames_so_far _ h
  so_far_closed forms.JaegerCompact empty h = frames_so_far _ h
  so_far_closed forms.ZipkinJson empty h = document_so_far _ empty h

pub front_closed : (to : Target) (limits : Limits) (bytes said : List ℕ) (before now : Outlet) (from : Form) → to.partial_text [] ≡ [] → WritesFrontFrom (open_form from) (open_target to) limits bytes said before now
    → WritesFrontFrom (input_form from) to limits bytes said before now
front_closed to limits bytes said before now from empty w = record { text = w.text; so_far = so_far_closed to limits bytes w.text from empty w.so_far; gains = w.gains }
