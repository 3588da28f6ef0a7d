-- How an input that is one frame is converted, and what is answered of it.
use Rattle.std.proofs.Common.{◌≡◌, ◌≤◌, ◌-◌, ◌++◌, ℕ, List, [], length, Some, Ok, Err, refl, sym, ap, subst, ◌∙◌, arith}
use Rattle.std.proofs.lemmas.List.{append-nil, take_all}
use Rattle.span_io.specs.Outside.{Outlet}
use Rattle.span_io.specs.declared.form.Form.{Form}
use Rattle.span_io.specs.declared.limits.Limits.{Limits}
use Rattle.trace_model.specs.OtlpParts.{NotedGroup}
use Rattle.span_convert.specs.private.States.{bad_in, state_at}
use Rattle.span_convert.specs.FramedForms.{FramedForm}
use Rattle.span_convert.specs.OneBatches.{ConvertsAll}
use Rattle.span_convert.specs.Outlooks.{IsLasting, IsOutlookAs}
use Rattle.span_convert.specs.Reports.{IsVerdictAs, written_target}
use Rattle.span_convert.specs.Targets.{open_target}
use Rattle.span_convert.specs.Units.{framed_input, input_form, open_form}
use Rattle.span_convert.specs.Verdicts.{Verdict, good, refused, faulted, Answers, units_tally}
use Rattle.span_convert.specs.private.WalkSteps.{HeldByFrames, Converted, WalkedUnits, StopsWalk}
use Rattle.span_convert.specs.declared.progress.Progress.{Progress}
use Rattle.span_convert.specs.declared.progress.WalkStop.{WalkStop}
use Rattle.span_convert.specs.declared.progress.WalkStop.TheVariants as walk_stops
use Rattle.span_convert.specs.declared.written.Written.{Written}
use Rattle.span_convert.proofs.AnswerLemmas.{lasting_answers, text_held}

module _ (from : FramedForm) (what : Written) (limits : Limits) (frame : List ℕ) (binary : length frame ≤ limits.binary) (before : Outlet) where
  -- it stands at the front of the input
  pub stands_first : HeldByFrames from → (progress : Progress) → Converted what [] [] before before progress
      → WalkedUnits from what limits frame (frame ++ []) [] before before progress
  stands_first frames progress w = record {
    noted = [];
    units_then = record {
      units = [];
      held = subst (λ (l : List ℕ). from.HoldsUnits limits frame [] l) (take_all (limits.binary - 0) frame (omega (arith, binary)) ∙ sym (append-nil frame))
          (frames.longer limits [] frame [] [] (frames.none limits));
      are_groups = tt;
    };
    converted = w;
  }

  -- and is all of it
  pub converts_all : (now : Outlet) (progress : Progress) → WalkedUnits from what limits frame [] [] before now progress
      → ConvertsAll (framed_input from) what limits frame before now progress
  converts_all now progress w = record {
    noted = w.noted;
    whole = record { units_then = w.units_then; within = binary };
    converted = w.converted;
  }

module _ (from : Form) (what : Written) (limits : Limits) (bytes : List ℕ)
    (once : (v w : Verdict) → IsVerdictAs from what limits bytes v → IsVerdictAs from what limits bytes w → v ≡ w) (verdict : Verdict) (is : IsVerdictAs from what limits bytes verdict) where
  -- where the walk stops
  pub stop_answers : ((outlook : Verdict) → IsLasting outlook → IsOutlookAs from what limits bytes outlook → IsVerdictAs from what limits bytes outlook)
      → (said : List ℕ) (before now : Outlet) (stop : WalkStop) → StopsWalk (open_form from) (open_target (written_target what)) limits bytes stop said before now
      → Answers verdict (Err (bad_in (state_at stop)))
  stop_answers lasts said before now (walk_stops.Refused refusal) w =
      lasting_answers from what limits bytes once lasts said before now (state_at (walk_stops.Refused refusal)) verdict is (refused refusal w.text) tt w.is_refused refl
  stop_answers lasts said before now (walk_stops.Faulted found) w =
      lasting_answers from what limits bytes once lasts said before now (state_at (walk_stops.Faulted found)) verdict is (faulted found w.text) tt w.is_faulted refl
  stop_answers lasts said before now walk_stops.Write w = tt
  stop_answers lasts said before now walk_stops.OutOfMemory w = tt

  -- where all is converted
  pub text_answers : (before now : Outlet) (progress : Progress) (text : List ℕ) (all : ConvertsAll (input_form from) what limits bytes before now progress)
      → text ≡ (written_target what).whole_text all.noted → Answers verdict (Ok text)
  text_answers before now progress text all is_text = (
    units_tally all.noted,
    sym (once (good text (units_tally all.noted)) verdict (record { noted = all.noted; whole = all.whole; held = all.converted.done.held.can_hold; is_text = is_text; counts = refl }) is),
  )

-- what a sink holds that took nothing before, and what isn't written yet
pub held_then : (what : Written) (units : List NotedGroup) (before now : Outlet) (progress : Progress) (out rest text : List ℕ) → before.held ≡ Some [] → now.held ≡ Some out
    → (w : Converted what units [] before now progress) → (written_target what).whole_text units ≡ [] ++ (w.written ++ rest) → text ≡ out ++ rest
    → text ≡ (written_target what).whole_text units
held_then what units before now progress out rest text was is w whole with_rest =
    let took : out ≡ w.written = text_held [] [] out w.written before now was is refl (record { added = w.written; parts = refl; gains = w.gains }) in
    with_rest ∙ ap (λ l. l ++ rest) took ∙ sym whole
