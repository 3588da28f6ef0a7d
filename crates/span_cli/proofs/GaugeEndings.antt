-- Each way for a run of `gauge` to end.
use Rattle.std.proofs.Common.{◌≡◌, ℕ, List, [], Option, Some, None, refl, sym, subst, inl, inr, arith, append-nil}
use Rattle.std.specs.Prelude.{IfSome}
use Rattle.std.specs.Io.KnownBytes.{Consumes}
use Rattle.span_io.specs.Outside.{Inlet, Outlet, Gains, GainsFront, OutputFails, OutputHolds, FailsWithin}
use Rattle.span_cli.specs.GaugeLines.{gauge_lines}
use Rattle.span_cli.specs.Jobs.{Gauge}
use Rattle.span_cli.specs.Lines.{Notes, said}
use Rattle.span_cli.specs.private.LineWords.{status_of, ending_line}
use Rattle.span_cli.specs.Outcomes.{Outcome, OnOutcome, IsJudgedAt, CarriesOut, gauge_outcome}
use Rattle.span_cli.specs.private.RunSteps.{EndsRun, EndsGauge}
use Rattle.span_cli.specs.Runs.{IsGaugeStatus}
use Rattle.span_cli.specs.declared.ending.Ending.{Ending}
use Rattle.span_cli.specs.declared.ending.Ending.TheVariants as endings
use Rattle.span_cli.proofs.EndingLaws.{RunCourse, Carries, always, ends_output_failed, ends_said, wants, holds_nothing, front_nothing, unlike, untouched_in_vain}

-- ---- what a call did to the output

module _ {K : Type 0} (outlet : K → Outlet) (spans : ℕ) (old new : K) where
  pub gauge_wants : new ≡ old → EndsGauge outlet spans endings.NoMemory old new
  gauge_wants same = record {
    ending_is = tt;
    output = record {
      fails = λ e. absurd (unlike 7 6 (inr (omega arith)) e);
      holds = λ e. subst (λ (k : K). OutputHolds (outlet old) (outlet k)) (sym same) (holds_nothing (outlet old));
    };
    written = subst (λ (k : K). GainsFront (outlet old) (outlet k) (gauge_lines spans)) (sym same) (front_nothing (outlet old) (gauge_lines spans));
  }

  pub gauge_written : Gains (outlet old) (outlet new) (gauge_lines spans) → OutputHolds (outlet old) (outlet new) → EndsGauge outlet spans endings.Whole old new
  gauge_written gains holds = record {
    ending_is = tt;
    output = record { fails = λ e. absurd (unlike 0 6 (inl (omega arith)) e); holds = λ e. holds };
    written = gains;
  }

  pub gauge_failed : OutputFails (outlet old) (outlet new) → FailsWithin (outlet old) (outlet new) (gauge_lines spans) → EndsGauge outlet spans endings.OutputFailed old new
  gauge_failed fails inside = record {
    ending_is = tt;
    output = record { fails = λ e. fails; holds = λ other. absurd (other refl) };
    written = inside;
  }

-- ---- the same, whatever the input is

consumes_nothing : (left : Option (List ℕ)) → Consumes left left []
consumes_nothing None = tt
consumes_nothing (Some bytes) = refl

-- what holds of the lines holds of each outcome
on_lines : (spans : ℕ) (left : Option (List ℕ)) (P : Outcome → Type 0) → P (gauge_outcome spans) → OnOutcome (Gauge spans) left P
on_lines spans None P holds = tt
on_lines spans (Some bytes) P holds = λ outcome is. subst P (sym is) holds

judged_lines : (spans : ℕ) (left : Option (List ℕ)) → IfSome left (IsJudgedAt (Gauge spans) said)
judged_lines spans None = tt
judged_lines spans (Some bytes) = (gauge_outcome spans, refl)

module _ {K : Type 0} (outlet : K → Outlet) (spans : ℕ) (now : Inlet) (old new : K) where
  course : GainsFront (outlet old) (outlet new) (gauge_lines spans) → RunCourse outlet (Gauge spans) now now old new
  course front = record {
    reads = record { given = []; gave = consumes_nothing now.left; within = omega arith };
    in_vain = untouched_in_vain now;
    front = record { given = []; gave = consumes_nothing now.left; front = front };
  }

  pub ends_gauge : (ending : Ending) → EndsGauge outlet spans ending old new → EndsRun outlet (Gauge spans) ending now now old new
  ends_gauge endings.Whole ends =
      ends_said outlet (Gauge spans) now now old new endings.Whole refl (unlike 0 5 (inl (omega arith))) (unlike 0 6 (inl (omega arith))) (λ e. absurd (unlike 0 4 (inl (omega arith)) e)) (λ e. refl) (λ e. always now.left (λ bytes. Unit {0}) (λ bytes. tt))
      (course (record { front = gauge_lines spans; is_front = ([], sym (append-nil (gauge_lines spans))); gains = ends.written })) refl
      (ends.output.holds (unlike 0 6 (inl (omega arith)))) (judged_lines spans now.left)
      (on_lines spans now.left (Carries outlet (Gauge spans) now now old new endings.Whole) (record { agrees = refl; writes = ends.written; notes = refl }))
  ends_gauge endings.OutputFailed ends =
      ends_output_failed outlet (Gauge spans) now now old new (course ends.written.front) refl (ends.output.fails refl)
      (on_lines spans now.left (λ o. FailsWithin (outlet old) (outlet new) o.text) ends.written)
  ends_gauge endings.NoMemory ends =
      wants outlet (Gauge spans) now now old new (course ends.written) refl (ends.output.holds (unlike 7 6 (inr (omega arith))))
      (on_lines spans now.left (λ o. GainsFront (outlet old) (outlet new) o.text) ends.written)
  ends_gauge endings.InputFailed ends = absurd ends.ending_is
  ends_gauge (endings.Refused refusal) ends = absurd ends.ending_is
  ends_gauge (endings.Faulted noted) ends = absurd ends.ending_is
  ends_gauge (endings.BadHeaders cause) ends = absurd ends.ending_is
  ends_gauge endings.TooLong ends = absurd ends.ending_is
  ends_gauge endings.NoIds ends = absurd ends.ending_is

-- ---- the whole run

module _ {K : Type 0} (outlet : K → Outlet) (spans : ℕ) (old new : K) (before now : Outlet) where
  pub gauge_status : (ending : Ending) → EndsGauge outlet spans ending old new → IsGaugeStatus (status_of ending)
  gauge_status endings.Whole ends = inl refl
  gauge_status endings.OutputFailed ends = inr (inl refl)
  gauge_status endings.NoMemory ends = inr (inr refl)
  gauge_status endings.InputFailed ends = absurd ends.ending_is
  gauge_status (endings.Refused refusal) ends = absurd ends.ending_is
  gauge_status (endings.Faulted noted) ends = absurd ends.ending_is
  gauge_status (endings.BadHeaders cause) ends = absurd ends.ending_is
  gauge_status endings.TooLong ends = absurd ends.ending_is
  gauge_status endings.NoIds ends = absurd ends.ending_is

  pub gauge_carried : (ending : Ending) → EndsGauge outlet spans ending old new → Notes before now (ending_line ending)
      → CarriesOut (status_of ending) (outlet old) (outlet new) (Notes before now) (gauge_outcome spans)
  gauge_carried endings.Whole ends notes = record { agrees = refl; writes = ends.written; notes = notes }
  gauge_carried endings.OutputFailed ends notes = record { agrees = tt; writes = ends.written; notes = notes }
  gauge_carried endings.NoMemory ends notes = record { agrees = tt; writes = ends.written; notes = notes }
  gauge_carried endings.InputFailed ends notes = absurd ends.ending_is
  gauge_carried (endings.Refused refusal) ends notes = absurd ends.ending_is
  gauge_carried (endings.Faulted noted) ends notes = absurd ends.ending_is
  gauge_carried (endings.BadHeaders cause) ends notes = absurd ends.ending_is
  gauge_carried endings.TooLong ends notes = absurd ends.ending_is
  gauge_carried endings.NoIds ends notes = absurd ends.ending_is
