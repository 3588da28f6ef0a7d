-- What was written of the losses of a move tells whether the trace that was read is its own normal form.
use Rattle.std.proofs.Common.{◌≡◌, ◌↔◌, ℕ, List, Option, refl, ap, subst, arith}
use Rattle.std.specs.Prelude.{IfSome, codes}
use Rattle.span_io.specs.Limits.{shipped_limits}
use Rattle.span_io.specs.Outside.{Outlet, Gains}
use Rattle.span_io.specs.declared.form.Form.{Form}
use Rattle.span_io.specs.declared.limits.Limits.{Limits}
use Rattle.span_convert.specs.Reports.{report_target}
use Rattle.span_convert.specs.Units.{groups_in, input_form, normal_form}
use Rattle.span_convert.specs.Verdicts.{IsGood, good, refused, faulted}
use Rattle.span_convert.specs.declared.report.Report.TheVariants as reports
use Rattle.span_convert.specs.declared.tally.Tally.{Tally}
use Rattle.span_convert.specs.declared.written.Written.TheVariants as written
use Rattle.span_cli.specs.Jobs.{Job, Spans}
use Rattle.span_cli.specs.Lines.{stage_of}
use Rattle.span_cli.specs.Outcomes.{Outcome, IsOutcome, OnOutcome, IsJudgedAt, CarriesOut, WritesLossesOf}
use Rattle.span_cli.proofs.WholeRuns.{not_zero, whole_run}

module _ (law : (from to : Form) (limits : Limits) (bytes text : List ℕ) (tally : Tally)
    → (h : IsGood (input_form from) (report_target (reports.Losses to)) limits bytes text tally)
    → (text ≡ codes "losses 0\n") ↔ (normal_form to (groups_in h.noted) ≡ groups_in h.noted)) (from to : Form) where
  abbrev losing : Job
  losing = Spans from (written.Report (reports.Losses to))

  losses_of_bytes : (bytes : List ℕ) (outcome : Outcome) (before now : Outlet) → IsOutcome losing bytes outcome → 0 ≡ outcome.status → Gains before now outcome.text → WritesLossesOf from to before now bytes
  losses_of_bytes bytes outcome before now (good text tally, is, e) agrees gains = record {
    lines = text;
    tally = tally;
    all = is;
    gains = subst (λ (text : List ℕ). Gains before now text) (ap (λ (o : Outcome). o.text) e) gains;
    tied = law from to shipped_limits bytes text tally is;
  }
  losses_of_bytes bytes outcome before now (refused refusal text, is, e) agrees gains = absurd (not_zero outcome _ 3 agrees e refl (omega arith))
  losses_of_bytes bytes outcome before now (faulted found text, is, e) agrees gains = absurd (not_zero outcome _ 4 agrees e refl (omega arith))

  pub losses_told : (left : Option (List ℕ)) (status : ℕ) (before now : Outlet) (Noted : List ℕ → Type 0) → IfSome left (IsJudgedAt losing (stage_of status))
      → OnOutcome losing left (CarriesOut status before now Noted) → status ≡ 0 → IfSome left (WritesLossesOf from to before now)
  losses_told left status before now Noted = whole_run losing before now Noted (WritesLossesOf from to before now)
      (λ bytes outcome is zero gains. losses_of_bytes bytes outcome before now is zero gains) left status
