-- What was written of a conversion is read back as the normal form of the trace that was read, and converts back.
use Rattle.std.proofs.Common.{ℕ, List, Option, Some, None, All}
use Rattle.std.proofs.lemmas.List.Elements.{All-map}
use Rattle.std.specs.Prelude.{IfSome}
use Rattle.span_io.specs.Limits.{AreLimits, shipped_limits}
use Rattle.span_io.specs.Outside.{Outlet}
use Rattle.span_io.specs.declared.form.Form.{Form}
use Rattle.span_io.specs.declared.limits.Limits.{Limits}
use Rattle.trace_model.specs.OtlpParts.{NotedGroup}
use Rattle.span_convert.specs.Canonical.{ReadsBack}
use Rattle.span_convert.specs.Targets.{form_target}
use Rattle.span_convert.specs.Units.{IsSizedGroup, groups_in, input_form}
use Rattle.span_convert.specs.Verdicts.{IsGood}
use Rattle.span_convert.specs.declared.tally.Tally.{Tally}
use Rattle.span_convert.specs.declared.written.Written.TheVariants as written
use Rattle.span_cli.specs.Outcomes.{WritesTextOf}
use Rattle.span_cli.specs.private.RunSteps.{WritesAllUnits}
use Rattle.span_cli.proofs.WrittenSoFar.{shipped_valid}

module _ (law : (from to : Form) (limits : Limits) (bytes text : List ℕ) (tally : Tally) → AreLimits limits
    → (h : IsGood (input_form from) (form_target to) limits bytes text tally)
    → All (IsSizedGroup to) (groups_in h.noted) → ReadsBack from to limits bytes text) (from to : Form) (before now : Outlet) where
  pub text_back : (left : Option (List ℕ)) → IfSome left (WritesAllUnits from (written.Form to) before now) → IfSome left (WritesTextOf from to before now)
  text_back None all = tt
  text_back (Some bytes) w = record {
    out = w.text;
    gains = w.gains;
    back = law from to shipped_limits bytes w.text w.tally shipped_valid w.all (All-map (IsSizedGroup to) (λ (unit : NotedGroup). unit.means) w.all.noted w.sized);
  }
