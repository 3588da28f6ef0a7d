-- What a converter says of the bytes that it was fed, and what is looked at of a piece.
use Rattle.std.proofs.Common.{◌≡◌, ◌≢◌, true, false, ℕ, ◌-◌, ◌+◌, ◌≤◌, Bool, List, ◌++◌, length, take, Option, Some, None, sym, ap, subst, ◌∙◌, arith, length-append}
use Rattle.std.proofs.lemmas.List.{length-take}
use Rattle.span_io.specs.declared.form.Form.{Form}
use Rattle.span_io.specs.declared.limits.Limits.{Limits}
use Rattle.span_convert.specs.Converters.{Fed, Work, is_ended, stop_in, work_of}
use Rattle.span_convert.specs.Intakes.{Taken, form_in}
use Rattle.span_convert.specs.Outlooks.{IsOutlookAs}
use Rattle.span_convert.specs.Units.{input_limit}
use Rattle.span_convert.specs.Verdicts.{good}
use Rattle.span_convert.specs.private.WalkSteps.{Exceeds, IsLookedAt}
use Rattle.span_convert.specs.declared.walker.State.{State}
use Rattle.span_convert.specs.declared.walker.State.TheVariants as states
use Rattle.span_convert.specs.declared.walker.Walker.{Walker}
use Rattle.span_convert.specs.declared.intake.Intake.{Intake}
use Rattle.span_convert.specs.declared.progress.Progress.{Progress}
use Rattle.span_convert.specs.declared.stop.Stop.{Stop}
use Rattle.span_convert.specs.declared.written.Written.{Written}
use Rattle.span_convert.proofs.CarryLemmas.{looked_front}
use Rattle.span_convert.proofs.IntakeLemmas.{taken_outlook}

-- what is said of its own work is said of any that it was fed for
pub of_own : (P : Work → List ℕ → List ℕ → Type 0) (c : Walker) → ((bytes said : List ℕ) → Fed c (work_of c) bytes said → P (work_of c) bytes said)
    → (work : Work) (bytes said : List ℕ) → Fed c work bytes said → P work bytes said
of_own P c says work bytes said fed = subst (λ (w : Work). P w bytes said) fed.works (says bytes said (subst (λ (w : Work). Fed c w bytes said) (sym fed.works) fed))

pub same_work : (a b : Work) → a.from ≡ b.from → a.what ≡ b.what → a.limits ≡ b.limits → a ≡ b
same_work a b e f g =
    ap (λ (x : Form). record { from = x; what = a.what; limits = a.limits }) e
    ∙ ap (λ (x : Written). record { from = b.from; what = x; limits = a.limits }) f
    ∙ ap (λ (x : Limits). record { from = b.from; what = b.what; limits = x }) g

-- one that goes on answered no stop
pub never_stopped : {P : Type 0} (state : State) (stop : Stop) (kept : Option Stop) → state ≡ states.Open → kept ≡ stop_in state → kept ≡ Some stop → P
never_stopped state stop kept going is stopped = absurd (let e : ◌≡◌ {A = Option Stop} (Some stop) None = sym stopped ∙ is ∙ ap stop_in going in cc)

module _ (c : Walker) (bytes said : List ℕ) (fed : Fed c (work_of c) bytes said) where
  abbrev limit_of : ℕ
  limit_of = input_limit (form_in c.intake) c.limits

  -- what is looked at of the next piece
  pub looked_of : (piece looked : List ℕ) (too_long : Bool) (limit : ℕ) (form : Form) → form ≡ form_in c.intake → limit ≡ input_limit form c.limits → take (limit - c.fed) piece ≡ looked → Exceeds too_long (limit - c.fed) piece
      → IsLookedAt limit_of bytes piece looked too_long
  looked_of piece looked too_long limit form is bound front exceeds =
      looked_front limit_of c.fed (limit - c.fed) bytes piece looked too_long fed.size (ap (λ n. n - c.fed) (bound ∙ ap (λ f. input_limit f c.limits) is)) fed.within front exceeds

  -- a piece that was taken is looked at as a whole
  pub size_then : (piece looked : List ℕ) (limit : ℕ) (form : Form) → form ≡ form_in c.intake → limit ≡ input_limit form c.limits → take (limit - c.fed) piece ≡ looked → length (bytes ++ piece) ≤ limit_of
      → c.fed + length looked ≡ length (bytes ++ piece)
  size_then piece looked limit form is bound front within =
      let most : limit ≡ limit_of = bound ∙ ap (λ f. input_limit f c.limits) is in
      omega (arith, most, within, fed.size, length-append bytes piece, ap length front, length-take (limit - c.fed) piece)

-- one that goes on hasn't ended
pub not_ended : (state : State) → state ≡ states.Open → is_ended state ≢ true
not_ended state going = λ ended. absurd (let e : false ≡ true = sym (ap is_ended going) ∙ ended in cc)

-- the outlook on what was taken, told of the form as it was
pub outlook_then : (work : Work) (intake : Intake) (progress : Progress) (whole text held : List ℕ) → form_in intake ≡ work.from → Taken intake work.what work.limits whole text held progress
    → IsOutlookAs work.from work.what work.limits whole (good text progress.tally)
outlook_then work intake progress whole text held same taken =
    subst (λ (f : Form). IsOutlookAs f work.what work.limits whole (good text progress.tally)) same (taken_outlook work.what work.limits whole text held progress intake taken)
