-- What a conversion in one call answers, by what its converter wrote.
use Rattle.std.proofs.Common.{◌≡◌, ◌⊎◌, inl, inr, ℕ, List, ◌++◌, Option, Some, Err, refl, sym, ap, subst, ◌∙◌}
use Rattle.std.specs.Io.KnownBytes.{Appends}
use Rattle.span_io.specs.Outside.{Outlet}
use Rattle.span_io.specs.declared.form.Form.{Form}
use Rattle.span_io.specs.declared.limits.Limits.{Limits}
use Rattle.span_io.specs.declared.refusal.Refusal.{Refusal}
use Rattle.span_convert.specs.Converters.{KeepsWhy, stop_in}
use Rattle.span_convert.specs.private.States.{bad_in}
use Rattle.span_convert.specs.Outlooks.{GainsFrom, IsLasting, IsOutlookAs, ReachesFrom}
use Rattle.span_convert.specs.Reports.{IsVerdictAs, written_target}
use Rattle.span_convert.specs.Targets.{open_target}
use Rattle.span_convert.specs.Units.{open_form}
use Rattle.span_convert.specs.Verdicts.{Verdict, refused, Answers, IsJudgedOn, verdict_text}
use Rattle.span_convert.specs.declared.bad.Bad.TheVariants as bads
use Rattle.span_convert.specs.declared.walker.State.{State}
use Rattle.span_convert.specs.declared.walker.State.TheVariants as states
use Rattle.span_convert.specs.declared.stop.Stop.{Stop}
use Rattle.span_convert.specs.declared.stop.Stop.TheVariants as stops
use Rattle.span_convert.specs.declared.written.Written.{Written}

-- ---- what is kept of a stop

-- what is kept of the verdict is answered
pub kept_answers : (v : Verdict) (state : State) → KeepsWhy v state → Answers v (Err (bad_in state))
kept_answers v (states.Refused refusal) keeps = keeps
kept_answers v (states.Faulted found) keeps = keeps
kept_answers v states.Open keeps = tt
kept_answers v states.Ended keeps = tt
kept_answers v states.Write keeps = tt
kept_answers v states.OutOfMemory keeps = tt

-- no refusal or fault is kept of other stops
other_so : (v : Verdict) (stop : Stop) (state : State) → (stop ≡ stops.Write) ⊎ (stop ≡ stops.OutOfMemory) → stop_in state ≡ Some stop → Answers v (Err (bad_in state))
other_so v stop states.Open other stays = tt
other_so v stop states.Ended other stays = tt
other_so v stop states.Write other stays = tt
other_so v stop states.OutOfMemory other stays = tt
other_so v stop (states.Refused refusal) (inl e) stays = absurd (cc)
other_so v stop (states.Refused refusal) (inr e) stays = absurd (cc)
other_so v stop (states.Faulted found) (inl e) stays = absurd (cc)
other_so v stop (states.Faulted found) (inr e) stays = absurd (cc)

module _ (from : Form) (what : Written) (limits : Limits) (bytes : List ℕ)
    (once : (v w : Verdict) → IsVerdictAs from what limits bytes v → IsVerdictAs from what limits bytes w → v ≡ w)
    (lasts : (outlook : Verdict) → IsLasting outlook → IsOutlookAs from what limits bytes outlook → IsVerdictAs from what limits bytes outlook)
    (said : List ℕ) (before now : Outlet) (state : State) (v : Verdict) (is : IsVerdictAs from what limits bytes v) where
  pub lasting_answers : (outlook : Verdict) → IsLasting outlook → IsOutlookAs from what limits bytes outlook → KeepsWhy outlook state → Answers v (Err (bad_in state))
  lasting_answers outlook lasting foreseen keeps =
      subst (λ (x : Verdict). Answers x (Err (bad_in state))) (once outlook v (lasts outlook lasting foreseen) is) (kept_answers outlook state keeps)

  -- an outlook that stopped it is answered
  pub piece_answers : (stop : Stop) → stop_in state ≡ Some stop → IsJudgedOn {T = Unit {0}} (open_form from) (open_target (written_target what)) limits bytes (Err stop)
      → ((outlook : Verdict) → IsOutlookAs from what limits bytes outlook → ReachesFrom said outlook (Err stop) before now × KeepsWhy outlook state) → Answers v (Err (bad_in state))
  piece_answers stops.Refused stays (outlook, foreseen) carries =
      let (carried, keeps) = carries outlook foreseen in lasting_answers outlook (subst (λ (x : Verdict). IsLasting x) (sym carried.0.1) tt) foreseen keeps
  piece_answers stops.Faulted stays (outlook, foreseen) carries =
      let (carried, keeps) = carries outlook foreseen in lasting_answers outlook (subst (λ (x : Verdict). IsLasting x) (sym carried.0.1) tt) foreseen keeps
  piece_answers stops.Write stays foreseen carries = other_so v stops.Write state (inl refl) stays
  piece_answers stops.OutOfMemory stays foreseen carries = other_so v stops.OutOfMemory state (inr refl) stays

-- ---- a text in memory

pub text_held : (said old new text : List ℕ) (before now : Outlet) → before.held ≡ Some old → now.held ≡ Some new → old ≡ said → GainsFrom said before now text → new ≡ text
text_held said old new text before now was is same w =
    let held : new ≡ old ++ w.added = subst (λ (o : Option (List ℕ)). Appends (Some old) o w.added) is (subst (λ (o : Option (List ℕ)). Appends o now.held w.added) was w.gains.held) in
    held ∙ ap (λ l. l ++ w.added) same ∙ sym w.parts

-- an answer that refuses tells the verdict
pub refused_by : (P : Verdict → Type 0) (v : Verdict) (refusal : Refusal) → P v → Answers v (Err (bads.Refused refusal)) → (text : List ℕ) × P (refused refusal text)
refused_by P v refusal is answers = (verdict_text v, subst P answers is)
