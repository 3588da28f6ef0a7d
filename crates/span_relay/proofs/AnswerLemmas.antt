-- The answer to a good request, where memory was wanted for it.
use Rattle.std.proofs.Common.{◌≡◌, ℕ, ◌+◌, ◌<◌, ◌≤◌, Bool, true, false, List, [], ◌∷◌, ◌++◌, length, Result, Ok, Err, refl, sym, ap, subst, ◌∙◌, inl, inr, arith, length-append}
use Rattle.std.specs.Prelude.{OnErr, OnOk, nat_lt}
use Rattle.std.specs.Bool.{MatchBool}
use Rattle.std.proofs.lemmas.Bool.Decides.{nat_tests}
use Rattle.span_io.specs.Sizes.{IsShort, longest}
use Rattle.span_io.specs.declared.form.Form.{Form}
use Rattle.span_io.specs.declared.limits.Limits.{Limits}
use Rattle.span_convert.specs.Verdicts.{IsVerdict, Verdict, good}
use Rattle.span_convert.specs.declared.tally.Tally.{Tally}
use Rattle.span_spool.specs.Spools.{IsSpool, Spool}
use Rattle.span_relay.specs.RelayReplies.{AnswersOffer, AnswersSo, outcome_answer}
use Rattle.span_answers.specs.Answers.{bare_answer}
use Rattle.span_relay.specs.private.RelaySteps.{AppendsForm, AppendsOffer, HaltsForm, HaltsOffer, KeepsOr, RelayState, TakesOffer, state_of}

pub on_err : {T E : Type 0} (r : Result T E) (P : Type 0) → P → OnErr r P
on_err (Ok x) P p = tt
on_err (Err e) P p = p

pub on_err_then : {T E : Type 0} (r : Result T E) (P Q : Type 0) → (P → Q) → OnErr r P → OnErr r Q
on_err_then (Ok x) P Q f h = tt
on_err_then (Err e) P Q f h = f h

pub on_ok_then : {T E : Type 0} (r : Result T E) (P Q : Type 0) → (P → Q) → OnOk r P → OnOk r Q
on_ok_then (Ok x) P Q f h = f h
on_ok_then (Err e) P Q f h = tt

is_above : (n l : ℕ) → n < l → nat_lt n l ≡ true
is_above n l h = grind (arith, nat_tests)

is_within : (n l : ℕ) → l ≤ n → nat_lt n l ≡ false
is_within n l h = grind (arith, nat_tests)

short_more : (old roomy new : List Bool) (kept : Bool) → roomy ≡ old → length roomy < longest → new ≡ roomy ++ kept ∷ [] → IsShort new
short_more old roomy new kept same room e = let l : length new ≡ length roomy + 1 = ap length e ∙ length-append roomy (kept ∷ []) in omega (arith, l, room)

-- it was offered, and its outcome stands behind the others
pub halts_offered : (to from : Form) (close : Bool) (before now : Spool) (old roomy new : List Bool) (text : List ℕ) (kept : Bool) → KeepsOr to text before now kept → before.faults ≤ now.faults → IsSpool now
    → roomy ≡ old → length roomy < longest → new ≡ roomy ++ kept ∷ [] → HaltsOffer to from close (state_of before old) (state_of now new) text
halts_offered to from close before now old roomy new text kept keeps counted sound same room e =
    inr (
      outcome_answer from close kept,
      record {
        kept = kept;
        taken = record {
          keeps = keeps;
          counted = counted;
          sound = sound;
          outcomes = e ∙ ap (λ (l : List Bool). l ++ kept ∷ []) same;
          short = short_more old roomy new kept same room e;
        };
        answered = refl;
      },
    )

module _ (to from : Form) (limits : Limits) (body : List ℕ) (close : Bool) (first last : RelayState) where
  by_length : (b : Bool) (text answer : List ℕ) → nat_lt limits.reply (length text) ≡ b
      → MatchBool b (AnswersSo first (bare_answer 413 close) answer last) (AnswersOffer (TakesOffer to) from close first text answer last)
      → MatchBool (nat_lt limits.reply (length text)) (AnswersSo first (bare_answer 413 close) answer last) (AnswersOffer (TakesOffer to) from close first text answer last)
  by_length b text answer e h =
      subst (λ (b : Bool). MatchBool b (AnswersSo first (bare_answer 413 close) answer last) (AnswersOffer (TakesOffer to) from close first text answer last)) (sym e) h

  module _ (verdict : Verdict) (is : IsVerdict from to limits body verdict) (text : List ℕ) (tally : Tally) (same : verdict ≡ good text tally) where
    is_good : IsVerdict from to limits body (good text tally)
    is_good = subst (λ (v : Verdict). IsVerdict from to limits body v) same is

    -- its text is longer than an answer may be
    pub appends_long : limits.reply < length text → last ≡ first → (old new : List ℕ) → new ≡ old ++ bare_answer 413 close → AppendsForm to limits from body close first last old new
    appends_long long still old new e = (bare_answer 413 close, (good text tally, is_good, by_length true text (bare_answer 413 close) (is_above limits.reply (length text) long) (refl, still)), e)

    pub appends_form : length text ≤ limits.reply → (old new : List ℕ) → AppendsOffer to from close first last text old new → AppendsForm to limits from body close first last old new
    appends_form fits old new (answer, offered, e) = (answer, (good text tally, is_good, by_length false text answer (is_within limits.reply (length text) fits) offered), e)

    pub halts_form : length text ≤ limits.reply → HaltsOffer to from close first last text → HaltsForm to limits from body close first last
    halts_form fits (inl e) = inl e
    halts_form fits (inr (answer, offered)) = inr (answer, (good text tally, is_good, by_length false text answer (is_within limits.reply (length text) fits) offered))
