-- The answer to a request, by the verdict on its body.
use Rattle.std.proofs.Common.{◌≡◌, ℕ, ◌≤◌, ◌<◌, Bool, true, false, cond, List, ◌++◌, length, Ok, Err, refl, sym, ap, ◌∙◌, arith}
use Rattle.std.specs.Prelude.{nat_lt}
use Rattle.std.proofs.lemmas.Bool.Decides.{nat_tests}
use Rattle.span_io.specs.declared.form.Form.{Form}
use Rattle.span_io.specs.declared.limits.Limits.{Limits}
use Rattle.span_io.specs.declared.refusal.Refusal.{Refusal}
use Rattle.span_convert.specs.Verdicts.{Answers, IsVerdict, Verdict, good, refused, faulted, verdict_text}
use Rattle.span_convert.specs.declared.bad.Bad.TheVariants as bads
use Rattle.span_convert.specs.declared.target_fault.TargetFault.{TargetFault}
use Rattle.http_conn.specs.MediaTypes.{type_of}
use Rattle.http_conn.specs.Replies.{answer_text}
use Rattle.span_answers.specs.Answers.{bare_answer, plain_text}
use Rattle.span_answers.specs.NoteLines.{fault_line, refusal_line}
use Rattle.span_gateway.specs.Answers.{AppendsFormAnswer, verdict_answer}

is_above : (n l : ℕ) → n < l → nat_lt n l ≡ true
is_above n l h = grind (arith, nat_tests)

is_within : (n l : ℕ) → l ≤ n → nat_lt n l ≡ false
is_within n l h = grind (arith, nat_tests)

module _ (from to : Form) (limits : Limits) (body : List ℕ) (close : Bool) (old new : List ℕ) where
  by_length : (b : Bool) (text : List ℕ) → b ≡ nat_lt limits.reply (length text) → (answer : List ℕ) → answer ≡ cond b (bare_answer 413 close) (answer_text 200 (type_of to) text close)
      → answer ≡ cond (nat_lt limits.reply (length text)) (bare_answer 413 close) (answer_text 200 (type_of to) text close)
  by_length b text e answer h = h ∙ ap (λ (t : Bool). cond t (bare_answer 413 close) (answer_text 200 (type_of to) text close)) e

  -- the answer of a verdict that is another
  told : (verdict : Verdict) → IsVerdict from to limits body verdict → (other : Verdict) → verdict ≡ other → (answer : List ℕ) → answer ≡ verdict_answer to limits close other → new ≡ old ++ answer
      → AppendsFormAnswer from to limits body close old new
  told verdict is other same answer answered grows =
      record { verdict = verdict; is_verdict = is; grows = grows ∙ ap (λ l. old ++ l) (answered ∙ ap (λ (v : Verdict). verdict_answer to limits close v) (sym same)) }

  -- its text is longer than an answer may be
  pub appends_long : (verdict : Verdict) → IsVerdict from to limits body verdict → (out : List ℕ) → Answers verdict (Ok out) → limits.reply < length out
      → new ≡ old ++ bare_answer 413 close → AppendsFormAnswer from to limits body close old new
  appends_long verdict is out (tally, same) long grows =
      let longer = is_above limits.reply (length out) long in
      told verdict is (good out tally) same (bare_answer 413 close) (by_length true out (sym longer) (bare_answer 413 close) refl) grows

  pub appends_text : (verdict : Verdict) → IsVerdict from to limits body verdict → (out : List ℕ) → Answers verdict (Ok out) → length out ≤ limits.reply
      → new ≡ old ++ answer_text 200 (type_of to) out close → AppendsFormAnswer from to limits body close old new
  appends_text verdict is out (tally, same) short grows =
      let shorter = is_within limits.reply (length out) short in
      told verdict is (good out tally) same (answer_text 200 (type_of to) out close) (by_length false out (sym shorter) (answer_text 200 (type_of to) out close) refl) grows

  pub appends_refusal : (verdict : Verdict) → IsVerdict from to limits body verdict → (refusal : Refusal) → Answers verdict (Err (bads.Refused refusal))
      → new ≡ old ++ answer_text 400 plain_text (refusal_line refusal) close → AppendsFormAnswer from to limits body close old new
  appends_refusal verdict is refusal same grows = told verdict is (refused refusal (verdict_text verdict)) same _ refl grows

  pub appends_fault : (verdict : Verdict) → IsVerdict from to limits body verdict → (found : TargetFault) → Answers verdict (Err (bads.Faulted found))
      → new ≡ old ++ answer_text 422 plain_text (fault_line found) close → AppendsFormAnswer from to limits body close old new
  appends_fault verdict is found same grows = told verdict is (faulted found (verdict_text verdict)) same _ refl grows
