-- The piece of a datagram, by what is answered of its message and of its batch.
use Rattle.std.proofs.Common.{◌≡◌, ◌++◌, ℕ, Bool, List, Result, Ok, Err, IfOk, OnErr, ap, sym, ◌∙◌, subst}
use Rattle.span_io.specs.declared.form.Form.{Form}
use Rattle.span_io.specs.declared.halt.Halt.{Halt}
use Rattle.span_io.specs.declared.halt.Halt.TheVariants as halts
use Rattle.span_io.specs.declared.limits.Limits.{Limits}
use Rattle.span_convert.specs.Verdicts.{Answers, Verdict, IsVerdict, good}
use Rattle.span_convert.specs.declared.bad.Bad.{Bad}
use Rattle.span_convert.specs.declared.bad.Bad.TheVariants as convert_bads
use Rattle.span_convert.specs.declared.tally.Tally.{Tally}
use Rattle.span_agent.specs.Pieces.{IsPiece, no_message, of_batch, SaysPiece, batch_form, batch_halt, by_verdict, piece_end}
use Rattle.span_agent.specs.Messages.{IsMessage, HasCause}
use Rattle.span_agent.specs.declared.message.AgentCause.{AgentCause}
use Rattle.span_agent.specs.declared.piece.AgentBad.{AgentBad}
use Rattle.span_agent.specs.declared.piece.AgentBad.TheVariants as bads

-- a text with its end, or want of memory
pub says_text : (to : Form) (verdict : Verdict) (text : List ℕ) (tally : Tally) (result : Result (List ℕ) (Halt AgentBad)) → verdict ≡ good text tally
    → IfOk result (λ piece. piece ≡ text ++ piece_end to) → OnErr result (result ≡ Err halts.OutOfMemory) → SaysPiece (by_verdict to verdict) result
says_text to verdict text tally (Ok piece) is ok err = ap (by_verdict to) is ∙ ap (λ l. Ok l) (sym ok)
says_text to verdict text tally (Err (halts.Why bad)) is ok err = absurd (cc)
says_text to verdict text tally (Err halts.OutOfMemory) is ok err = tt

-- or why it has none
pub says_halt : (to : Form) (verdict : Verdict) (bad : Bad) (halt : Halt AgentBad) → halt ≡ batch_halt bad → Answers verdict (Err bad)
    → SaysPiece (by_verdict to verdict) (Err halt)
says_halt to verdict (convert_bads.Refused refusal) halt e answers =
    subst (λ (h : Halt AgentBad). SaysPiece (by_verdict to verdict) (Err h)) (sym e) (ap (by_verdict to) answers)
says_halt to verdict (convert_bads.Faulted found) halt e answers =
    subst (λ (h : Halt AgentBad). SaysPiece (by_verdict to verdict) (Err h)) (sym e) (ap (by_verdict to) answers)
says_halt to verdict convert_bads.OutOfMemory halt e answers =
    subst (λ (h : Halt AgentBad). SaysPiece (by_verdict to verdict) (Err h)) (sym e) tt

-- the message says a cause
pub says_cause : (to : Form) (limits : Limits) (datagram : List ℕ) (cause : AgentCause)
    → ((other : AgentCause) → HasCause datagram other → cause ≡ other) → ((compact : Bool) (batch : List ℕ) → IsMessage datagram compact batch → ⊥)
    → (told : Result (List ℕ) AgentBad) → IsPiece to limits datagram told → told ≡ Err (bads.Message cause)
says_cause to limits datagram cause one none told (no_message other h e) = e ∙ ap (λ c. Err (bads.Message c)) (sym (one other h))
says_cause to limits datagram cause one none told (of_batch compact batch verdict h v e) = absurd (none compact batch h)

-- it says a batch
pub says_batch : (to : Form) (limits : Limits) (datagram : List ℕ) (compact : Bool) (batch : List ℕ) (result : Result (List ℕ) (Halt AgentBad))
    → ((cause : AgentCause) → HasCause datagram cause → ⊥)
    → ((other : Bool) (others : List ℕ) → IsMessage datagram other others → (compact ≡ other) × (batch ≡ others))
    → ((verdict : Verdict) → IsVerdict (batch_form compact) to limits batch verdict → SaysPiece (by_verdict to verdict) result)
    → (told : Result (List ℕ) AgentBad) → IsPiece to limits datagram told → SaysPiece told result
says_batch to limits datagram compact batch result none one says told (no_message cause h e) = absurd (none cause h)
says_batch to limits datagram compact batch result none one says told (of_batch other others verdict h v e) =
    let same = one other others h in
    subst (λ t. SaysPiece t result) (sym e)
    (says verdict (subst (λ l. IsVerdict (batch_form compact) to limits l verdict) (sym same.1)
    (subst (λ b. IsVerdict (batch_form b) to limits others verdict) (sym same.0) v)))
