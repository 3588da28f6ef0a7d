-- What the parts of relaying do to a keeper and to the outcomes so far.
use Rattle.std.specs.Prelude.{◌≡◌, ◌⊎◌, ℕ, ◌≤◌, Bool, true, false, List, [], ◌∷◌, ◌++◌, Ok, Err}
use Rattle.std.proofs.Common.{append_assoc, ap, sym, ◌∙◌}
use Rattle.std.proofs.lemmas.List.{append-nil}
use Rattle.span_io.specs.Sizes.{IsShort}
use Rattle.span_io.specs.declared.form.Form.{Form}
use Rattle.span_io.specs.declared.limits.Limits.{Limits}
use Rattle.http_conn.specs.declared.next.Request.{Request}
use Rattle.span_convert.specs.Verdicts.{IsVerdict, Verdict}
use Rattle.span_spool.specs.Calls.{Keeps}
use Rattle.span_spool.specs.Spools.{IsSpool, Spool}
use Rattle.span_spool.specs.declared.keeper.KeepFault.TheVariants as faults
use Rattle.span_relay.specs.RelayReplies.{AnswersOffer, AnswersVerdict, IsFrontOf, Offer, RelayAnswers}

-- the spool, and what became of the good requests so far
pub record RelayState : Type 0 where
  pub spool : Spool
  pub outcomes : List Bool

-- the state with this spool and these outcomes
abbrev pub state_of : Spool → List Bool → RelayState
state_of spool outcomes = record { spool = spool; outcomes = outcomes }

-- what the keeper did with a text, by whether it was kept
abbrev pub KeepsOr : Form → List ℕ → Spool → Spool → Bool → Type 0
KeepsOr to text before now true = (n : ℕ) × Keeps to text before now (Ok n)
KeepsOr to text before now false =
    Keeps to text before now (Err faults.Failed) ⊎ Keeps to text before now (Err faults.Full) ⊎ Keeps to text before now (Err faults.Spent)

-- The keeper was asked to keep the text once, and the outcome stands behind the others.
pub record TakesOffer (to : Form) (first : RelayState) (offer : Offer) (last : RelayState) : Type 0 where
  pub keeps : KeepsOr to offer.text first.spool last.spool offer.kept
  pub counted : first.spool.faults ≤ last.spool.faults
  pub sound : IsSpool last.spool
  pub outcomes : last.outcomes ≡ first.outcomes ++ offer.kept ∷ []
  pub short : IsShort last.outcomes

-- what a request is answered, and what that makes of the state
abbrev pub Relays : Form → Limits → RelayState → Request → List ℕ → List ℕ → RelayState → Type 0
Relays to limits = RelayAnswers (TakesOffer to) to limits

-- Where memory was wanted either nothing changed, or the text was offered and its answer is missing.
abbrev pub OrUnchanged : RelayState → RelayState → (List ℕ → Type 0) → Type 0
OrUnchanged first last Answered = (last ≡ first) ⊎ ((answer : List ℕ) × Answered answer)

-- Memory was wanted as a request was answered: either nothing changed, or only its answer is missing.
abbrev pub RelayHalts : Form → Limits → RelayState → Request → List ℕ → RelayState → Type 0
RelayHalts to limits first request bytes last =
    OrUnchanged first last (λ answer. Relays to limits first request bytes answer last)

-- what a request with a body in this form is answered
abbrev pub RelaysForm : Form → Limits → Form → List ℕ → Bool → RelayState → List ℕ → RelayState → Type 0
RelaysForm to limits from body close first answer last =
    (verdict : Verdict) × IsVerdict from to limits body verdict × AnswersVerdict (TakesOffer to) to limits from close verdict first answer last

-- a list grew by a text of these
abbrev pub Grows : List ℕ → List ℕ → (List ℕ → Type 0) → Type 0
Grows old new Answered = (answer : List ℕ) × Answered answer × (new ≡ old ++ answer)

-- the answer to a request with a body in this form was appended
abbrev pub AppendsForm : Form → Limits → Form → List ℕ → Bool → RelayState → RelayState → List ℕ → List ℕ → Type 0
AppendsForm to limits from body close first last old new =
    Grows old new (λ answer. RelaysForm to limits from body close first answer last)

-- memory was wanted as such a request was answered
abbrev pub HaltsForm : Form → Limits → Form → List ℕ → Bool → RelayState → RelayState → Type 0
HaltsForm to limits from body close first last =
    OrUnchanged first last (λ answer. RelaysForm to limits from body close first answer last)

-- the answer to a good request, of which this is the text in the target form, was appended
abbrev pub AppendsOffer : Form → Form → Bool → RelayState → RelayState → List ℕ → List ℕ → List ℕ → Type 0
AppendsOffer to from close first last text old new =
    Grows old new (λ answer. AnswersOffer (TakesOffer to) from close first text answer last)

-- memory was wanted as such a good request was answered
abbrev pub HaltsOffer : Form → Form → Bool → RelayState → RelayState → List ℕ → Type 0
HaltsOffer to from close first last text =
    OrUnchanged first last (λ answer. AnswersOffer (TakesOffer to) from close first text answer last)

-- a list is a front of itself, and a front of a front is one
pub none_behind : (a : List Bool) → IsFrontOf a a
none_behind a = ([], sym (append-nil a))

-- a front of a front is a front of the whole
pub front_then : (a b c : List Bool) → IsFrontOf a b → IsFrontOf b c → IsFrontOf a c
front_then a b c p q = (p.0 ++ q.0, q.1 ∙ ap (λ (l : List Bool). l ++ q.0) p.1 ∙ append_assoc a p.0 q.0)
