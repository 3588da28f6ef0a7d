-- The message of a datagram, or its first cause.
use Rattle.std.proofs.Common.{◌≡◌, ◌≢◌, ◌↔◌, inl, inr, ℕ, pos, Bool, true, List, Result, Ok, Err, ap, sym, ◌∙◌, subst}
use Rattle.std.specs.Borrow.{Bor}
use Rattle.span_io.specs.declared.cause.Cause.{Cause}
use Rattle.thrift_core.specs.Parts.{Part, Spelling}
use Rattle.thrift_core.specs.Protocols.{ReadsExactly, PartLaws}
use Rattle.thrift_core.specs.Reading.{ReadingOf}
use Rattle.thrift_core.specs.Values.{AnswersRefusals}
use Rattle.span_agent.specs.Arguments.{Argument, ArgumentsThen, argument_texts, RefusedArguments, WhyNone, batches_of}
use Rattle.span_agent.specs.Headers.{HeaderThen, emit_batch}
use Rattle.span_agent.specs.Messages.{told_by, TellsBatch, TellsBatchIn, TellsBehind, HasHeader, HasCause, IsMessage}
use Rattle.span_agent.specs.private.Arguments.{SaysBatch}
use Rattle.span_agent.specs.declared.message.AgentCause.{AgentCause}
use Rattle.span_agent.specs.declared.message.AgentCause.TheVariants as causes
use Rattle.span_agent.proofs.ArgumentLemmas.{answers_why, no_why, one_arguments, passed_arguments}

one_said : (result : Result (Bor (List ℕ)) AgentCause) (a b : Result (List ℕ) AgentCause) → SaysBatch result a → SaysBatch result b → a ≡ b
one_said (Ok lent) a b h g = h ∙ sym g
one_said (Err cause) a b h g = h ∙ sym g

module _ (Spells : Spelling) (reads : ReadingOf) (ThenVarint : Part → List ℕ → Type 0) (Refuses : Part → Cause → List ℕ → Type 0) (R : ReadsExactly Spells reads ThenVarint Refuses) (L : PartLaws Spells ThenVarint Refuses) where
  -- arguments stand at the front
  pub says_standing : (arguments : List Argument) (bytes behind : List ℕ) (result : Result (Bor (List ℕ)) AgentCause)
      → ArgumentsThen Spells (pos 0) arguments bytes behind → SaysBatch result (told_by (batches_of arguments) behind)
      → (told : Result (List ℕ) AgentCause) → TellsBatch Spells ThenVarint Refuses bytes told ↔ SaysBatch result told
  says_standing arguments bytes behind result stand said told = (there, back)
    where
      there : TellsBatch Spells ThenVarint Refuses bytes told → SaysBatch result told
      there (inl h) =
          let same = one_arguments Spells reads ThenVarint Refuses R L arguments h.arguments (pos 0) bytes behind h.behind stand h.stand in
          subst (λ t. SaysBatch result t) (ap (λ l. told_by (batches_of l) behind) same.0 ∙ ap (λ l. told_by (batches_of h.arguments) l) same.1 ∙ sym h.told_is) said
      there (inr h) = absurd (no_why (argument_texts Spells ThenVarint) (RefusedArguments Spells Refuses) true bytes
          (passed_arguments Spells reads ThenVarint Refuses R L true arguments bytes behind stand) h.cause h.why)

      back : SaysBatch result told → TellsBatch Spells ThenVarint Refuses bytes told
      back h = inl (record { arguments = arguments; behind = behind; stand = stand; told_is = one_said result told (told_by (batches_of arguments) behind) h said })

  -- none do
  pub says_refused : {A : Type 0} (answer : Result A Cause) (bytes : List ℕ) (cause : Cause)
      → AnswersRefusals (argument_texts Spells ThenVarint) (RefusedArguments Spells Refuses) answer bytes → answer ≡ Err cause
      → (told : Result (List ℕ) AgentCause) → TellsBatch Spells ThenVarint Refuses bytes told ↔ (told ≡ Err (causes.Reading cause))
  says_refused {A} answer bytes cause refused e told = (there, back)
    where
      why : WhyNone (argument_texts Spells ThenVarint) (RefusedArguments Spells Refuses) cause bytes
      why = (answers_why (argument_texts Spells ThenVarint) (RefusedArguments Spells Refuses) answer bytes refused cause).0 e

      there : TellsBatch Spells ThenVarint Refuses bytes told → told ≡ Err (causes.Reading cause)
      there (inl h) = absurd (no_why (argument_texts Spells ThenVarint) (RefusedArguments Spells Refuses) true bytes
          (passed_arguments Spells reads ThenVarint Refuses R L true h.arguments bytes h.behind h.stand) cause why)
      there (inr h) =
          let other : answer ≡ Err h.cause = (answers_why (argument_texts Spells ThenVarint) (RefusedArguments Spells Refuses) answer bytes refused h.cause).1 h.why in
          let both : ◌≡◌ {A = Result A Cause} (Err h.cause) (Err cause) = sym other ∙ e in
          let same : h.cause ≡ cause = cc in
          h.told_is ∙ ap (λ x. Err (causes.Reading x)) same

      back : told ≡ Err (causes.Reading cause) → TellsBatch Spells ThenVarint Refuses bytes told
      back h = inr (record { cause = cause; why = why; told_is = h })

-- ---- headers

-- every header of the datagram is this one
abbrev pub OneHeader : List ℕ → Bool → List ℕ → List ℕ → Type 0
OneHeader datagram compact name bytes = (other : Bool) (others rest : List ℕ) → HeaderThen other others datagram rest
    → (compact ≡ other) × (name ≡ others) × (bytes ≡ rest)

behind_it : (datagram : List ℕ) (compact : Bool) (name bytes : List ℕ) → OneHeader datagram compact name bytes → (other : Bool)
    (told : Result (List ℕ) AgentCause) → HasHeader datagram other told → (compact ≡ other) × TellsBehind compact name bytes told
behind_it datagram compact name bytes one other told h =
    let same = one other h.name h.bytes h.header in (
      same.0,
      subst (λ b. TellsBehind b name bytes told) (sym same.0) (subst (λ n. TellsBehind other n bytes told) (sym same.1)
          (subst (λ l. TellsBehind other h.name l told) (sym same.2) h.tells)),
    )

-- by the name
named : (compact : Bool) (name bytes : List ℕ) (told : Result (List ℕ) AgentCause) → name ≡ emit_batch → TellsBehind compact name bytes told
    → TellsBatchIn compact bytes told
named compact name bytes told e (inl h) = h.1
named compact name bytes told e (inr h) = absurd (h.0 e)

other_name : (compact : Bool) (name bytes : List ℕ) (told : Result (List ℕ) AgentCause) → name ≢ emit_batch → TellsBehind compact name bytes told
    → told ≡ Err causes.BadName
other_name compact name bytes told e (inl h) = absurd (e h.0)
other_name compact name bytes told e (inr h) = h.1

never_ok : (cause : AgentCause) (batch : List ℕ) → ◌≡◌ {A = Result (List ℕ) AgentCause} (Ok batch) (Err cause) → ⊥
never_ok cause batch e = cc

same_err : {A : Type 0} (a b : AgentCause) → ◌≡◌ {A = Result (List ℕ) AgentCause} (Err b) (Err a) → ◌≡◌ {A = Result A AgentCause} (Err a) (Err b)
same_err a b e = (let same : b ≡ a = cc in ap (λ x. Err x) (sym same))

same_cause : {A : Type 0} (a b : AgentCause) → ◌≡◌ {A = Result A AgentCause} (Err a) (Err b) → ◌≡◌ {A = Result (List ℕ) AgentCause} (Err b) (Err a)
same_cause a b e = (let same : a ≡ b = cc in ap (λ x. Err x) (sym same))

-- ---- what is answered, with no header

pub no_header_message : (datagram : List ℕ) → ((compact : Bool) (name bytes : List ℕ) → HeaderThen compact name datagram bytes → ⊥)
    → (compact : Bool) (batch : List ℕ) → IsMessage datagram compact batch → ⊥
no_header_message datagram none compact batch h = none compact h.name h.bytes h.header

pub no_header_cause : {A : Type 0} (datagram : List ℕ) → ((compact : Bool) (name bytes : List ℕ) → HeaderThen compact name datagram bytes → ⊥)
    → (cause : AgentCause) → (◌≡◌ {A = Result A AgentCause} (Err causes.BadMessage) (Err cause)) ↔ HasCause datagram cause
no_header_cause {A} datagram none cause = (
  λ e. inr (record { none = none; told_is = same_cause causes.BadMessage cause e }),
  λ h. of_cause h,
)
  where
    of_cause : HasCause datagram cause → ◌≡◌ {A = Result A AgentCause} (Err causes.BadMessage) (Err cause)
    of_cause (inl h) = absurd (none h.0 h.1.name h.1.bytes h.1.header)
    of_cause (inr h) = same_err causes.BadMessage cause h.told_is

-- ---- with another name

pub other_name_message : (datagram : List ℕ) (compact : Bool) (name bytes : List ℕ) → OneHeader datagram compact name bytes → name ≢ emit_batch
    → (other : Bool) (batch : List ℕ) → IsMessage datagram other batch → ⊥
other_name_message datagram compact name bytes one e other batch h =
    never_ok causes.BadName batch (other_name compact name bytes (Ok batch) e (behind_it datagram compact name bytes one other (Ok batch) h).1)

pub other_name_cause : {A : Type 0} (datagram : List ℕ) (compact : Bool) (name bytes : List ℕ) → HeaderThen compact name datagram bytes
    → OneHeader datagram compact name bytes → name ≢ emit_batch
    → (cause : AgentCause) → (◌≡◌ {A = Result A AgentCause} (Err causes.BadName) (Err cause)) ↔ HasCause datagram cause
other_name_cause {A} datagram compact name bytes header one e cause = (
  λ same. inl (compact, record { name = name; bytes = bytes; header = header; tells = inr (e, same_cause causes.BadName cause same) }),
  λ h. of_cause h,
)
  where
    of_cause : HasCause datagram cause → ◌≡◌ {A = Result A AgentCause} (Err causes.BadName) (Err cause)
    of_cause (inl h) = same_err causes.BadName cause (other_name compact name bytes (Err cause) e (behind_it datagram compact name bytes one h.0 (Err cause) h.1).1)
    of_cause (inr h) = absurd (h.none compact name bytes header)

-- ---- with this name

module _ (datagram : List ℕ) (compact : Bool) (name bytes : List ℕ) (header : HeaderThen compact name datagram bytes) (one : OneHeader datagram compact name bytes) (e : name ≡ emit_batch)
    (result : Result (Bor (List ℕ)) AgentCause) (says : (told : Result (List ℕ) AgentCause) → TellsBatchIn compact bytes told ↔ SaysBatch result told) where
  has_header : (told : Result (List ℕ) AgentCause) → SaysBatch result told → HasHeader datagram compact told
  has_header told h = record { name = name; bytes = bytes; header = header; tells = inl (e, (says told).1 h) }

  said : (other : Bool) (told : Result (List ℕ) AgentCause) → HasHeader datagram other told → (compact ≡ other) × SaysBatch result told
  said other told h =
      let behind = behind_it datagram compact name bytes one other told h in
      (behind.0, (says told).0 (named compact name bytes told e behind.1))

  pub found_message : (lent : Bor (List ℕ)) → result ≡ Ok lent → (other : Bool) (batch : List ℕ)
      → ((compact ≡ other) × (lent.now ≡ batch)) ↔ IsMessage datagram other batch
  found_message lent is other batch = (
    λ h. subst (λ b. HasHeader datagram b (Ok batch)) h.0
        (has_header (Ok batch) (subst (λ r. SaysBatch r (Ok batch)) (sym is) (ap (λ l. Ok l) (sym h.1)))),
    λ h. back h,
  )
    where
      back : IsMessage datagram other batch → (compact ≡ other) × (lent.now ≡ batch)
      back h =
          let all = said other (Ok batch) h in
          let same : ◌≡◌ {A = Result (List ℕ) AgentCause} (Ok batch) (Ok lent.now) = subst (λ r. SaysBatch r (Ok batch)) is all.1 in
          let text : batch ≡ lent.now = cc in
          (all.0, sym text)

  pub found_no_cause : (lent : Bor (List ℕ)) → result ≡ Ok lent → (cause : AgentCause) → HasCause datagram cause → ⊥
  found_no_cause lent is cause (inl h) =
      (let same : ◌≡◌ {A = Result (List ℕ) AgentCause} (Err cause) (Ok lent.now) = subst (λ r. SaysBatch r (Err cause)) is (said h.0 (Err cause) h.1).1 in cc)
  found_no_cause lent is cause (inr h) = h.none compact name bytes header

  pub refused_no_message : (why : AgentCause) → result ≡ Err why → (other : Bool) (batch : List ℕ) → IsMessage datagram other batch → ⊥
  refused_no_message why is other batch h =
      never_ok why batch (subst (λ r. SaysBatch r (Ok batch)) is (said other (Ok batch) h).1)

  pub refused_cause : {A : Type 0} (why : AgentCause) → result ≡ Err why → (cause : AgentCause)
      → (◌≡◌ {A = Result A AgentCause} (Err why) (Err cause)) ↔ HasCause datagram cause
  refused_cause {A} why is cause = (
    λ same. inl (compact, has_header (Err cause) (subst (λ r. SaysBatch r (Err cause)) (sym is) (same_cause why cause same))),
    λ h. of_cause h,
  )
    where
      of_cause : HasCause datagram cause → ◌≡◌ {A = Result A AgentCause} (Err why) (Err cause)
      of_cause (inl h) = same_err why cause (subst (λ r. SaysBatch r (Err cause)) is (said h.0 (Err cause) h.1).1)
      of_cause (inr h) = absurd (h.none compact name bytes header)
