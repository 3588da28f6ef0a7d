-- What refuses a part or a value within a text refuses the text around it, for the same cause.
use Rattle.std.proofs.Common.{◌≡◌, ◌∷◌, inl, inr, ℕ, List, [], Result, Ok, Err, refl, ap, sym, ◌∙◌, subst}
use Rattle.span_io.specs.declared.cause.Cause.{Cause}
use Rattle.span_io.specs.Frames.{Framing}
use Rattle.thrift_core.specs.declared.passing.Halted.{Halted}
use Rattle.thrift_core.specs.declared.passing.Halted.TheVariants as halts
use Rattle.thrift_core.specs.Parts.{Part, WordOf, Spelling}
use Rattle.thrift_core.specs.Reading.{ReadingOf}
use Rattle.thrift_core.specs.Protocols.{ReadsExactly, PartLaws}
use Rattle.thrift_core.specs.Walks.{Open, First, a_part, first_of, texts_from, RefusedFrom, Passes}
use Rattle.thrift_core.specs.Stops.{StopsBy}
use Rattle.thrift_core.specs.private.Halting.{HaltsAs, cause_of}
use Rattle.thrift_core.specs.Values.{AnswersRefusals}
use Rattle.thrift_core.proofs.Answering.{passed_answers, halted_answers}
use Rattle.thrift_core.proofs.Ends.{Fate, begins_whole, stops_for, lacks_some, fate}
use Rattle.thrift_core.proofs.Halts.{is_truncated}
use Rattle.thrift_core.proofs.Stopping.{IsSound}
use Rattle.thrift_core.proofs.WalkSteps.{halted_in}

-- ---- bytes have one answer

module _ (F : Framing) (EndsIn : Cause → List ℕ → Type 0) (bytes : List ℕ) where
  pub one_answer : {A B : Type 0} (result : Result A Cause) (cause : Cause) (other : Result B Cause) → result ≡ Err cause
      → AnswersRefusals F EndsIn result bytes → AnswersRefusals F EndsIn other bytes → other ≡ Err cause
  one_answer {A} {B} result cause other e a b = elim (is_truncated cause) as (λ x. other ≡ Err cause) [
    | inl short ↦ b.short.1 (a.short.0 (e ∙ ap (λ c. Err c) short)) ∙ sym (ap (λ c. Err c) short)
    | inr bad ↦ (b.bad cause bad).1 ((a.bad cause bad).0 e)
  ]

-- ---- what is refused within

module _ (Spells : Spelling) (reads : ReadingOf) (ThenVarint : Part → List ℕ → Type 0) (Refuses : Part → Cause → List ℕ → Type 0) (R : ReadsExactly Spells reads ThenVarint Refuses) (L : PartLaws Spells ThenVarint Refuses) where
  -- a text halts for the cause that is told of it
  record HaltsFor (start : Open) (text : List ℕ) (cause : Cause) : Type 0 where
    halted : Halted
    halts_as : HaltsAs Spells reads start text halted
    is : cause ≡ cause_of halted

  module _ (start : Open) (sound : IsSound start) where
    halts_for : {A : Type 0} (text : List ℕ) (result : Result A Cause) (cause : Cause) → result ≡ Err cause
        → AnswersRefusals (texts_from Spells ThenVarint start) (RefusedFrom Spells Refuses start) result text → HaltsFor start text cause
    halts_for {A} text result cause e a = of_fate (fate Spells reads ThenVarint Refuses R L start text)
      where
        halted_is : (halted : Halted) → HaltsAs Spells reads start text halted → HaltsFor start text cause
        halted_is halted h =
            let other : Result A Cause = Err (cause_of halted) in
            let same : other ≡ Err cause = one_answer (texts_from Spells ThenVarint start) (RefusedFrom Spells Refuses start) text result cause other e a
            (halted_answers Spells reads ThenVarint Refuses R L start sound halted (cause_of halted) text h refl) in
            record { halted = halted; halts_as = h; is = cc }

        of_fate : Fate Spells reads start text → HaltsFor start text cause
        of_fate (begins_whole rest h) =
            let value : Result Unit Cause = Ok tt in
            let never : value ≡ Err cause = one_answer (texts_from Spells ThenVarint start) (RefusedFrom Spells Refuses start) text result cause value e a
            (passed_answers Spells reads ThenVarint Refuses R L start sound tt text rest h) in
            absurd (cc)
        of_fate (stops_for why h) = halted_is (halts.For why) h
        of_fate (lacks_some many h) = halted_is (halts.Lacking many) h

  module _ (start : Open) (sound : IsSound start) (top : Open) (below : List Open) (whole between : List ℕ) (passes : Passes Spells (start ∷ []) whole (top ∷ below) between) where
    -- A part that comes next is refused.
    pub part_refused : {A : Type 0} (part : Part) (opens : WordOf part → List Open) (cause : Cause) → first_of top ≡ a_part part opens → reads part between ≡ Err cause
        → AnswersRefusals {A = A} (texts_from Spells ThenVarint start) (RefusedFrom Spells Refuses start) (Err cause) whole
    part_refused part opens cause first e =
        halted_answers Spells reads ThenVarint Refuses R L start sound (halts.For cause) cause whole
        (record { top = top; below = below; rest = between; passes = passes; stops = subst (λ (f : First). StopsBy reads f between cause) (sym first) e }) refl

    -- What comes next is refused.
    pub next_refused : {A B : Type 0} (result : Result A Cause) (cause : Cause) → IsSound top → result ≡ Err cause
        → AnswersRefusals (texts_from Spells ThenVarint top) (RefusedFrom Spells Refuses top) result between
        → AnswersRefusals {A = B} (texts_from Spells ThenVarint start) (RefusedFrom Spells Refuses start) (Err cause) whole
    next_refused result cause top_sound e a =
        let h = halts_for top top_sound between result cause e a in
        halted_answers Spells reads ThenVarint Refuses R L start sound h.halted cause whole
        (halted_in Spells reads start top below whole between whole h.halted (Err h.halted) passes h.halts_as refl) h.is
