-- What callers are told of a value follows from what a walk over it answers.
use Rattle.std.proofs.Common.{◌≡◌, ◌≢◌, ◌<◌, ◌++◌, ◌∷◌, inl, inr, ℕ, Bool, Option, List, [], length, take, drop, Result, Ok, Err, ap, sym, ◌∙◌, subst, arith}
use Rattle.std.proofs.lemmas.List.{append-nil, length-append}
use Rattle.std.proofs.Math.Seq.{take-append_seam, drop-append_seam}
use Rattle.span_io.specs.declared.cause.Cause.{Cause}
use Rattle.span_io.specs.declared.cause.Cause.TheVariants as causes
use Rattle.span_io.proofs.Cuts.{two_cuts}
use Rattle.span_io.specs.Frames.{Framing, IsOpen, IsRefused, IsRefusedAt}
use Rattle.span_io.proofs.FramingLaws.{FrontsAreOpen, open_front}
use Rattle.thrift_core.specs.declared.passing.Halted.{Halted}
use Rattle.thrift_core.specs.declared.passing.Halted.TheVariants as halts
use Rattle.thrift_core.specs.declared.type_code.TypeCode.{TypeCode}
use Rattle.thrift_core.specs.Parts.{Part, size, Spelling}
use Rattle.thrift_core.specs.Reading.{ReadingOf}
use Rattle.thrift_core.specs.Protocols.{ReadsExactly, PartLaws}
use Rattle.thrift_core.specs.Trees.{BinaryThen}
use Rattle.thrift_core.specs.Walks.{Open, in_value, Passes, texts_from, RefusedFrom}
use Rattle.thrift_core.specs.Stops.{StopsFor}
use Rattle.thrift_core.specs.private.Halting.{HaltsAs, cause_of}
use Rattle.thrift_core.specs.Values.{AnswersRefusals, BeginsValue}
use Rattle.thrift_core.proofs.Determined.{one_word, one_end}
use Rattle.thrift_core.proofs.Halts.{is_truncated, stop_not_whole, lack_not_whole}
use Rattle.thrift_core.proofs.Stopping.{IsSound}
use Rattle.thrift_core.proofs.Meanings.{value_on, value_whole}
use Rattle.thrift_core.proofs.TextsFrom.{end_is, truncated_is, stop_is, never_long, lacks_is, open_halts, fronts_open, one_kind}

-- ---- one of three

-- one front is of both kinds
record OneFront (F : Framing) (J M : List ℕ → Type 0) : Type 0 where
  front : List ℕ
  refused : IsRefused F front
  first : J front
  second : M front

module _ (F : Framing) (fronts : FrontsAreOpen F) where
  open_not_refused : (J : List ℕ → Type 0) (text : List ℕ) → IsOpen F text → IsRefusedAt F J text → ⊥
  open_not_refused J text may_come r = r.shortest.refused.closed (open_front F fronts r.front r.shortest.rest (subst (λ l. IsOpen F l) r.shortest.parts may_come))

  refused_item : (front item between : List ℕ) → IsRefused F front → F.Whole item → item ≡ front ++ between → ⊥
  refused_item front item [] refused whole e =
      refused.none (record { text = item; rest = []; whole = whole; parts = sym (append-nil item ∙ e ∙ append-nil front) })
  refused_item front item (b ∷ between) refused whole e = refused.closed (fronts front (b ∷ between) (subst F.Whole e whole) (λ none. cc))

  begun_not_refused : (J : List ℕ → Type 0) (text item rest : List ℕ) → F.Whole item → text ≡ item ++ rest → IsRefusedAt F J text → ⊥
  begun_not_refused J text item rest whole e r = elim (two_cuts r.front r.shortest.rest item rest (sym r.shortest.parts ∙ e)) [
    | inl w ↦ refused_item r.front item w.between r.shortest.refused whole w.front
    | inr w ↦ r.shortest.refused.none (record { text = item; rest = w.between; whole = whole; parts = w.front })
  ]

  one_front : (J M : List ℕ → Type 0) (text : List ℕ) → IsRefusedAt F J text → IsRefusedAt F M text → OneFront F J M
  one_front J M text h g = elim (two_cuts h.front h.shortest.rest g.front g.shortest.rest (sym h.shortest.parts ∙ g.shortest.parts)) [
    | inl w ↦ shorter w.between w.front
    | inr w ↦ longer w.between w.front
  ]
    where
      shorter : (between : List ℕ) → g.front ≡ h.front ++ between → OneFront F J M
      shorter [] e = record { front = h.front; refused = h.shortest.refused; first = h.ends_in; second = subst M (e ∙ append-nil h.front) g.ends_in }
      shorter (b ∷ between) e = absurd (g.shortest.least h.front (b ∷ between) e (λ none. cc) h.shortest.refused)

      longer : (between : List ℕ) → h.front ≡ g.front ++ between → OneFront F J M
      longer [] e = record { front = g.front; refused = g.shortest.refused; first = subst J (e ∙ append-nil g.front) h.ends_in; second = g.ends_in }
      longer (b ∷ between) e = absurd (h.shortest.least g.front (b ∷ between) e (λ none. cc) g.shortest.refused)

module _ (F : Framing) (fronts : FrontsAreOpen F) (K : Cause → List ℕ → Type 0) (one_kind : (front : List ℕ) (a b : Cause) → IsRefused F front → K a front → K b front → a ≡ b) where
  open_answers : {A : Type 0} (cause : Cause) (text : List ℕ) → cause ≡ causes.Truncated → IsOpen F text → AnswersRefusals {A = A} F K (Err cause) text
  open_answers cause text e may_come = record {
    short = (λ _. may_come, λ _. ap (λ c. Err c) e);
    bad = λ other is_other. (λ same. absurd (is_other cc), λ refused. absurd (open_not_refused F fronts (K other) text may_come refused));
    within = λ long. cc;
  }

  refused_answers : {A : Type 0} (cause : Cause) (text : List ℕ) → cause ≢ causes.Truncated → cause ≢ causes.UnitTooLong → IsRefusedAt F (K cause) text → AnswersRefusals {A = A} F K (Err cause) text
  refused_answers cause text is_other not_long refused = record {
    short = (λ same. absurd (is_other cc), λ may_come. absurd (open_not_refused F fronts (K cause) text may_come refused));
    bad = λ other _. (
      λ same. (let e : cause ≡ other = cc in subst (λ c. IsRefusedAt F (K c) text) e refused),
      λ so. (let both = one_front F fronts (K cause) (K other) text refused so in ap (λ c. Err c) (one_kind both.front cause other both.refused both.first both.second)),
    );
    within = λ long. not_long cc;
  }

  begun_answers : {A : Type 0} (value : A) (text item rest : List ℕ) → (IsOpen F text → ⊥) → F.Whole item → text ≡ item ++ rest → AnswersRefusals {A = A} F K (Ok value) text
  begun_answers value text item rest not_open whole e = record {
    short = (λ same. absurd cc, λ may_come. absurd (not_open may_come));
    bad = λ other _. (λ same. absurd cc, λ refused. absurd (begun_not_refused F fronts (K other) text item rest whole e refused));
    within = λ long. cc;
  }

-- ---- what passing over it answers

module _ (Spells : Spelling) (reads : ReadingOf) (ThenVarint : Part → List ℕ → Type 0) (Refuses : Part → Cause → List ℕ → Type 0) (R : ReadsExactly Spells reads ThenVarint Refuses) (L : PartLaws Spells ThenVarint Refuses) where
  module _ (start : Open) (sound : IsSound start) where
    one_cause : (front : List ℕ) (a b : Cause) → IsRefused (texts_from Spells ThenVarint start) front → RefusedFrom Spells Refuses start a front → RefusedFrom Spells Refuses start b front → a ≡ b
    one_cause front a b refused h g = one_kind Spells reads ThenVarint Refuses R L start front a b sound refused h g

    fronts : FrontsAreOpen (texts_from Spells ThenVarint start)
    fronts = fronts_open Spells reads ThenVarint Refuses R L start sound

    not_open : (text rest : List ℕ) → Passes Spells (start ∷ []) text [] rest → IsOpen (texts_from Spells ThenVarint start) text → ⊥
    not_open text rest h may_come = elim (open_halts Spells reads ThenVarint Refuses R L start text may_come) [
      | inl stop ↦ stop_not_whole Spells reads ThenVarint Refuses R start text causes.Truncated rest stop h
      | inr lack ↦ lack_not_whole Spells reads ThenVarint Refuses R start text lack.0 rest lack.1 h
    ]

    pub passed_answers : {A : Type 0} (value : A) (text rest : List ℕ) → Passes Spells (start ∷ []) text [] rest → AnswersRefusals {A = A} (texts_from Spells ThenVarint start) (RefusedFrom Spells Refuses start) (Ok value) text
    passed_answers value text rest h =
        let front = end_is Spells reads ThenVarint Refuses R L start text rest h in
        begun_answers (texts_from Spells ThenVarint start) fronts (RefusedFrom Spells Refuses start) one_cause value text front.0 rest (not_open text rest h) front.1 front.2

    pub halted_answers : {A : Type 0} (halted : Halted) (cause : Cause) (text : List ℕ) → HaltsAs Spells reads start text halted → cause ≡ cause_of halted
        → AnswersRefusals {A = A} (texts_from Spells ThenVarint start) (RefusedFrom Spells Refuses start) (Err cause) text
    halted_answers (halts.For why) cause text h is = elim (is_truncated why) [
      | inl e ↦ open_answers (texts_from Spells ThenVarint start) fronts (RefusedFrom Spells Refuses start) one_cause cause text (is ∙ e)
          (truncated_is Spells reads ThenVarint Refuses R L start text sound (subst (λ c. StopsFor Spells reads start text c) e h))
      | inr other ↦ refused_answers (texts_from Spells ThenVarint start) fronts (RefusedFrom Spells Refuses start) one_cause cause text (λ e. other (sym is ∙ e))
          (λ e. never_long Spells reads ThenVarint Refuses R L start text why h (sym is ∙ e))
          (subst (λ c. IsRefusedAt (texts_from Spells ThenVarint start) (RefusedFrom Spells Refuses start c) text) (sym is) (stop_is Spells reads ThenVarint Refuses R L start text why sound other h))
    ]
    halted_answers (halts.Lacking many) cause text h is =
        open_answers (texts_from Spells ThenVarint start) fronts (RefusedFrom Spells Refuses start) one_cause cause text is (lacks_is Spells reads ThenVarint Refuses R L start text many sound h)

  -- ---- values

  module _ (left : ℕ) (kind : TypeCode) (held : Option Bool) (text : List ℕ) where
    value_passes : (rest : List ℕ) → BeginsValue Spells left kind held text rest → Passes Spells (in_value left kind held ∷ []) text [] rest
    value_passes rest h = subst (λ k. Passes Spells (in_value left k held ∷ []) text [] rest) h.1 (value_on Spells h.0 left held text rest [] h.2)

    pub passed_value : (rest : List ℕ) → Passes Spells (in_value left kind held ∷ []) text [] rest → BeginsValue Spells left kind held text rest
    passed_value rest h = value_whole Spells ThenVarint Refuses L left kind held text rest h

    pub one_value : (rest other : List ℕ) → Passes Spells (in_value left kind held ∷ []) text [] rest → BeginsValue Spells left kind held text other → rest ≡ other
    one_value rest other h g = one_end Spells reads ThenVarint Refuses R (in_value left kind held ∷ []) text rest other h (value_passes other g)

    pub no_value : (halted : Halted) (other : List ℕ) → HaltsAs Spells reads (in_value left kind held) text halted → BeginsValue Spells left kind held text other → ⊥
    no_value (halts.For cause) other h g = stop_not_whole Spells reads ThenVarint Refuses R (in_value left kind held) text cause other h (value_passes other g)
    no_value (halts.Lacking many) other h g = lack_not_whole Spells reads ThenVarint Refuses R (in_value left kind held) text many other h (value_passes other g)

-- ---- the bytes of a binary

module _ (Spells : Spelling) (reads : ReadingOf) (ThenVarint : Part → List ℕ → Type 0) (Refuses : Part → Cause → List ℕ → Type 0) (R : ReadsExactly Spells reads ThenVarint Refuses) where
  module _ (n : ℕ) (held text behind rest : List ℕ) (e : reads size text ≡ Ok (n, behind)) (h : BinaryThen Spells held text rest) where
    same_size : (n ≡ length held) × (behind ≡ h.0)
    same_size = one_word Spells reads ThenVarint Refuses R size n (length held) text behind h.0 (R.found size n text behind e) h.1

    pub one_binary : (take n behind ≡ held) × (drop n behind ≡ rest)
    one_binary =
        let parts : behind ≡ held ++ rest = same_size.1 ∙ h.2 in (
          ap (λ k. take k behind) same_size.0 ∙ ap (λ l. take (length held) l) parts ∙ take-append_seam held rest,
          ap (λ k. drop k behind) same_size.0 ∙ ap (λ l. drop (length held) l) parts ∙ drop-append_seam held rest,
        )

    pub enough_bytes : length behind < n → ⊥
    enough_bytes few = omega (arith, few, same_size.0, ap length (same_size.1 ∙ h.2), length-append held rest)

  pub no_binary : (cause : Cause) (held text rest : List ℕ) → reads size text ≡ Err cause → BinaryThen Spells held text rest → ⊥
  no_binary cause held text rest e h = none (reads size text) e (R.only size (length held) text h.0 h.1)
    where
      none : (r : Result (ℕ × List ℕ) Cause) → r ≡ Err cause → r ≡ Ok (length held, h.0) → ⊥
      none r e f = cc
