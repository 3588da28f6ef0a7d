-- A walk halts at one place, for one cause, and a cause other than Truncated stays whatever follows.
use Rattle.std.proofs.Common.{◌≡◌, ◌≢◌, ◌≤◌, ◌<◌, ◌+◌, ◌-◌, ◌++◌, ◌∷◌, ◌⊎◌, inl, inr, ℕ, List, [], length, Ok, Err, refl, ap, sym, ◌∙◌, subst, arith}
use Rattle.std.proofs.lemmas.List.{append_assoc, length-append}
use Rattle.span_io.specs.declared.cause.Cause.{Cause}
use Rattle.span_io.specs.declared.cause.Cause.TheVariants as causes
use Rattle.span_io.specs.Frames.{IsRefusedAt}
use Rattle.thrift_core.specs.Parts.{Part, WordOf, Spelling, Begins, texts_of}
use Rattle.thrift_core.specs.Reading.{ReadingOf}
use Rattle.thrift_core.specs.Protocols.{ReadsExactly}
use Rattle.thrift_core.specs.Walks.{Open, in_bytes, First, a_part, some_bytes, made_of, no_level, first_of, Turn, Passes, EndsPast}
use Rattle.thrift_core.specs.Stops.{StopsBy, StopsFor, Lacks}
use Rattle.thrift_core.proofs.Determined.{Stuck, passes_more, one_place, not_ended}

pub is_truncated : (cause : Cause) → (cause ≡ causes.Truncated) ⊎ (cause ≢ causes.Truncated)
is_truncated causes.Truncated = inl refl
is_truncated other = inr (λ e. cc)

-- a cause of a part stays
pub refused_more : (Spells : Spelling) (ThenVarint : Part → List ℕ → Type 0) (part : Part) (K : List ℕ → Type 0) (bytes more : List ℕ) → IsRefusedAt (texts_of Spells ThenVarint part) K bytes → IsRefusedAt (texts_of Spells ThenVarint part) K (bytes ++ more)
refused_more Spells ThenVarint part K bytes more h = record {
  front = h.front;
  shortest = record {
    refused = h.shortest.refused;
    rest = h.shortest.rest ++ more;
    parts = ap (λ l. l ++ more) h.shortest.parts ∙ append_assoc h.front h.shortest.rest more;
    least = h.shortest.least;
  };
  ends_in = h.ends_in;
}

module _ (Spells : Spelling) where
  -- a binary whose bytes aren't all there
  pub lacks_stuck : (held many : ℕ) (text : List ℕ) → held ≡ length text + many → 1 ≤ many → Stuck Spells (in_bytes held) text
  lacks_stuck held many text e some opened rest h = omega (arith, e, some, ap length h.1, length-append h.0 rest, h.2)

  -- a length past the limit, within it, lacks bytes
  pub past_lacks : (start : Open) (limit : ℕ) (text : List ℕ) → length text ≤ limit → (h : EndsPast Spells start limit text) → Lacks Spells start text (h.many - length h.rest)
  past_lacks start limit text within h = record {
    held = h.many;
    below = h.below;
    rest = h.rest;
    passes = h.passes;
    missing = omega (arith, within, h.beyond);
    some = omega (arith, within, h.beyond);
  }

  pub lacks_past : (start : Open) (limit many : ℕ) (text : List ℕ) → Lacks Spells start text many → limit < length text + many → EndsPast Spells start limit text
  lacks_past start limit many text h beyond = record { many = h.held; below = h.below; rest = h.rest; passes = h.passes; beyond = omega (arith, beyond, h.missing) }

module _ (Spells : Spelling) (reads : ReadingOf) (ThenVarint : Part → List ℕ → Type 0) (Refuses : Part → Cause → List ℕ → Type 0) (R : ReadsExactly Spells reads ThenVarint Refuses) where
  read_err : (part : Part) (text : List ℕ) (cause : Cause) (word : WordOf part) (rest : List ℕ) → reads part text ≡ Err cause → Begins Spells part word text rest → ⊥
  read_err part text cause word rest e h = let found : reads part text ≡ Ok (word, rest) = R.only part word text rest h in cc

  stopped_first : (first : First) (text : List ℕ) (cause : Cause) → StopsBy reads first text cause → (opened : List Open) (rest : List ℕ) → Turn Spells first text opened rest → ⊥
  stopped_first (a_part part opens) text cause e opened rest h = read_err part text cause h.0 rest e h.1
  stopped_first (some_bytes many) text cause e opened rest h = absurd e
  stopped_first (made_of opens) text cause e opened rest h = absurd e
  stopped_first no_level text cause e opened rest h = absurd h

  pub stop_stuck : (top : Open) (text : List ℕ) (cause : Cause) → StopsBy reads (first_of top) text cause → Stuck Spells top text
  stop_stuck top text cause e = stopped_first (first_of top) text cause e

  one_stop : (first : First) (text : List ℕ) (a b : Cause) → StopsBy reads first text a → StopsBy reads first text b → a ≡ b
  one_stop (a_part part opens) text a b e f = cc
  one_stop (some_bytes many) text a b e f = absurd e
  one_stop (made_of opens) text a b e f = absurd e
  one_stop no_level text a b e f = e ∙ sym f

  -- a cause other than Truncated stays
  pub stays_by : (first : First) (text more : List ℕ) (cause : Cause) → cause ≢ causes.Truncated → StopsBy reads first text cause → StopsBy reads first (text ++ more) cause
  stays_by (a_part part opens) text more cause other e = (R.bad part (text ++ more) cause other).1 (refused_more Spells ThenVarint part (Refuses part cause) text more ((R.bad part text cause other).0 e))
  stays_by (some_bytes many) text more cause other e = absurd e
  stays_by (made_of opens) text more cause other e = absurd e
  stays_by no_level text more cause other e = e

  no_limit : (first : First) (text : List ℕ) → StopsBy reads first text causes.UnitTooLong → ⊥
  no_limit (a_part part opens) text e = elim (R.refused_for part text causes.UnitTooLong e) [
    | inl short ↦ cc
    | inr refuses ↦ absurd (omega (arith, refuses))
  ]
  no_limit (some_bytes many) text e = absurd e
  no_limit (made_of opens) text e = absurd e
  no_limit no_level text e = cc

  module _ (start : Open) where
    pub stop_stays : (text more : List ℕ) (cause : Cause) → cause ≢ causes.Truncated → StopsFor Spells reads start text cause → StopsFor Spells reads start (text ++ more) cause
    stop_stays text more cause other h = record {
      top = h.top;
      below = h.below;
      rest = h.rest ++ more;
      passes = passes_more Spells (start ∷ []) text (h.top ∷ h.below) h.rest more h.passes;
      stops = stays_by (first_of h.top) h.rest more cause other h.stops;
    }

    -- no stop is for the length of the unit
    pub stop_not_long : (text : List ℕ) (cause : Cause) → StopsFor Spells reads start text cause → cause ≢ causes.UnitTooLong
    stop_not_long text cause h e = no_limit (first_of h.top) h.rest (subst (λ c. StopsBy reads (first_of h.top) h.rest c) e h.stops)

    pub stop_place : (text : List ℕ) (a b : Cause) (h : StopsFor Spells reads start text a) (g : StopsFor Spells reads start text b) → (h.top ≡ g.top) × (h.rest ≡ g.rest)
    stop_place text a b h g = one_place Spells reads ThenVarint Refuses R (start ∷ []) text h.top h.below h.rest g.top g.below g.rest (stop_stuck h.top h.rest a h.stops) (stop_stuck g.top g.rest b g.stops) h.passes g.passes

    -- what a walk says where it halts is the only thing that it says
    pub stop_once : (text : List ℕ) (a b : Cause) → StopsFor Spells reads start text a → StopsFor Spells reads start text b → a ≡ b
    stop_once text a b h g =
        let same = stop_place text a b h g in
        one_stop (first_of g.top) g.rest a b (subst (λ t. StopsBy reads (first_of t) g.rest a) same.0 (subst (λ l. StopsBy reads (first_of h.top) l a) same.1 h.stops)) g.stops

    pub stop_or_lack : (text : List ℕ) (cause : Cause) (many : ℕ) → StopsFor Spells reads start text cause → Lacks Spells start text many → ⊥
    stop_or_lack text cause many h g =
        let same = one_place Spells reads ThenVarint Refuses R (start ∷ []) text h.top h.below h.rest (in_bytes g.held) g.below g.rest (stop_stuck h.top h.rest cause h.stops) (lacks_stuck Spells g.held many g.rest g.missing g.some) h.passes g.passes in
        subst (λ t. StopsBy reads (first_of t) h.rest cause) same.0 h.stops

    pub lack_once : (text : List ℕ) (many others : ℕ) → Lacks Spells start text many → Lacks Spells start text others → many ≡ others
    lack_once text many others h g =
        let same = one_place Spells reads ThenVarint Refuses R (start ∷ []) text (in_bytes h.held) h.below h.rest (in_bytes g.held) g.below g.rest
        (lacks_stuck Spells h.held many h.rest h.missing h.some) (lacks_stuck Spells g.held others g.rest g.missing g.some) h.passes g.passes in
        let is : in_bytes h.held ≡ in_bytes g.held = same.0 in
        let held : h.held ≡ g.held = cc in
        omega (arith, held, ap length same.1, h.missing, g.missing)

    pub stop_not_whole : (text : List ℕ) (cause : Cause) (rest : List ℕ) → StopsFor Spells reads start text cause → Passes Spells (start ∷ []) text [] rest → ⊥
    stop_not_whole text cause rest h g = not_ended Spells reads ThenVarint Refuses R (start ∷ []) text h.top h.below h.rest rest (stop_stuck h.top h.rest cause h.stops) h.passes g

    pub lack_not_whole : (text : List ℕ) (many : ℕ) (rest : List ℕ) → Lacks Spells start text many → Passes Spells (start ∷ []) text [] rest → ⊥
    lack_not_whole text many rest h g = not_ended Spells reads ThenVarint Refuses R (start ∷ []) text (in_bytes h.held) h.below h.rest rest (lacks_stuck Spells h.held many h.rest h.missing h.some) h.passes g
