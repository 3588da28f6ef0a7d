-- What a walk says of the texts of a struct or value, and that these keep what a wire format must.
use Rattle.std.proofs.Common.{◌≡◌, ◌≢◌, ◌≤◌, ◌<◌, ◌+◌, ◌-◌, ◌++◌, ◌∷◌, ◌⊎◌, ◌↔◌, inl, inr, ℕ, zero, suc, ℤ, pos, List, [], length, refl, ap, sym, ◌∙◌, subst, arith}
use Rattle.std.proofs.lemmas.Bool.Decides.{leb_tells}
use Rattle.std.proofs.lemmas.List.{append-nil, length-append}
use Rattle.span_io.specs.declared.cause.Cause.{Cause}
use Rattle.span_io.specs.declared.cause.Cause.TheVariants as causes
use Rattle.span_io.specs.Frames.{Framing, EndsInVarint, IsOpen, IsRefused, IsRefusedAt}
use Rattle.span_io.proofs.FramingLaws.{Place, is_open, is_begun, is_refused, FrontsAreOpen, FramingLaws}
use Rattle.thrift_core.specs.Parts.{Part, header, WordOf, Spelling, Begins, BeginsNone, texts_of}
use Rattle.thrift_core.specs.Reading.{ReadingOf}
use Rattle.thrift_core.specs.Protocols.{ReadsExactly, PartLaws}
use Rattle.thrift_core.specs.Walks.{Open, in_struct, in_bytes, First, a_part, no_level, first_of, Turn, Turns, Passes, EndsInPart, EndsAtNoLevel, texts_from, RefusedFrom}
use Rattle.thrift_core.specs.Trees.{outer_levels}
use Rattle.thrift_core.specs.Values.{struct_frames, RefusedStruct}
use Rattle.thrift_core.specs.Stops.{StopsBy, StopsFor, Lacks}
use Rattle.thrift_core.proofs.Determined.{Stuck, passes_more, one_place, one_end}
use Rattle.thrift_core.proofs.Completed.{Suits, filled}
use Rattle.thrift_core.proofs.Ends.{Fate, begins_whole, stops_for, lacks_some, fate}
use Rattle.thrift_core.proofs.Halts.{is_truncated, past_lacks, lacks_past, stop_not_long, stop_not_whole, lack_not_whole}
use Rattle.thrift_core.proofs.Meanings.{whole_walk}
use Rattle.thrift_core.proofs.Stopping as stopping
use Rattle.thrift_core.proofs.Stopping.{IsSound}

module _ (Spells : Spelling) (reads : ReadingOf) (ThenVarint : Part → List ℕ → Type 0) (Refuses : Part → Cause → List ℕ → Type 0) (R : ReadsExactly Spells reads ThenVarint Refuses) (L : PartLaws Spells ThenVarint Refuses) (start : Open) where
  abbrev F : Framing
  F = texts_from Spells ThenVarint start

  abbrev K : Cause → List ℕ → Type 0
  K cause text = RefusedFrom Spells Refuses start cause text

  same : (text : List ℕ) → F.Whole text ↔ Passes Spells (start ∷ []) text [] []
  same text = whole_walk Spells ThenVarint Refuses L start text

  -- ---- what a walk says

  -- the end: a whole text, and then the rest
  pub end_is : (text rest : List ℕ) → Passes Spells (start ∷ []) text [] rest → (front : List ℕ) × F.Whole front × (text ≡ front ++ rest)
  end_is text rest h = stopping.begins Spells reads ThenVarint Refuses R L start F.Whole same text rest h

  pub whole_passes : (text rest : List ℕ) → F.Whole text → Passes Spells (start ∷ []) (text ++ rest) [] rest
  whole_passes text rest h = passes_more Spells (start ∷ []) text [] [] rest ((same text).0 h)

  -- Truncated: an item may yet come, and no length within the limit passes it
  pub truncated_is : (text : List ℕ) → IsSound start → StopsFor Spells reads start text causes.Truncated → IsOpen F text
  truncated_is text sound h = stopping.truncated_says Spells reads ThenVarint Refuses R L start F.Whole same text sound h

  pub stop_not_past : (text : List ℕ) (cause : Cause) (limit : ℕ) → length text ≤ limit → StopsFor Spells reads start text cause → F.EndsPast limit text → ⊥
  stop_not_past text cause limit within h past = stopping.truncated_not_past Spells reads ThenVarint Refuses R L start F.Whole same text cause limit within h past

  -- another cause: the shortest refused front is refused by it
  pub stop_is : (text : List ℕ) (cause : Cause) → IsSound start → cause ≢ causes.Truncated → StopsFor Spells reads start text cause → IsRefusedAt F (K cause) text
  stop_is text cause sound other h = stopping.stop_says Spells reads ThenVarint Refuses R L start F.Whole same text cause sound other h

  pub never_long : (text : List ℕ) (cause : Cause) → StopsFor Spells reads start text cause → cause ≢ causes.UnitTooLong
  never_long text cause h = stop_not_long Spells reads ThenVarint Refuses R start text cause h

  -- missing bytes: an item may yet come, and a length claims them
  pub lacks_is : (text : List ℕ) (many : ℕ) → IsSound start → Lacks Spells start text many → IsOpen F text
  lacks_is text many sound h = stopping.lacks_says Spells reads ThenVarint Refuses R L start F.Whole same text many sound h

  pub lacks_exactly : (text : List ℕ) (many limit : ℕ) → length text ≤ limit → Lacks Spells start text many → F.EndsPast limit text ↔ limit < length text + many
  lacks_exactly text many limit within h = stopping.lacks_exactly Spells reads ThenVarint Refuses R L start F.Whole same text many limit within h

  -- an item that may yet come: Truncated, or missing bytes
  pub open_halts : (text : List ℕ) → IsOpen F text → StopsFor Spells reads start text causes.Truncated ⊎ ((many : ℕ) × Lacks Spells start text many)
  open_halts text h = stopping.open_halts Spells reads ThenVarint Refuses R L start F.Whole same text h

  -- a proper front of an item is open
  pub fronts_open : IsSound start → FrontsAreOpen F
  fronts_open sound front more whole some = elim (stopping.front_halts Spells reads ThenVarint Refuses R L start F.Whole same front more whole some) [
    | inl s ↦ truncated_is front sound s
    | inr l ↦ lacks_is front l.0 sound l.1
  ]

  -- ---- each place is known

  place_by : (text : List ℕ) (cause : Cause) → IsSound start → StopsFor Spells reads start text cause → (cause ≡ causes.Truncated) ⊎ (cause ≢ causes.Truncated) → Place F K text
  place_by text cause sound h (inl e) = is_open (truncated_is text sound (subst (λ c. StopsFor Spells reads start text c) e h))
  place_by text cause sound h (inr other) = is_refused cause (never_long text cause h) (stop_is text cause sound other h)

  place_of : (text : List ℕ) → IsSound start → Fate Spells reads start text → Place F K text
  place_of text sound (begins_whole rest h) = (let w = end_is text rest h in is_begun (record { text = w.0; rest = rest; whole = w.1; parts = w.2 }))
  place_of text sound (stops_for cause h) = place_by text cause sound h (is_truncated cause)
  place_of text sound (lacks_some many h) = is_open (lacks_is text many sound h)

  pub place : (text : List ℕ) → IsSound start → Place F K text
  place text sound = place_of text sound (fate Spells reads ThenVarint Refuses R L start text)

  -- ---- one cause

  -- where no word begins no turn is made
  none_stuck : (top : Open) (rest : List ℕ) (part : Part) (opens : WordOf part → List Open) → first_of top ≡ a_part part opens → BeginsNone Spells part rest → Stuck Spells top rest
  none_stuck top rest part opens first none opened left h =
      let turn : Turn Spells (a_part part opens) rest opened left = subst (λ f. Turn Spells f rest opened left) first h in
      none turn.0 left turn.1

  no_level_stuck : (top : Open) (rest : List ℕ) → first_of top ≡ no_level → Stuck Spells top rest
  no_level_stuck top rest first opened left h = subst (λ f. Turn Spells f rest opened left) first h

  -- a part in which a refused text ends is refused itself
  part_refused : (front : List ℕ) (cause : Cause) → IsSound start → IsRefused F front → (h : EndsInPart Spells start (λ part rest. BeginsNone Spells part rest × Refuses part cause rest) front) → IsRefused (texts_of Spells ThenVarint h.part) h.rest
  part_refused front cause sound refused h = record {
    closed = λ may_come. refused.closed (truncated_is front sound (record {
      top = h.top;
      below = h.below;
      rest = h.rest;
      passes = h.passes;
      stops = subst (λ f. StopsBy reads f h.rest causes.Truncated) (sym h.is_first) ((R.short h.part h.rest).1 may_come);
    }));
    none = λ begun. h.says.0 begun.whole.0 begun.rest (record { text = begun.text; spelled = begun.whole.1; parts = begun.parts });
  }

  same_part : (part other : Part) (opens : WordOf part → List Open) (others : WordOf other → List Open) (first : First) → first ≡ a_part part opens → first ≡ a_part other others → part ≡ other
  same_part part other opens others first e f = cc

  abbrev InPart : Cause → List ℕ → Type 0
  InPart cause front = EndsInPart Spells start (λ part rest. BeginsNone Spells part rest × Refuses part cause rest) front

  two_parts : (front : List ℕ) (a b : Cause) → IsSound start → IsRefused F front → InPart a front → InPart b front → a ≡ b
  two_parts front a b sound refused h g =
      let at = one_place Spells reads ThenVarint Refuses R (start ∷ []) front h.top h.below h.rest g.top g.below g.rest
      (none_stuck h.top h.rest h.part h.opens h.is_first h.says.0) (none_stuck g.top g.rest g.part g.opens g.is_first g.says.0) h.passes g.passes in
      let part : g.part ≡ h.part = same_part g.part h.part g.opens h.opens (first_of g.top) g.is_first (ap first_of (sym at.0) ∙ h.is_first) in
      L.one_cause h.part h.rest a b (part_refused front a sound refused h) h.says.1 (subst (λ l. Refuses h.part b l) (sym at.1) (subst (λ p. Refuses p b g.rest) part g.says.1))

  part_or_level : (front : List ℕ) (cause : Cause) → InPart cause front → EndsAtNoLevel Spells start front → ⊥
  part_or_level front cause h g =
      let at = one_place Spells reads ThenVarint Refuses R (start ∷ []) front h.top h.below h.rest g.top g.below g.rest
      (none_stuck h.top h.rest h.part h.opens h.is_first h.says.0) (no_level_stuck g.top g.rest g.is_first) h.passes g.passes in
      let e : a_part h.part h.opens ≡ no_level = sym h.is_first ∙ ap first_of at.0 ∙ g.is_first in
      cc

  pub one_kind : (front : List ℕ) (a b : Cause) → IsSound start → IsRefused F front → K a front → K b front → a ≡ b
  one_kind front a b sound refused (inl h) (inl g) = two_parts front a b sound refused h g
  one_kind front a b sound refused (inl h) (inr g) = absurd (part_or_level front a h g.1)
  one_kind front a b sound refused (inr h) (inl g) = absurd (part_or_level front b g h.1)
  one_kind front a b sound refused (inr h) (inr g) = h.0 ∙ sym g.0

  -- ---- what a wire format keeps

  one_item : (text longer more : List ℕ) → F.Whole text → F.Whole longer → longer ≡ text ++ more → more ≡ []
  one_item text longer more h g e = one_end Spells reads ThenVarint Refuses R (start ∷ []) (text ++ more) more [] (whole_passes text more h) (subst (λ l. Passes Spells (start ∷ []) l [] []) e ((same longer).0 g))

  ended : (text : List ℕ) → F.Whole text → EndsInVarint F text → ⊥
  ended text h v = elim (open_halts text (inr v)) [
    | inl s ↦ stop_not_whole Spells reads ThenVarint Refuses R start text causes.Truncated [] s ((same text).0 h)
    | inr l ↦ lack_not_whole Spells reads ThenVarint Refuses R start text l.0 [] l.1 ((same text).0 h)
  ]

  stays : (limit : ℕ) (text more : List ℕ) → F.EndsPast limit text → F.EndsPast limit (text ++ more)
  stays limit text more h = record {
    many = h.many;
    below = h.below;
    rest = h.rest ++ more;
    passes = passes_more Spells (start ∷ []) text (in_bytes h.many ∷ h.below) h.rest more h.passes;
    beyond = omega (arith, h.beyond, length-append text more, length-append h.rest more);
  }

  until_then : (limit : ℕ) (text : List ℕ) → IsSound start → F.EndsPast limit text → length text ≤ limit → IsOpen F text
  until_then limit text sound h within = lacks_is text (h.many - length h.rest) sound (past_lacks Spells start limit text within h)

  tells_by : (limit : ℕ) (text : List ℕ) → length text ≤ limit → Fate Spells reads start text → F.EndsPast limit text ⊎ (F.EndsPast limit text → ⊥)
  tells_by limit text within (begins_whole rest h) = inr (λ past. lack_not_whole Spells reads ThenVarint Refuses R start text (past.many - length past.rest) rest (past_lacks Spells start limit text within past) h)
  tells_by limit text within (stops_for cause h) = inr (λ past. stop_not_past text cause limit within h past)
  tells_by limit text within (lacks_some many h) = elim (leb_tells (length text + many) limit) as (λ x. F.EndsPast limit text ⊎ (F.EndsPast limit text → ⊥)) [
    | inl few ↦ inr (λ past. (let beyond = (lacks_exactly text many limit within h).0 past in omega (arith, beyond, few.1)))
    | inr more ↦ inl (lacks_past Spells start limit many text h more.1)
  ]

  module _ (suits : Suits start) (some : Passes Spells (start ∷ []) [] [] [] → ⊥) (no_length : (many : ℕ) (below : List Open) (rest : List ℕ) → Passes Spells (start ∷ []) [] (in_bytes many ∷ below) rest → ⊥) where
    bytes_some : (text : List ℕ) → F.Whole text → text ≢ []
    bytes_some text h e = some (subst (λ l. Passes Spells (start ∷ []) l [] []) e ((same text).0 h))

    of_nothing : IsOpen F []
    of_nothing =
        let fill = filled Spells ThenVarint Refuses L start suits in
        let whole : Passes Spells (start ∷ []) fill.text [] [] = subst (λ l. Passes Spells (start ∷ []) l [] []) (append-nil fill.text) (fill.fills [] []) in
        inl (record { more = fill.text; are_bytes = fill.are_bytes; some = bytes_some fill.text ((same fill.text).1 whole); whole = (same fill.text).1 whole })

    pub laws : FramingLaws F K
    laws = record {
      some = bytes_some;
      one_item = one_item;
      ended = ended;
      fronts = fronts_open (inl suits);
      stays = stays;
      until_then = λ limit text h within. until_then limit text (inl suits) h within;
      tells = λ limit text within. tells_by limit text within (fate Spells reads ThenVarint Refuses R L start text);
      of_nothing = of_nothing;
      no_length = λ limit past. no_length past.many past.below past.rest past.passes;
      place = λ text. place text (inl suits);
      one_kind = λ front a b refused h g. one_kind front a b (inl suits) refused h g;
    }

-- ---- structs

module _ (Spells : Spelling) (reads : ReadingOf) (ThenVarint : Part → List ℕ → Type 0) (Refuses : Part → Cause → List ℕ → Type 0) (R : ReadsExactly Spells reads ThenVarint Refuses) (L : PartLaws Spells ThenVarint Refuses) (left : ℕ) (last : ℤ) where
  pub no_header : (word : WordOf (header left last)) (rest : List ℕ) → Begins Spells (header left last) word [] rest → ⊥
  no_header word rest h = L.some (header left last) word h.text tt h.spelled (empty_front h.text rest (sym h.parts))
    where
      empty_front : (a b : List ℕ) → a ++ b ≡ [] → a ≡ []
      empty_front [] b e = refl
      empty_front (x ∷ a) b e = cc

  -- a struct's walk needs bytes
  at_start : (after : List Open) (rest : List ℕ) → Passes Spells (in_struct left last ∷ []) [] after rest → in_struct left last ∷ [] ≡ after
  unfolding Turns
  at_start after rest h = by_count h.count h.turns
    where
      by_count : (count : ℕ) → Turns Spells count (in_struct left last ∷ []) [] after rest → in_struct left last ∷ [] ≡ after
      by_count zero h = h.0
      by_count (suc n) h = absurd (no_header h.2.0 h.1 h.2.1)

  pub struct_laws : FramingLaws (texts_from Spells ThenVarint (in_struct left last)) (RefusedFrom Spells Refuses (in_struct left last))
  struct_laws = laws Spells reads ThenVarint Refuses R L (in_struct left last) tt
      (λ h. (let e : in_struct left last ∷ [] ≡ [] = at_start [] [] h in cc))
      (λ many below rest h. (let e : in_struct left last ∷ [] ≡ in_bytes many ∷ below = at_start (in_bytes many ∷ below) rest h in cc))

module _ (Spells : Spelling) (reads : ReadingOf) (ThenVarint : Part → List ℕ → Type 0) (Refuses : Part → Cause → List ℕ → Type 0) (R : ReadsExactly Spells reads ThenVarint Refuses) (L : PartLaws Spells ThenVarint Refuses) where
  -- the same of a struct that no other container holds
  pub outer_laws : FramingLaws (struct_frames Spells ThenVarint) (RefusedStruct Spells Refuses)
  outer_laws = struct_laws Spells reads ThenVarint Refuses R L outer_levels (pos 0)
