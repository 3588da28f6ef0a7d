-- What a walk says where it halts: the text is open, or its shortest refused front has this cause.
use Rattle.std.proofs.Common.{◌≡◌, ◌≢◌, ◌≤◌, ◌<◌, ◌+◌, ◌-◌, ◌++◌, ◌∷◌, ◌⊎◌, ◌↔◌, inl, inr, ℕ, zero, suc, Bool, List, [], length, replicate, Option, Err, refl, ap, sym, ◌∙◌, subst, arith}
use Rattle.std.proofs.lemmas.List.{append_assoc, append-nil, length-append, length-replicate}
use Rattle.std.proofs.lemmas.List.Elements.{All-append, All-replicate}
use Rattle.span_io.specs.declared.cause.Cause.{Cause}
use Rattle.span_io.specs.declared.cause.Cause.TheVariants as causes
use Rattle.span_io.proofs.Cuts.{append_empty_right}
use Rattle.span_io.specs.Frames.{Framing, AreBytes, IsProperFront, IsOpen, IsRefused, IsRefusedAt}
use Rattle.thrift_core.specs.declared.type_code.TypeCode.{TypeCode}
use Rattle.thrift_core.specs.declared.type_code.TypeCode.TheVariants as kinds
use Rattle.thrift_core.specs.Parts.{Part, WordOf, Spelling, Begins, texts_of}
use Rattle.thrift_core.specs.Reading.{ReadingOf}
use Rattle.thrift_core.specs.Protocols.{ReadsExactly, PartLaws}
use Rattle.thrift_core.specs.Walks.{Open, in_value, in_bytes, First, a_part, some_bytes, made_of, no_level, first_of, Turn, Passes, EndsInPart, EndsPast, RefusedFrom}
use Rattle.thrift_core.specs.Stops.{StopsBy, StopsFor, Lacks}
use Rattle.thrift_core.proofs.Determined.{Stuck, front_of, passes_more, passes_on, no_turns, one_turn, one_place, one_end}
use Rattle.thrift_core.proofs.Completed.{Suits, stack_filled, walk_suits}
use Rattle.thrift_core.proofs.Ends.{Fate, begins_whole, stops_for, lacks_some, fate}
use Rattle.thrift_core.proofs.Halts.{is_truncated, past_lacks, lacks_past, lacks_stuck, stop_stuck, stays_by, stop_stays, stop_once, stop_or_lack, lack_once, stop_not_whole}

-- each value of the start has a level, or it is a container that has none, and refused at once
abbrev pub IsSound : Open → Type 0
IsSound start = Suits start ⊎ (first_of start ≡ no_level)

pub value_sound : (left : ℕ) (kind : TypeCode) (held : Option Bool) → IsSound (in_value left kind held)
value_sound (suc left) kind held = inl (λ container. omega arith)
value_sound zero kinds.Struct held = inr refl
value_sound zero kinds.Map held = inr refl
value_sound zero kinds.Set held = inr refl
value_sound zero kinds.List held = inr refl
value_sound zero kinds.Truth held = inl (λ none. absurd none)
value_sound zero kinds.I8 held = inl (λ none. absurd none)
value_sound zero kinds.I16 held = inl (λ none. absurd none)
value_sound zero kinds.I32 held = inl (λ none. absurd none)
value_sound zero kinds.I64 held = inl (λ none. absurd none)
value_sound zero kinds.Eight held = inl (λ none. absurd none)
value_sound zero kinds.Binary held = inl (λ none. absurd none)

-- the texts of a start, by what is said to be whole
abbrev pub framing : Spelling → (Part → List ℕ → Type 0) → Open → (List ℕ → Type 0) → Framing
framing Spells ThenVarint start Whole = record {
  Whole = λ text. Whole text;
  ThenVarint = λ front. EndsInPart Spells start ThenVarint front;
  EndsPast = λ limit text. EndsPast Spells start limit text;
}

-- a stop at the end of the shortest refused front
record ShortStop (Spells : Spelling) (reads : ReadingOf) (K : List ℕ → Type 0) (start : Open) (text : List ℕ) (cause : Cause) : Type 0 where
  front : List ℕ
  rest : List ℕ
  parts : text ≡ front ++ rest
  stop : StopsFor Spells reads start front cause
  ends_in : K front
  earlier : (shorter more : List ℕ) (other : Cause) → more ≢ [] → stop.rest ≡ shorter ++ more → other ≢ causes.Truncated → StopsBy reads (first_of stop.top) shorter other → ⊥

module _ (Spells : Spelling) (reads : ReadingOf) (ThenVarint : Part → List ℕ → Type 0) (Refuses : Part → Cause → List ℕ → Type 0) (R : ReadsExactly Spells reads ThenVarint Refuses) (L : PartLaws Spells ThenVarint Refuses) (start : Open) (Whole : List ℕ → Type 0) (same : (text : List ℕ) → Whole text ↔ Passes Spells (start ∷ []) text [] []) where
  abbrev F : Framing
  F = framing Spells ThenVarint start Whole

  -- ---- where the walk ends

  pub begins : (text rest : List ℕ) → Passes Spells (start ∷ []) text [] rest → (front : List ℕ) × Whole front × (text ≡ front ++ rest)
  begins text rest h =
      let front = front_of Spells h.count (start ∷ []) text [] rest h.turns in (
        front.text,
        (same front.text).1 (subst (λ l. Passes Spells (start ∷ []) l [] []) (append-nil front.text) (record { count = h.count; turns = front.again [] })),
        front.parts,
      )

  -- ---- open texts

  completed : (text more : List ℕ) (stack : List Open) → AreBytes more → more ≢ [] → Suits start → Passes Spells (start ∷ []) (text ++ more) stack [] → IsProperFront F text
  completed text more stack bytes some suits h =
      let fill = stack_filled Spells ThenVarint Refuses L stack (walk_suits Spells ThenVarint Refuses L start (text ++ more) stack [] suits h) in
      let rest : Passes Spells stack fill.text [] [] = subst (λ l. Passes Spells stack l [] []) (append-nil fill.text) (fill.fills []) in
      let all : Passes Spells (start ∷ []) ((text ++ more) ++ fill.text) [] [] =
      passes_on Spells (start ∷ []) ((text ++ more) ++ fill.text) stack fill.text [] [] (passes_more Spells (start ∷ []) (text ++ more) stack [] fill.text h) rest in
      record {
        more = more ++ fill.text;
        are_bytes = All-append (λ b. b < 256) more fill.text bytes fill.are_bytes;
        some = λ e. some (left_empty more fill.text e);
        whole = (same (text ++ (more ++ fill.text))).1 (subst (λ l. Passes Spells (start ∷ []) l [] []) (append_assoc text more fill.text) all);
      }
    where
      left_empty : (a b : List ℕ) → a ++ b ≡ [] → a ≡ []
      left_empty [] b e = refl
      left_empty (x ∷ a) b e = cc

  part_proper : (text : List ℕ) (top : Open) (below : List Open) (rest : List ℕ) (part : Part) (opens : WordOf part → List Open) → Suits start → Passes Spells (start ∷ []) text (top ∷ below) rest → first_of top ≡ a_part part opens
      → IsProperFront (texts_of Spells ThenVarint part) rest → IsProperFront F text
  part_proper text top below rest part opens suits h first p =
      let begun : Begins Spells part p.whole.0 (rest ++ p.more) [] = record { text = rest ++ p.more; spelled = p.whole.1; parts = sym (append-nil (rest ++ p.more)) } in
      let turn : Passes Spells (top ∷ below) (rest ++ p.more) (opens p.whole.0 ++ below) [] =
      one_turn Spells top below (rest ++ p.more) (opens p.whole.0) [] (subst (λ f. Turn Spells f (rest ++ p.more) (opens p.whole.0) []) (sym first) (p.whole.0, begun, refl)) in
      completed text p.more (opens p.whole.0 ++ below) p.are_bytes p.some suits
      (passes_on Spells (start ∷ []) (text ++ p.more) (top ∷ below) (rest ++ p.more) (opens p.whole.0 ++ below) [] (passes_more Spells (start ∷ []) text (top ∷ below) rest p.more h) turn)

  part_open : (text : List ℕ) (top : Open) (below : List Open) (rest : List ℕ) (part : Part) (opens : WordOf part → List Open) → Suits start → Passes Spells (start ∷ []) text (top ∷ below) rest → first_of top ≡ a_part part opens
      → IsOpen (texts_of Spells ThenVarint part) rest → IsOpen F text
  part_open text top below rest part opens suits h first (inl p) = inl (part_proper text top below rest part opens suits h first p)
  part_open text top below rest part opens suits h first (inr v) =
      let front = front_of Spells h.count (start ∷ []) text (top ∷ below) rest h.turns in
      let walk : Passes Spells (start ∷ []) (front.text ++ v.front) (top ∷ below) v.front = record { count = h.count; turns = front.again v.front } in
      inr (record {
        front = front.text ++ v.front;
        inside = v.inside;
        then_varint = record { top = top; below = below; rest = v.front; passes = walk; part = part; opens = opens; is_first = first; says = v.then_varint };
        proper = part_proper (front.text ++ v.front) top below v.front part opens suits walk first v.proper;
        some = v.some;
        unended = v.unended;
        parts = front.parts ∙ ap (λ l. front.text ++ l) v.parts ∙ sym (append_assoc front.text v.front v.inside);
      })

  truncated_by : (text : List ℕ) (top : Open) (below : List Open) (rest : List ℕ) (first : First) → Suits start → Passes Spells (start ∷ []) text (top ∷ below) rest → first_of top ≡ first → StopsBy reads first rest causes.Truncated → IsOpen F text
  truncated_by text top below rest (a_part part opens) suits h e s = part_open text top below rest part opens suits h e ((R.short part rest).0 s)
  truncated_by text top below rest (some_bytes many) suits h e s = absurd s
  truncated_by text top below rest (made_of opens) suits h e s = absurd s
  truncated_by text top below rest no_level suits h e s = cc

  truncated_suits : (text : List ℕ) → Suits start → StopsFor Spells reads start text causes.Truncated → IsOpen F text
  truncated_suits text suits h = truncated_by text h.top h.below h.rest (first_of h.top) suits h.passes refl h.stops

  lacks_suits : (text : List ℕ) (many : ℕ) → Suits start → Lacks Spells start text many → IsOpen F text
  lacks_suits text many suits h =
      let more : List ℕ = replicate many 0 in
      let size : length (h.rest ++ more) ≡ h.held = omega (arith, length-append h.rest more, length-replicate {A = ℕ} many 0, h.missing) in
      let turn : Passes Spells (in_bytes h.held ∷ h.below) (h.rest ++ more) h.below [] =
      one_turn Spells (in_bytes h.held) h.below (h.rest ++ more) [] [] (h.rest ++ more, sym (append-nil (h.rest ++ more)), size, refl) in
      inl (completed text more h.below (All-replicate (λ b. b < 256) many 0 (omega arith)) (λ e. omega (arith, ap length e, length-replicate {A = ℕ} many 0, h.some)) suits
      (passes_on Spells (start ∷ []) (text ++ more) (in_bytes h.held ∷ h.below) (h.rest ++ more) h.below [] (passes_more Spells (start ∷ []) text (in_bytes h.held ∷ h.below) h.rest more h.passes) turn))

  -- ---- a start that has no level

  module _ (none : first_of start ≡ no_level) where
    at_start : Stuck Spells start []
    at_start opened rest h = subst (λ f. Turn Spells f [] opened rest) none h

    start_stuck : (text : List ℕ) → Stuck Spells start text
    start_stuck text opened rest h = subst (λ f. Turn Spells f text opened rest) none h

    no_level_stop : (text : List ℕ) (cause : Cause) → StopsFor Spells reads start text cause → cause ≡ causes.TooDeep
    no_level_stop text cause h =
        let at = one_place Spells reads ThenVarint Refuses R (start ∷ []) text start [] text h.top h.below h.rest (start_stuck text) (stop_stuck Spells reads ThenVarint Refuses R h.top h.rest cause h.stops) (no_turns Spells (start ∷ []) text) h.passes in
        subst (λ f. StopsBy reads f h.rest cause) none (subst (λ t. StopsBy reads (first_of t) h.rest cause) (sym at.0) h.stops)

    no_level_lack : (text : List ℕ) (many : ℕ) → Lacks Spells start text many → ⊥
    no_level_lack text many h =
        let at = one_place Spells reads ThenVarint Refuses R (start ∷ []) text start [] text (in_bytes h.held) h.below h.rest (start_stuck text) (lacks_stuck Spells h.held many h.rest h.missing h.some) (no_turns Spells (start ∷ []) text) h.passes in
        let e : some_bytes h.held ≡ no_level = ap first_of (sym at.0) ∙ none in
        cc

  -- ---- what is open halts so

  abbrev HaltsOpen : List ℕ → Type 0
  HaltsOpen text = StopsFor Spells reads start text causes.Truncated ⊎ ((many : ℕ) × Lacks Spells start text many)

  -- in a proper front of an item the walk stops for Truncated or lacks bytes
  pub front_halts : (front more : List ℕ) → Whole (front ++ more) → more ≢ [] → HaltsOpen front
  front_halts front more is some = by_fate (fate Spells reads ThenVarint Refuses R L start front)
    where
      whole : Passes Spells (start ∷ []) (front ++ more) [] []
      whole = (same (front ++ more)).0 is

      by_cause : (cause : Cause) → StopsFor Spells reads start front cause → (cause ≡ causes.Truncated) ⊎ (cause ≢ causes.Truncated) → HaltsOpen front
      by_cause cause h (inl e) = inl (subst (λ c. StopsFor Spells reads start front c) e h)
      by_cause cause h (inr other) = absurd (stop_not_whole Spells reads ThenVarint Refuses R start (front ++ more) cause [] (stop_stays Spells reads ThenVarint Refuses R start front more cause other h) whole)

      by_fate : Fate Spells reads start front → HaltsOpen front
      by_fate (begins_whole rest h) = absurd (some (append_empty_right rest more (one_end Spells reads ThenVarint Refuses R (start ∷ []) (front ++ more) (rest ++ more) [] (passes_more Spells (start ∷ []) front [] rest more h) whole)))
      by_fate (stops_for cause h) = by_cause cause h (is_truncated cause)
      by_fate (lacks_some many h) = inr (many, h)

  -- and so where an item may yet come
  pub open_halts : (text : List ℕ) → IsOpen F text → HaltsOpen text
  open_halts text (inl p) = front_halts text p.more p.whole p.some
  open_halts text (inr v) = inl (record {
    top = v.then_varint.top;
    below = v.then_varint.below;
    rest = v.then_varint.rest ++ v.inside;
    passes = subst (λ l. Passes Spells (start ∷ []) l (v.then_varint.top ∷ v.then_varint.below) (v.then_varint.rest ++ v.inside)) (sym v.parts)
        (passes_more Spells (start ∷ []) v.front (v.then_varint.top ∷ v.then_varint.below) v.then_varint.rest v.inside v.then_varint.passes);
    stops = subst (λ f. StopsBy reads f (v.then_varint.rest ++ v.inside) causes.Truncated) (sym v.then_varint.is_first)
        ((R.short v.then_varint.part (v.then_varint.rest ++ v.inside)).1 (inr (record {
          front = v.then_varint.rest;
          inside = v.inside;
          then_varint = v.then_varint.says;
          proper = L.varint_front v.then_varint.part v.then_varint.rest v.then_varint.says;
          some = v.some;
          unended = v.unended;
          parts = refl;
        })));
  })

  -- ---- refused texts

  refused_stop : (text : List ℕ) (cause : Cause) → cause ≢ causes.Truncated → StopsFor Spells reads start text cause → IsRefused F text
  refused_stop text cause other h = record {
    closed = λ may_come. elim (open_halts text may_come) [
      | inl s ↦ other (stop_once Spells reads ThenVarint Refuses R start text cause causes.Truncated h s)
      | inr l ↦ stop_or_lack Spells reads ThenVarint Refuses R start text cause l.0 h l.1
    ];
    none = λ begun. stop_not_whole Spells reads ThenVarint Refuses R start text cause begun.rest h
        (subst (λ l. Passes Spells (start ∷ []) l [] begun.rest) (sym begun.parts) (passes_more Spells (start ∷ []) begun.text [] [] begun.rest ((same begun.text).0 begun.whole)));
  }

  abbrev K : Cause → List ℕ → Type 0
  K cause text = RefusedFrom Spells Refuses start cause text

  short_part : (text : List ℕ) (cause : Cause) → cause ≢ causes.Truncated → (h : StopsFor Spells reads start text cause) (part : Part) (opens : WordOf part → List Open) → first_of h.top ≡ a_part part opens → reads part h.rest ≡ Err cause
      → ShortStop Spells reads (K cause) start text cause
  short_part text cause other h part opens first e =
      let w : IsRefusedAt (texts_of Spells ThenVarint part) (Refuses part cause) h.rest = (R.bad part h.rest cause other).0 e in
      let front = front_of Spells h.passes.count (start ∷ []) text (h.top ∷ h.below) h.rest h.passes.turns in
      let walk : Passes Spells (start ∷ []) (front.text ++ w.front) (h.top ∷ h.below) w.front = record { count = h.passes.count; turns = front.again w.front } in
      let at : IsRefusedAt (texts_of Spells ThenVarint part) (Refuses part cause) w.front = record {
        front = w.front;
        shortest = record { refused = w.shortest.refused; rest = []; parts = sym (append-nil w.front); least = w.shortest.least };
        ends_in = w.ends_in;
      } in
      record {
        front = front.text ++ w.front;
        rest = w.shortest.rest;
        parts = front.parts ∙ ap (λ l. front.text ++ l) w.shortest.parts ∙ sym (append_assoc front.text w.front w.shortest.rest);
        stop = record { top = h.top; below = h.below; rest = w.front; passes = walk; stops = subst (λ f. StopsBy reads f w.front cause) (sym first) ((R.bad part w.front cause other).1 at) };
        ends_in = inl (record {
          top = h.top;
          below = h.below;
          rest = w.front;
          passes = walk;
          part = part;
          opens = opens;
          is_first = first;
          says = (λ word left begun. w.shortest.refused.none (record { text = begun.text; rest = left; whole = (word, begun.spelled); parts = begun.parts }), w.ends_in);
        });
        earlier = λ shorter more b some cut another s.
            let v : IsRefusedAt (texts_of Spells ThenVarint part) (Refuses part b) shorter = (R.bad part shorter b another).0 (subst (λ f. StopsBy reads f shorter b) first s) in
            w.shortest.least v.front (v.shortest.rest ++ more)
            (cut ∙ ap (λ l. l ++ more) v.shortest.parts ∙ append_assoc v.front v.shortest.rest more)
            (λ empty. some (append_empty_right v.shortest.rest more empty))
            v.shortest.refused;
      }

  short_level : (text : List ℕ) (cause : Cause) (h : StopsFor Spells reads start text cause) → first_of h.top ≡ no_level → cause ≡ causes.TooDeep → ShortStop Spells reads (K cause) start text cause
  short_level text cause h first e =
      let front = front_of Spells h.passes.count (start ∷ []) text (h.top ∷ h.below) h.rest h.passes.turns in
      let walk : Passes Spells (start ∷ []) front.text (h.top ∷ h.below) [] = subst (λ l. Passes Spells (start ∷ []) l (h.top ∷ h.below) []) (append-nil front.text) (record { count = h.passes.count; turns = front.again [] }) in
      record {
        front = front.text;
        rest = h.rest;
        parts = front.parts;
        stop = record { top = h.top; below = h.below; rest = []; passes = walk; stops = subst (λ f. StopsBy reads f [] cause) (sym first) e };
        ends_in = inr (e, record { top = h.top; below = h.below; rest = []; passes = walk; is_first = first });
        earlier = λ shorter more b some cut another s. some (append_empty_right shorter more (sym cut));
      }

  short_by : (text : List ℕ) (cause : Cause) → cause ≢ causes.Truncated → (h : StopsFor Spells reads start text cause) (first : First) → first_of h.top ≡ first → StopsBy reads first h.rest cause → ShortStop Spells reads (K cause) start text cause
  short_by text cause other h (a_part part opens) first e = short_part text cause other h part opens first e
  short_by text cause other h (some_bytes many) first e = absurd e
  short_by text cause other h (made_of opens) first e = absurd e
  short_by text cause other h no_level first e = short_level text cause h first e

  short_stop : (text : List ℕ) (cause : Cause) → cause ≢ causes.Truncated → StopsFor Spells reads start text cause → ShortStop Spells reads (K cause) start text cause
  short_stop text cause other h = short_by text cause other h (first_of h.top) refl h.stops

  -- a shorter front isn't refused
  no_shorter : (text : List ℕ) (cause : Cause) → Suits start → cause ≢ causes.Truncated → (w : ShortStop Spells reads (K cause) start text cause) (shorter more : List ℕ) → w.front ≡ shorter ++ more → more ≢ [] → IsRefused F shorter → ⊥
  no_shorter text cause suits other w shorter more cut some refused = by_fate (fate Spells reads ThenVarint Refuses R L start shorter)
    where
      stop : StopsFor Spells reads start (shorter ++ more) cause
      stop = subst (λ l. StopsFor Spells reads start l cause) cut w.stop

      by_cause : (b : Cause) → StopsFor Spells reads start shorter b → (b ≡ causes.Truncated) ⊎ (b ≢ causes.Truncated) → ⊥
      by_cause b h (inl e) = refused.closed (truncated_suits shorter suits (subst (λ c. StopsFor Spells reads start shorter c) e h))
      by_cause b h (inr another) =
          let at = one_place Spells reads ThenVarint Refuses R (start ∷ []) (shorter ++ more) h.top h.below (h.rest ++ more) w.stop.top w.stop.below w.stop.rest
          (stop_stuck Spells reads ThenVarint Refuses R h.top (h.rest ++ more) b (stays_by Spells reads ThenVarint Refuses R (first_of h.top) h.rest more b another h.stops)) (stop_stuck Spells reads ThenVarint Refuses R w.stop.top w.stop.rest cause w.stop.stops)
          (passes_more Spells (start ∷ []) shorter (h.top ∷ h.below) h.rest more h.passes) (subst (λ l. Passes Spells (start ∷ []) l (w.stop.top ∷ w.stop.below) w.stop.rest) cut w.stop.passes) in
          w.earlier h.rest more b some (sym at.1) another (subst (λ t. StopsBy reads (first_of t) h.rest b) at.0 h.stops)

      by_fate : Fate Spells reads start shorter → ⊥
      by_fate (begins_whole rest h) = stop_not_whole Spells reads ThenVarint Refuses R start (shorter ++ more) cause (rest ++ more) stop (passes_more Spells (start ∷ []) shorter [] rest more h)
      by_fate (stops_for b h) = by_cause b h (is_truncated b)
      by_fate (lacks_some many h) = refused.closed (lacks_suits shorter many suits h)

  refused_suits : (text : List ℕ) (cause : Cause) → Suits start → cause ≢ causes.Truncated → StopsFor Spells reads start text cause → IsRefusedAt F (K cause) text
  refused_suits text cause suits other h =
      let w = short_stop text cause other h in
      record {
        front = w.front;
        shortest = record { refused = refused_stop w.front cause other w.stop; rest = w.rest; parts = w.parts; least = no_shorter text cause suits other w };
        ends_in = w.ends_in;
      }

  refused_at_once : (text : List ℕ) (cause : Cause) (none : first_of start ≡ no_level) → cause ≡ causes.TooDeep → IsRefusedAt F (K cause) text
  refused_at_once text cause none e = record {
    front = [];
    shortest = record {
      refused = refused_stop [] cause (λ f. let g : causes.TooDeep ≡ causes.Truncated = sym e ∙ f in cc)
          (record { top = start; below = []; rest = []; passes = no_turns Spells (start ∷ []) []; stops = subst (λ f. StopsBy reads f [] cause) (sym none) e });
      rest = text;
      parts = refl;
      least = λ shorter more cut some refused. some (append_empty_right shorter more (sym cut));
    };
    ends_in = inr (e, record { top = start; below = []; rest = []; passes = no_turns Spells (start ∷ []) []; is_first = none });
  }

  -- ---- what a walk says where it halts

  -- Truncated where an item may yet come, and no length passes the limit
  pub truncated_says : (text : List ℕ) → IsSound start → StopsFor Spells reads start text causes.Truncated → IsOpen F text
  truncated_says text (inl suits) h = truncated_suits text suits h
  truncated_says text (inr none) h = (let e : causes.Truncated ≡ causes.TooDeep = no_level_stop none text causes.Truncated h in cc)

  pub truncated_not_past : (text : List ℕ) (cause : Cause) (limit : ℕ) → length text ≤ limit → StopsFor Spells reads start text cause → EndsPast Spells start limit text → ⊥
  truncated_not_past text cause limit within h past = stop_or_lack Spells reads ThenVarint Refuses R start text cause (past.many - length past.rest) h (past_lacks Spells start limit text within past)

  -- another cause where the shortest refused front is refused by it
  pub stop_says : (text : List ℕ) (cause : Cause) → IsSound start → cause ≢ causes.Truncated → StopsFor Spells reads start text cause → IsRefusedAt F (K cause) text
  stop_says text cause (inl suits) other h = refused_suits text cause suits other h
  stop_says text cause (inr none) other h = refused_at_once text cause none (no_level_stop none text cause h)

  -- bytes that are missing where an item may yet come, and these are the bytes that a length claims
  pub lacks_says : (text : List ℕ) (many : ℕ) → IsSound start → Lacks Spells start text many → IsOpen F text
  lacks_says text many (inl suits) h = lacks_suits text many suits h
  lacks_says text many (inr none) h = absurd (no_level_lack none text many h)

  pub lacks_exactly : (text : List ℕ) (many limit : ℕ) → length text ≤ limit → Lacks Spells start text many → EndsPast Spells start limit text ↔ limit < length text + many
  lacks_exactly text many limit within h = (
    λ past. (let e = lack_once Spells reads ThenVarint Refuses R start text many (past.many - length past.rest) h (past_lacks Spells start limit text within past) in
        omega (arith, e, past.beyond, within)),
    λ beyond. lacks_past Spells start limit many text h beyond,
  )
