-- What a wire format keeps, and what follows of its first frames: each answer is the only one.
use Rattle.std.proofs.Common.{◌≡◌, ◌≢◌, ◌≤◌, ◌<◌, ◌↔◌, ◌++◌, ◌∷◌, ◌⊎◌, inl, inr, ℕ, List, [], length, take, drop, refl, ap, sym, ◌∙◌, subst, arith}
use Rattle.std.proofs.lemmas.Bool.Decides.{leb_tells}
use Rattle.std.proofs.lemmas.List.{length-append, length-take, length-drop, append_assoc, append-nil, take-append-drop, take_all}
use Rattle.span_io.specs.declared.cause.Cause.{Cause}
use Rattle.span_io.specs.declared.cause.Cause.TheVariants as causes
use Rattle.span_io.specs.declared.step.Step.{Step}
use Rattle.span_io.specs.declared.step.Step.TheVariants as steps
use Rattle.span_io.specs.Varint.{IsInsideVarint}
use Rattle.span_io.specs.Frames.{Framing, IsProperFront, EndsInVarint, IsOpen, BeginsWhole, BeginsFrame, IsRefused, IsRefusedAt, IsTooLong, IsDecided, NeedsMore, DecidedBy, IsItemOf, IsRefusedIn}
use Rattle.span_io.specs.Steps.{StepIs}
use Rattle.span_io.proofs.Cuts.{two_cuts, append_empty_right, some_length, shorter_length, snoc_front, all_front}

-- what stands at the front of some bytes: an item may yet come, one begins, or the shortest front that is refused names the cause
pub data Place (F : Framing) (EndsIn : Cause → List ℕ → Type 0) (bytes : List ℕ) : Type 0 where
  is_open : IsOpen F bytes → Place F EndsIn bytes
  is_begun : BeginsWhole F bytes → Place F EndsIn bytes
  is_refused : (cause : Cause) → cause ≢ causes.UnitTooLong → IsRefusedAt F (EndsIn cause) bytes → Place F EndsIn bytes

-- a proper front of an item is open
abbrev pub FrontsAreOpen : Framing → Type 0
FrontsAreOpen F = (front more : List ℕ) → F.Whole (front ++ more) → more ≢ [] → IsOpen F front

pub record FramingLaws (F : Framing) (EndsIn : Cause → List ℕ → Type 0) : Type 0 where
  -- an item has bytes, is no proper front of another, and doesn't end inside a varint
  pub some : (text : List ℕ) → F.Whole text → text ≢ []
  pub one_item : (text longer more : List ℕ) → F.Whole text → F.Whole longer → longer ≡ text ++ more → more ≡ []
  pub ended : (text : List ℕ) → F.Whole text → EndsInVarint F text → ⊥
  pub fronts : FrontsAreOpen F
  -- a length past the limit stays, whatever follows, and until the limit is passed an item may yet come
  pub stays : (limit : ℕ) (text more : List ℕ) → F.EndsPast limit text → F.EndsPast limit (text ++ more)
  pub until_then : (limit : ℕ) (text : List ℕ) → F.EndsPast limit text → length text ≤ limit → IsOpen F text
  pub tells : (limit : ℕ) (text : List ℕ) → length text ≤ limit → F.EndsPast limit text ⊎ (F.EndsPast limit text → ⊥)
  -- an item may come of no bytes, which hold no length
  pub of_nothing : IsOpen F []
  pub no_length : (limit : ℕ) → F.EndsPast limit [] → ⊥
  -- each place is known, and what is refused is refused by one cause
  pub place : (text : List ℕ) → Place F EndsIn text
  pub one_kind : (front : List ℕ) (a b : Cause) → IsRefused F front → EndsIn a front → EndsIn b front → a ≡ b

-- ---- fronts of open bytes

-- a front of bytes that end inside a varint does so as well, or ends before it
inside_front : (F : Framing) (front inside more : List ℕ) → F.ThenVarint front → IsProperFront F front → IsInsideVarint (inside ++ more) → IsOpen F (front ++ inside)
inside_front F front [] more before proper h = inl (subst (λ l. IsProperFront F l) (sym (append-nil front)) proper)
inside_front F front (b ∷ inside) more before proper h = inr (record {
  front = front;
  inside = b ∷ inside;
  then_varint = before;
  proper = proper;
  some = omega arith;
  unended = record { short = omega (arith, h.short, length-append (b ∷ inside) more); go_on = all_front (λ x. 128 ≤ x) (b ∷ inside) more h.go_on };
  parts = refl;
})

pub open_front : (F : Framing) → FrontsAreOpen F → (front more : List ℕ) → IsOpen F (front ++ more) → IsOpen F front
open_front F fronts front more (inl p) = fronts front (more ++ p.more) (subst F.Whole (append_assoc front more p.more) p.whole) (λ e. p.some (append_empty_right more p.more e))
open_front F fronts front more (inr h) = elim (two_cuts front more h.front h.inside h.parts) [
  | inl w ↦ fronts front (w.between ++ h.proper.more)
      (subst F.Whole (ap (λ l. l ++ h.proper.more) w.front ∙ append_assoc front w.between h.proper.more) h.proper.whole)
      (λ e. h.proper.some (append_empty_right w.between h.proper.more e))
  | inr w ↦ subst (λ l. IsOpen F l) (sym w.front) (inside_front F h.front w.between more h.then_varint h.proper (subst (λ l. IsInsideVarint l) w.rest h.unended))
]

-- ---- the front that decides

-- what an answer says of it
data Decision (F : Framing) (EndsIn : Cause → List ℕ → Type 0) (limit : ℕ) (step : Step) (front : List ℕ) : Type 0 where
  by_item : F.Whole front → step ≡ steps.Unit (length front) → Decision F EndsIn limit step front
  by_length : IsTooLong F limit front → step ≡ steps.Refused causes.UnitTooLong → Decision F EndsIn limit step front
  by_refusal : (cause : Cause) → IsRefused F front → EndsIn cause front → step ≡ steps.Refused cause → Decision F EndsIn limit step front

weaker : (F : Framing) (limit : ℕ) (K J : List ℕ → Type 0) (bytes : List ℕ) → ((x : List ℕ) → K x → J x) → DecidedBy F limit K bytes → DecidedBy F limit J bytes
weaker F limit K J bytes f h = record { front = h.front; rest = h.rest; parts = h.parts; kind = f h.front h.kind; earlier = h.earlier }

-- one front decides
record BothOf (K J : List ℕ → Type 0) : Type 0 where
  front : List ℕ
  first : K front
  second : J front

module _ (F : Framing) (limit : ℕ) (K J : List ℕ → Type 0) where
  one_front : (short long between : List ℕ) → long ≡ short ++ between → K short → J long → (between ≢ [] → ⊥) → BothOf K J
  one_front short long [] e k j none = record { front = short; first = k; second = subst J (e ∙ append-nil short) j }
  one_front short long (b ∷ between) e k j none = absurd (none (λ e. cc))

  one_front_back : (short long between : List ℕ) → long ≡ short ++ between → K long → J short → (between ≢ [] → ⊥) → BothOf K J
  one_front_back short long [] e k j none = record { front = short; first = subst K (e ∙ append-nil short) k; second = j }
  one_front_back short long (b ∷ between) e k j none = absurd (none (λ e. cc))

  same_front : ((x : List ℕ) → K x → IsDecided F limit x) → ((x : List ℕ) → J x → IsDecided F limit x) → (bytes : List ℕ) → DecidedBy F limit K bytes → DecidedBy F limit J bytes → BothOf K J
  same_front decides_k decides_j bytes h g = elim (two_cuts h.front h.rest g.front g.rest (sym h.parts ∙ g.parts)) [
    | inl w ↦ one_front h.front g.front w.between w.front h.kind g.kind (λ some. g.earlier h.front w.between w.front some (decides_k h.front h.kind))
    | inr w ↦ one_front_back g.front h.front w.between w.front h.kind g.kind (λ some. h.earlier g.front w.between w.front some (decides_j g.front g.kind))
  ]

module _ (F : Framing) (EndsIn : Cause → List ℕ → Type 0) (laws : FramingLaws F EndsIn) where
  pub open_whole : (text : List ℕ) → IsOpen F text → F.Whole text → ⊥
  open_whole text (inl p) h = p.some (laws.one_item text (text ++ p.more) p.more h p.whole refl)
  open_whole text (inr e) h = laws.ended text h e

  refused_whole : (text : List ℕ) → IsRefused F text → F.Whole text → ⊥
  refused_whole text h whole = h.none (record { text = text; rest = []; whole = whole; parts = sym (append-nil text) })

  module _ (limit : ℕ) where
    decided : (step : Step) (front : List ℕ) → Decision F EndsIn limit step front → IsDecided F limit front
    decided step front (by_item h e) = inl h
    decided step front (by_length h e) = inr (inl h)
    decided step front (by_refusal cause h ends e) = inr (inr h)

    one_decision : (a b : Step) (front : List ℕ) → Decision F EndsIn limit a front → Decision F EndsIn limit b front → a ≡ b
    one_decision a b front (by_item h e) (by_item g f) = e ∙ sym f
    one_decision a b front (by_item h e) (by_length g f) = absurd (open_whole front g.may_come h)
    one_decision a b front (by_item h e) (by_refusal cause g ends f) = absurd (refused_whole front g h)
    one_decision a b front (by_length h e) (by_item g f) = absurd (open_whole front h.may_come g)
    one_decision a b front (by_length h e) (by_length g f) = e ∙ sym f
    one_decision a b front (by_length h e) (by_refusal cause g ends f) = absurd (g.closed h.may_come)
    one_decision a b front (by_refusal cause h ends e) (by_item g f) = absurd (refused_whole front h g)
    one_decision a b front (by_refusal cause h ends e) (by_length g f) = absurd (h.closed g.may_come)
    one_decision a b front (by_refusal cause h ends e) (by_refusal other g also f) = e ∙ ap (λ c. steps.Refused c) (laws.one_kind front cause other h ends also) ∙ sym f

    -- an answer is told by the front that decides, or by none
    abbrev Answered : List ℕ → Step → Type 0
    Answered bytes step = ((step ≡ steps.Need) × NeedsMore F limit bytes) ⊎ DecidedBy F limit (Decision F EndsIn limit step) bytes

    answered : (bytes : List ℕ) (step : Step) → StepIs F EndsIn limit bytes step → Answered bytes step
    answered bytes steps.Need h = inl (refl, h)
    answered bytes (steps.Unit n) h = inr (weaker F limit _ _ bytes (λ x k. by_item k.0 (ap (λ m. steps.Unit m) (sym k.1))) h)
    answered bytes (steps.Refused causes.UnitTooLong) h = inr (weaker F limit _ _ bytes (λ x k. by_length k refl) h)
    answered bytes (steps.Refused other) h = inr (weaker F limit _ _ bytes (λ x k. by_refusal other k.0 k.1 refl) h)

    one_answer : (bytes : List ℕ) (a b : Step) → Answered bytes a → Answered bytes b → a ≡ b
    one_answer bytes a b (inl h) (inl g) = h.0 ∙ sym g.0
    one_answer bytes a b (inl h) (inr g) = absurd (h.1.undecided g.front g.rest g.parts (decided b g.front g.kind))
    one_answer bytes a b (inr h) (inl g) = absurd (g.1.undecided h.front h.rest h.parts (decided a h.front h.kind))
    one_answer bytes a b (inr h) (inr g) =
        let both : BothOf (Decision F EndsIn limit a) (Decision F EndsIn limit b) = same_front F limit (Decision F EndsIn limit a) (Decision F EndsIn limit b) (decided a) (decided b) bytes h g in
        one_decision a b both.front both.first both.second

    -- bytes have one first step
    pub one_step : (bytes : List ℕ) (a b : Step) → StepIs F EndsIn limit bytes a → StepIs F EndsIn limit bytes b → a ≡ b
    one_step bytes a b h g = one_answer bytes a b (answered bytes a h) (answered bytes b g)

    -- an answer that is true is the only one
    pub exact : (bytes : List ℕ) (answer : Step) → StepIs F EndsIn limit bytes answer → (step : Step) → (answer ≡ step) ↔ StepIs F EndsIn limit bytes step
    exact bytes answer h step = (λ e. subst (λ s. StepIs F EndsIn limit bytes s) e h, λ g. one_step bytes answer step h g)

    -- ---- what readers of a first frame cite

    few : (bytes : List ℕ) → IsOpen F bytes → length bytes < limit → (F.EndsPast limit bytes → ⊥) → IsDecided F limit bytes → ⊥
    few bytes may_come less none (inl whole) = open_whole bytes may_come whole
    few bytes may_come less none (inr (inl long)) = elim long.beyond [
      | inl e ↦ absurd (omega arith)
      | inr past ↦ none past
    ]
    few bytes may_come less none (inr (inr refused)) = refused.closed may_come

    -- within the limit a length past it stands in open bytes alone
    past_open : (bytes shorter more : List ℕ) → length bytes ≤ limit → bytes ≡ shorter ++ more → F.EndsPast limit shorter → IsOpen F bytes
    past_open bytes shorter more within e past = laws.until_then limit bytes (subst (λ l. F.EndsPast limit l) (sym e) (laws.stays limit shorter more past)) within

    -- an item within the limit at the front is the first
    pub item_first : (n : ℕ) (bytes : List ℕ) → BeginsFrame F limit n bytes → DecidedBy F limit (IsItemOf F n) bytes
    item_first n bytes h = record {
      front = h.text;
      rest = h.rest;
      parts = h.parts;
      kind = (h.whole, h.size);
      earlier = λ shorter more e some. few shorter
          (laws.fronts shorter more (subst F.Whole e h.whole) some)
          (omega (arith, shorter_length h.text shorter more e some, h.size, h.within))
          (λ past. open_whole h.text (past_open h.text shorter more (omega (arith, h.size, h.within)) e past) h.whole);
    }

    beyond_limit : (front : List ℕ) → F.Whole front → limit < length front → ((shorter more : List ℕ) → front ≡ shorter ++ more → more ≢ [] → IsDecided F limit shorter → ⊥) → ⊥
    beyond_limit front whole long earlier =
        let e : front ≡ take limit front ++ drop limit front = sym (take-append-drop limit front) in
        let some : drop limit front ≢ [] = λ none. omega (arith, ap length none, length-drop limit front) in
        let size : length (take limit front) ≡ limit = omega (arith, length-take limit front) in
        earlier (take limit front) (drop limit front) e some (inr (inl (record {
          may_come = laws.fronts (take limit front) (drop limit front) (subst F.Whole e whole) some;
          beyond = inl size;
        })))

    pub first_item : (n : ℕ) (bytes : List ℕ) → DecidedBy F limit (IsItemOf F n) bytes → BeginsFrame F limit n bytes
    first_item n bytes h = record {
      text = h.front;
      rest = h.rest;
      whole = h.kind.0;
      parts = h.parts;
      size = h.kind.1;
      within = elim (leb_tells n limit) as (λ x. n ≤ limit) [
        | inl within ↦ within.1
        | inr beyond ↦ absurd (beyond_limit h.front h.kind.0 (omega (arith, h.kind.1, beyond.1)) h.earlier)
      ];
    }

    -- the size of an item within the limit
    pub item_size : (n : ℕ) (bytes : List ℕ) → BeginsFrame F limit n bytes → (1 ≤ n) × (n ≤ limit) × (n ≤ length bytes)
    item_size n bytes h = (
      omega (arith, h.size, some_length h.text (laws.some h.text h.whole)),
      h.within,
      omega (arith, h.size, ap length h.parts, length-append h.text h.rest),
    )

    -- the shortest refused front, within the limit, is the first that is decided
    pub refused_first : (Kind : List ℕ → Type 0) (bytes : List ℕ) → length bytes ≤ limit → IsRefusedAt F Kind bytes → DecidedBy F limit (IsRefusedIn F Kind) bytes
    refused_first Kind bytes within h = record {
      front = h.front;
      rest = h.shortest.rest;
      parts = h.shortest.parts;
      kind = (h.shortest.refused, h.ends_in);
      earlier = λ shorter more e some d. earlier shorter more e some d;
    }
      where
        short : length h.front ≤ limit
        short = omega (arith, within, ap length h.shortest.parts, length-append h.front h.shortest.rest)

        earlier : (shorter more : List ℕ) → h.front ≡ shorter ++ more → more ≢ [] → IsDecided F limit shorter → ⊥
        earlier shorter more e some (inl whole) = h.shortest.refused.none (record { text = shorter; rest = more; whole = whole; parts = e })
        earlier shorter more e some (inr (inl long)) = elim long.beyond [
          | inl full ↦ absurd (omega (arith, short, full, shorter_length h.front shorter more e some))
          | inr past ↦ h.shortest.refused.closed (past_open h.front shorter more short e past)
        ]
        earlier shorter more e some (inr (inr refused)) = h.shortest.least shorter more e some refused

    -- open bytes that are fewer than the limit, and hold no length past it, need more
    pub needs_more : (bytes : List ℕ) → IsOpen F bytes → length bytes < limit → (F.EndsPast limit bytes → ⊥) → NeedsMore F limit bytes
    needs_more bytes may_come less none = record {
      may_come = may_come;
      undecided = λ front rest e. few front
          (open_front F laws.fronts front rest (subst (λ l. IsOpen F l) e may_come))
          (omega (arith, ap length e, length-append front rest, less))
          (λ past. none (subst (λ l. F.EndsPast limit l) (sym e) (laws.stays limit front rest past)));
    }

    -- others are too long
    abbrev Beyond : List ℕ → Type 0
    Beyond bytes = (length bytes ≡ limit) ⊎ F.EndsPast limit bytes

    record FirstBeyond (bytes : List ℕ) : Type 0 where
      front : List ℕ
      rest : List ℕ
      parts : bytes ≡ front ++ rest
      beyond : Beyond front
      earlier : (shorter more : List ℕ) → front ≡ shorter ++ more → more ≢ [] → Beyond shorter → ⊥

    tells_beyond : (front : List ℕ) → length front ≤ limit → Beyond front ⊎ (Beyond front → ⊥)
    tells_beyond front within = elim (leb_tells limit (length front)) as (λ x. Beyond front ⊎ (Beyond front → ⊥)) [
      | inl full ↦ inl (inl (omega (arith, full.1)))
      | inr less ↦ elim (laws.tells limit front within) as (λ x. Beyond front ⊎ (Beyond front → ⊥)) [
        | inl past ↦ inl (inr past)
        | inr none ↦ inr (λ h. elim h [
          | inl e ↦ absurd (omega (arith, less.1))
          | inr past ↦ none past
        ])
      ]
    ]

    not_earlier : (front : List ℕ) (b : ℕ) → (Beyond front → ⊥) → ((shorter more : List ℕ) → front ≡ shorter ++ more → more ≢ [] → Beyond shorter → ⊥)
        → (shorter more : List ℕ) → front ++ b ∷ [] ≡ shorter ++ more → more ≢ [] → Beyond shorter → ⊥
    not_earlier front b here earlier shorter more e some beyond =
        let cut = snoc_front front b shorter more e some in
        by_between cut.0 cut.1
      where
        by_between : (between : List ℕ) → front ≡ shorter ++ between → ⊥
        by_between [] f = here (subst Beyond (sym (f ∙ append-nil shorter)) beyond)
        by_between (c ∷ between) f = earlier shorter (c ∷ between) f (λ none. cc) beyond

    first_beyond : (bytes front rest : List ℕ) → bytes ≡ front ++ rest → length bytes ≤ limit → Beyond bytes
        → ((shorter more : List ℕ) → front ≡ shorter ++ more → more ≢ [] → Beyond shorter → ⊥) → FirstBeyond bytes
    first_beyond bytes front [] e within beyond earlier = record { front = front; rest = []; parts = e; beyond = subst Beyond (e ∙ append-nil front) beyond; earlier = earlier }
    first_beyond bytes front (b ∷ rest) e within beyond earlier = elim (tells_beyond front (omega (arith, within, ap length e, length-append front (b ∷ rest)))) [
      | inl here ↦ record { front = front; rest = b ∷ rest; parts = e; beyond = here; earlier = earlier }
      | inr here ↦ first_beyond bytes (front ++ b ∷ []) rest (e ∙ sym (append_assoc front (b ∷ []) rest)) within beyond (not_earlier front b here earlier)
    ]

    nothing_earlier : (shorter more : List ℕ) → [] ≡ shorter ++ more → more ≢ [] → Beyond shorter → ⊥
    nothing_earlier shorter more e some beyond = some (append_empty_right shorter more (sym e))

    pub too_long_first : (bytes : List ℕ) → IsOpen F bytes → length bytes ≤ limit → Beyond bytes → DecidedBy F limit (IsTooLong F limit) bytes
    too_long_first bytes may_come within beyond =
        let first : FirstBeyond bytes = first_beyond bytes [] bytes refl within beyond nothing_earlier in
        let open_here : IsOpen F first.front = open_front F laws.fronts first.front first.rest (subst (λ l. IsOpen F l) first.parts may_come) in
        record {
          front = first.front;
          rest = first.rest;
          parts = first.parts;
          kind = record { may_come = open_here; beyond = first.beyond };
          earlier = λ shorter more e some d. earlier shorter (open_front F laws.fronts shorter more (subst (λ l. IsOpen F l) e open_here)) (first.earlier shorter more e some) d;
        }
      where
        earlier : (shorter : List ℕ) → IsOpen F shorter → (Beyond shorter → ⊥) → IsDecided F limit shorter → ⊥
        earlier shorter may_come none (inl whole) = open_whole shorter may_come whole
        earlier shorter may_come none (inr (inl long)) = none long.beyond
        earlier shorter may_come none (inr (inr refused)) = refused.closed may_come

    -- No more than `limit` bytes need be looked at.
    longer : (K : List ℕ → Type 0) (bytes : List ℕ) → DecidedBy F limit K (take limit bytes) → DecidedBy F limit K bytes
    longer K bytes h = record {
      front = h.front;
      rest = h.rest ++ drop limit bytes;
      parts = sym (take-append-drop limit bytes) ∙ ap (λ l. l ++ drop limit bytes) h.parts ∙ append_assoc h.front h.rest (drop limit bytes);
      kind = h.kind;
      earlier = h.earlier;
    }

    needs_all : (bytes : List ℕ) → NeedsMore F limit (take limit bytes) → NeedsMore F limit bytes
    needs_all bytes h = elim (leb_tells limit (length bytes)) as (λ x. NeedsMore F limit bytes) [
      | inl full ↦ absurd (h.undecided (take limit bytes) [] (sym (append-nil (take limit bytes))) (inr (inl (record { may_come = h.may_come; beyond = inl (omega (arith, length-take limit bytes, full.1)) }))))
      | inr less ↦ subst (λ l. NeedsMore F limit l) (take_all limit bytes (omega (arith, less.1))) h
    ]

    pub of_front : (bytes : List ℕ) (step : Step) → StepIs F EndsIn limit (take limit bytes) step → StepIs F EndsIn limit bytes step
    of_front bytes steps.Need h = needs_all bytes h
    of_front bytes (steps.Unit n) h = longer (IsItemOf F n) bytes h
    of_front bytes (steps.Refused causes.UnitTooLong) h = longer (IsTooLong F limit) bytes h
    of_front bytes (steps.Refused other) h = longer (IsRefusedIn F (EndsIn other)) bytes h

    -- ---- there is an answer

    pub refused_step : (cause : Cause) (bytes : List ℕ) → cause ≢ causes.UnitTooLong → DecidedBy F limit (IsRefusedIn F (EndsIn cause)) bytes → StepIs F EndsIn limit bytes (steps.Refused cause)
    refused_step causes.UnitTooLong bytes other h = absurd (other refl)
    refused_step cause bytes other h = h

    open_step : (bytes : List ℕ) → length bytes ≤ limit → IsOpen F bytes → (step : Step) × StepIs F EndsIn limit bytes step
    open_step bytes within may_come = elim (tells_beyond bytes within) as (λ x. (step : Step) × StepIs F EndsIn limit bytes step) [
      | inl beyond ↦ (steps.Refused causes.UnitTooLong, too_long_first bytes may_come within beyond)
      | inr none ↦ (let part : length bytes ≢ limit = λ e. none (inl e) in (steps.Need, needs_more bytes may_come (omega (arith, within, part)) (λ past. none (inr past))))
    ]

    place_step : (bytes : List ℕ) → length bytes ≤ limit → Place F EndsIn bytes → (step : Step) × StepIs F EndsIn limit bytes step
    place_step bytes within (is_open h) = open_step bytes within h
    place_step bytes within (is_begun h) = (
      steps.Unit (length h.text),
      item_first (length h.text) bytes (record {
        text = h.text;
        rest = h.rest;
        whole = h.whole;
        parts = h.parts;
        size = refl;
        within = omega (arith, within, ap length h.parts, length-append h.text h.rest);
      }),
    )
    place_step bytes within (is_refused cause other h) = (steps.Refused cause, refused_step cause bytes other (refused_first (EndsIn cause) bytes within h))

    pub some_step : (bytes : List ℕ) → (step : Step) × StepIs F EndsIn limit bytes step
    some_step bytes =
        let first = place_step (take limit bytes) (omega (arith, length-take limit bytes)) (laws.place (take limit bytes)) in
        (first.0, of_front bytes first.0 first.1)
