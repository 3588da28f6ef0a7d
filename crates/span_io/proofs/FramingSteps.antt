-- The first step is one, and all items at the front of some bytes are, in every wire format that keeps its laws.
use Rattle.std.proofs.Common.{◌≡◌, ◌≤◌, ◌++◌, ◌∷◌, ◌⊎◌, inl, inr, ℕ, zero, suc, List, [], length, refl, ap, sym, ◌∙◌, subst, arith}
use Rattle.std.proofs.lemmas.List.{length-append, append-nil}
use Rattle.span_io.specs.declared.cause.Cause.{Cause}
use Rattle.span_io.specs.declared.step.Step.{Step}
use Rattle.span_io.specs.declared.step.Step.TheVariants as steps
use Rattle.span_io.specs.Frames.{Framing, BeginsFrame, ItemsThen, GoesOn}
use Rattle.span_io.specs.Steps.{StepIs}
use Rattle.span_io.proofs.Cuts.{two_cuts, some_length}
use Rattle.span_io.proofs.FramingLaws.{FramingLaws, one_step, some_step, item_first, first_item, needs_more}
use Rattle.span_io.specs.Framings.{Framed, OneFraming, OneStep, RestIs}

-- ---- the first step

module _ (F : Framing) (EndsIn : Cause → List ℕ → Type 0) (laws : FramingLaws F EndsIn) where
  same_step : (limit : ℕ) (text : List ℕ) (a b : Step) → StepIs F EndsIn limit text a → StepIs F EndsIn limit text b → a ≡ b
  same_step limit text a b h g = one_step F EndsIn laws limit text a b h g

  frame_step : (limit n : ℕ) (text : List ℕ) → BeginsFrame F limit n text → StepIs F EndsIn limit text (steps.Unit n)
  frame_step limit n text h = item_first F EndsIn laws limit n text h

  pub step_laws : OneStep F EndsIn
  step_laws = record {
    some_step = λ limit text. some_step F EndsIn laws limit text;
    one_step = same_step;
    one_cause = λ limit text a b h g. (let e : steps.Refused a ≡ steps.Refused b = same_step limit text (steps.Refused a) (steps.Refused b) h g in cc);
    no_frame = λ limit n text cause h g. (let e : steps.Refused cause ≡ steps.Unit n = same_step limit text (steps.Refused cause) (steps.Unit n) h (frame_step limit n text g) in cc);
    open_frame = λ limit n text h g. (let e : steps.Need ≡ steps.Unit n = same_step limit text steps.Need (steps.Unit n) h (frame_step limit n text g) in cc);
    open_refused = λ limit text cause h g. (let e : steps.Need ≡ steps.Refused cause = same_step limit text steps.Need (steps.Refused cause) h g in cc);
    empty = λ limit some. needs_more F EndsIn laws limit [] laws.of_nothing (omega arith) (laws.no_length limit);
  }

-- ---- all items

module _ (F : Framing) (one : (text other more : List ℕ) → F.Whole text → F.Whole other → other ≡ text ++ more → more ≡ []) (limit : ℕ) where
  same_item : (a b c d between : List ℕ) → F.Whole a → F.Whole c → c ≡ a ++ between → b ≡ between ++ d → (a ≡ c) × (b ≡ d)
  same_item a b c d between h g e f =
      let none : between ≡ [] = one a c between h g e in
      (sym (e ∙ ap (λ l. a ++ l) none ∙ append-nil a), f ∙ ap (λ l. l ++ d) none)

  same_items : (a b c d : List ℕ) → F.Whole a → F.Whole c → a ++ b ≡ c ++ d → (a ≡ c) × (b ≡ d)
  same_items a b c d h g e = elim (two_cuts a b c d e) as (λ w. (a ≡ c) × (b ≡ d)) [
    | inl w ↦ same_item a b c d w.between h g w.front w.rest
    | inr w ↦ (let back : (c ≡ a) × (d ≡ b) = same_item c d a b w.between g h w.front w.rest in (sym back.0, sym back.1))
  ]

  begun : (item behind rest : List ℕ) → F.Whole item → length item ≤ limit → rest ≡ item ++ behind → BeginsFrame F limit (length item) rest
  begun item behind rest whole within e = record { text = item; rest = behind; whole = whole; parts = e; size = refl; within = within }

  one_framing : (items others : List (List ℕ)) (rest other bytes : List ℕ) → ItemsThen F limit items rest bytes → ItemsThen F limit others other bytes → ((n : ℕ) → BeginsFrame F limit n rest → ⊥) → ((n : ℕ) → BeginsFrame F limit n other → ⊥) → (items ≡ others) × (rest ≡ other)
  unfolding ItemsThen
  one_framing [] [] rest other bytes h g none end = (refl, sym h ∙ g)
  one_framing [] (b ∷ others) rest other bytes h g none end = absurd (none (length b) (begun b g.2 rest g.0 g.1 (sym h ∙ g.3)))
  one_framing (a ∷ items) [] rest other bytes h g none end = absurd (end (length a) (begun a h.2 other h.0 h.1 (sym g ∙ h.3)))
  one_framing (a ∷ items) (b ∷ others) rest other bytes h g none end =
      let same : (a ≡ b) × (h.2 ≡ g.2) = same_items a h.2 b g.2 h.0 g.0 (sym h.3 ∙ g.3) in
      let more : (items ≡ others) × (rest ≡ other) = one_framing items others rest other g.2 (subst (λ l. ItemsThen F limit items rest l) same.1 h.4) g.4 none end in
      (ap (λ x. x ∷ items) same.0 ∙ ap (λ l. b ∷ l) more.0, more.1)

  longer_walk : (a b : List ℕ) (items others : List (List ℕ)) (rest other : List ℕ) → a ≡ b → GoesOn F limit items others rest other → GoesOn F limit (a ∷ items) (b ∷ others) rest other
  longer_walk a b items others rest other e w = record { more = w.more; parts = cc; items_then = w.items_then }

  -- of two walks over one text one goes on behind the other
  one_walk : (items others : List (List ℕ)) (rest other bytes : List ℕ) → ItemsThen F limit items rest bytes → ItemsThen F limit others other bytes → GoesOn F limit items others rest other ⊎ GoesOn F limit others items other rest
  unfolding ItemsThen
  one_walk [] others rest other bytes h g = inl (record { more = others; parts = refl; items_then = subst (λ l. ItemsThen F limit others other l) h g })
  one_walk (a ∷ items) [] rest other bytes h g = inr (record { more = a ∷ items; parts = refl; items_then = subst (λ l. ItemsThen F limit (a ∷ items) rest l) g h })
  one_walk (a ∷ items) (b ∷ others) rest other bytes h g =
      let same : (a ≡ b) × (h.2 ≡ g.2) = same_items a h.2 b g.2 h.0 g.0 (sym h.3 ∙ g.3) in
      elim (one_walk items others rest other g.2 (subst (λ l. ItemsThen F limit items rest l) same.1 h.4) g.4) [
        | inl w ↦ inl (longer_walk a b items others rest other same.0 w)
        | inr w ↦ inr (longer_walk b a others items other rest (sym same.0) w)
      ]

-- ---- a framing exists

module _ (F : Framing) (EndsIn : Cause → List ℕ → Type 0) (laws : FramingLaws F EndsIn) (limit : ℕ) where
  L : OneStep F EndsIn
  L = step_laws F EndsIn laws

  at_once : (bytes : List ℕ) → ((n : ℕ) → BeginsFrame F limit n bytes → ⊥) → RestIs F EndsIn limit bytes → Framed F EndsIn limit bytes
  unfolding ItemsThen
  at_once bytes none is = record { items = []; rest = bytes; framed = record { items_then = refl; no_more = none }; rest_is = is }

  item_before : (n : ℕ) (bytes : List ℕ) (h : BeginsFrame F limit n bytes) → Framed F EndsIn limit h.rest → Framed F EndsIn limit bytes
  unfolding ItemsThen
  item_before n bytes h f = record {
    items = h.text ∷ f.items;
    rest = f.rest;
    framed = record { items_then = (h.whole, omega (arith, h.size, h.within), h.rest, h.parts, f.framed.items_then); no_more = f.framed.no_more };
    rest_is = f.rest_is;
  }

  framed_within : (most : ℕ) (bytes : List ℕ) → length bytes ≤ most → (step : Step) → StepIs F EndsIn limit bytes step → Framed F EndsIn limit bytes
  framed_within most bytes within steps.Need h = at_once bytes (λ n g. L.open_frame limit n bytes h g) (inl h)
  framed_within most bytes within (steps.Refused cause) h = at_once bytes (λ n g. L.no_frame limit n bytes cause h g) (inr (cause, h))
  framed_within zero bytes within (steps.Unit n) h =
      let begun : BeginsFrame F limit n bytes = first_item F EndsIn laws limit n bytes h in
      absurd (omega (arith, within, ap length begun.parts, length-append begun.text begun.rest, some_length begun.text (laws.some begun.text begun.whole)))
  framed_within (suc most) bytes within (steps.Unit n) h =
      let begun : BeginsFrame F limit n bytes = first_item F EndsIn laws limit n bytes h in
      let next = L.some_step limit begun.rest in
      item_before n bytes begun (framed_within most begun.rest
      (omega (arith, within, ap length begun.parts, length-append begun.text begun.rest, some_length begun.text (laws.some begun.text begun.whole)))
      next.0 next.1)

  some_framing : (bytes : List ℕ) → Framed F EndsIn limit bytes
  some_framing bytes = let first = L.some_step limit bytes in framed_within (length bytes) bytes (omega arith) first.0 first.1

pub framing_laws : (F : Framing) (EndsIn : Cause → List ℕ → Type 0) → FramingLaws F EndsIn → OneFraming F EndsIn
framing_laws F EndsIn laws = record {
  walks = λ limit bytes rest other items others h g. one_walk F laws.one_item limit items others rest other bytes h g;
  once = λ limit bytes rest other items others h g. one_framing F laws.one_item limit items others rest other bytes h.items_then g.items_then h.no_more g.no_more;
  some_framing = λ limit bytes. some_framing F EndsIn laws limit bytes;
}
