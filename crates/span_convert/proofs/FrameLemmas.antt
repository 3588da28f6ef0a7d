-- What holds of the frames of every wire format, and of the rest behind them.
use Rattle.std.proofs.Common.{◌≡◌, ◌≢◌, ◌+◌, ◌-◌, ◌<◌, ◌≤◌, ◌++◌, ◌∷◌, ◌⊎◌, inl, inr, ℕ, List, [], length, take, refl, ap, sym, ◌∙◌, subst, arith}
use Rattle.std.proofs.Math.Seq.{take-nil, take-append-add}
use Rattle.std.proofs.lemmas.Bool.{cases_lt}
use Rattle.std.proofs.lemmas.List.{append-nil, take-append-le, take_all}
use Rattle.span_io.specs.Frames.{Framing, ItemsThen, BeginsFrame, NeedsMore, GoesOn}
use Rattle.span_io.specs.Framings.{OneFraming, OneStep}
use Rattle.span_io.specs.Pieces.{PieceLaws}
use Rattle.span_io.specs.declared.cause.Cause.{Cause}
use Rattle.span_io.specs.declared.cause.Cause.TheVariants as causes
use Rattle.span_convert.specs.Rests.{StopsRest}

-- ---- more bytes

-- of more bytes no more are looked at than there is room for
take_more : (most : ℕ) (bytes more : List ℕ) → (length bytes < most) ⊎ (most ≤ length bytes) → take most (bytes ++ more) ≡ take most bytes ++ take (most - length bytes) more
take_more most bytes more (inr full) =
    let none : 0 ≡ most - length bytes = omega (arith, full) in
    take-append-le most bytes more full ∙ sym (append-nil (take most bytes)) ∙ ap (λ n. take most bytes ++ take n more) none
take_more most bytes more (inl room) =
    let whole : take most bytes ≡ bytes = take_all most bytes (omega (arith, room)) in
    let sum : most ≡ length bytes + (most - length bytes) = omega (arith, room) in
    ap (λ n. take n (bytes ++ more)) sum ∙ take-append-add bytes more (most - length bytes) ∙ ap (λ l. l ++ take (most - length bytes) more) (sym whole)

-- items at the front of some bytes are items of more of them
pub framed_longer : (F : Framing) (EndsIn : Cause → List ℕ → Type 0) → PieceLaws F EndsIn → (limit most : ℕ) (items : List (List ℕ)) (rest bytes more : List ℕ) → ItemsThen F limit items rest (take most bytes)
    → ItemsThen F limit items (rest ++ take (most - length bytes) more) (take most (bytes ++ more))
framed_longer F EndsIn P limit most items rest bytes more h =
    subst (λ (l : List ℕ). ItemsThen F limit items (rest ++ take (most - length bytes) more) l) (sym (take_more most bytes more (cases_lt (length bytes) most)))
    (P.items_more limit items rest (take most bytes) (take (most - length bytes) more) h)

-- ---- items

module _ (F : Framing) (limit : ℕ) where
  -- no bytes are no items
  pub none_framed : (most : ℕ) → ItemsThen F limit [] [] (take most [])
  unfolding ItemsThen
  none_framed most = take-nil most

  -- where no item begins there is none
  pub no_items : (items : List (List ℕ)) (other rest : List ℕ) → ((n : ℕ) → BeginsFrame F limit n rest → ⊥) → ItemsThen F limit items other rest → (items ≡ []) × (rest ≡ other)
  unfolding ItemsThen
  no_items [] other rest none h = (refl, h)
  no_items (f ∷ items) other rest none h = absurd (none (length f) (record { text = f; rest = h.2; whole = h.0; parts = h.3; size = refl; within = h.1 }))

  -- behind items another
  pub items_push : (items : List (List ℕ)) (frame behind rest bytes : List ℕ) → F.Whole frame → length frame ≤ limit → rest ≡ frame ++ behind → ItemsThen F limit items rest bytes → ItemsThen F limit (items ++ frame ∷ []) behind bytes
  unfolding ItemsThen
  items_push [] frame behind rest bytes whole within parts so_far = (whole, within, behind, so_far ∙ parts, refl)
  items_push (item ∷ more) frame behind rest bytes whole within parts so_far = (so_far.0, so_far.1, so_far.2, so_far.3, items_push more frame behind rest so_far.2 whole within parts so_far.4)

  -- the first of some items
  pub record FirstItems (items : List (List ℕ)) (bytes : List ℕ) : Type 0 where
    pub rest : List ℕ
    pub items_then : ItemsThen F limit items rest bytes

  pub first_items : (items more : List (List ℕ)) (rest bytes : List ℕ) → ItemsThen F limit (items ++ more) rest bytes → FirstItems items bytes
  unfolding ItemsThen
  first_items [] more rest bytes h = record { rest = bytes; items_then = refl }
  first_items (f ∷ items) more rest bytes h =
      let w : FirstItems items h.2 = first_items items more rest h.2 h.4 in
      record { rest = w.rest; items_then = (h.0, h.1, h.2, h.3, w.items_then) }

-- ---- why no frame begins at the rest

-- what stops it stops it also where less is said of what follows
pub stops_weaker : (F : Framing) (EndsIn : Cause → List ℕ → Type 0) (limit : ℕ) (Long Longer Short Shorter : Type 0) → (Long → Longer) → (Short → Shorter) → (rest : List ℕ) (cause : Cause)
    → StopsRest F EndsIn limit Long Short rest cause → StopsRest F EndsIn limit Longer Shorter rest cause
stops_weaker F EndsIn limit Long Longer Short Shorter f g rest cause (inl h) = inl h
stops_weaker F EndsIn limit Long Longer Short Shorter f g rest cause (inr (needs, inl h)) = inr (needs, inl (h.0, f h.1))
stops_weaker F EndsIn limit Long Longer Short Shorter f g rest cause (inr (needs, inr h)) = inr (needs, inr (h.0, g h.1, h.2))

-- ---- every format whose bytes have one first step and one framing

module _ (F : Framing) (EndsIn : Cause → List ℕ → Type 0) (S : OneStep F EndsIn) (limit : ℕ) (Others None : Type 0) where
  -- why the rest of an input isn't read, that has others, or has none
  abbrev StopsThere : List ℕ → Cause → Type 0
  StopsThere = StopsRest F EndsIn limit Others None

  -- nothing begins there
  pub stops_ends : (rest : List ℕ) (cause : Cause) → StopsThere rest cause → (n : ℕ) → BeginsFrame F limit n rest → ⊥
  stops_ends rest cause (inl h) n b = S.no_frame limit n rest cause h b
  stops_ends rest cause (inr h) n b = S.open_frame limit n rest h.0 b

  -- where a frame may yet come, and there are no others, it is the end that stops it
  pub end_stops : (Others → ⊥) → (rest : List ℕ) (cause : Cause) → NeedsMore F limit rest → StopsThere rest cause → None × (rest ≢ [])
  end_stops no_others rest cause needs (inl h) = absurd (S.open_refused limit rest cause needs h)
  end_stops no_others rest cause needs (inr (open_there, inl h)) = absurd (no_others h.1)
  end_stops no_others rest cause needs (inr (open_there, inr h)) = (h.1, h.2)

  one_open : (Others → None → ⊥) → (rest : List ℕ) (a b : Cause) → (a ≡ causes.InputTooLong) × Others ⊎ (a ≡ causes.Truncated) × None × (rest ≢ []) → (b ≡ causes.InputTooLong) × Others ⊎ (b ≡ causes.Truncated) × None × (rest ≢ []) → a ≡ b
  one_open never rest a b (inl x) (inl y) = x.0 ∙ sym y.0
  one_open never rest a b (inl x) (inr y) = absurd (never x.1 y.1)
  one_open never rest a b (inr x) (inl y) = absurd (never y.1 x.1)
  one_open never rest a b (inr x) (inr y) = x.0 ∙ sym y.0

  pub one_stop : (Others → None → ⊥) → (rest : List ℕ) (a b : Cause) → StopsThere rest a → StopsThere rest b → a ≡ b
  one_stop never rest a b (inl h) (inl g) = S.one_cause limit rest a b h g
  one_stop never rest a b (inl h) (inr g) = absurd (S.open_refused limit rest a g.0 h)
  one_stop never rest a b (inr h) (inl g) = absurd (S.open_refused limit rest b h.0 g)
  one_stop never rest a b (inr h) (inr g) = one_open never rest a b h.1 g.1

module _ (F : Framing) (EndsIn : Cause → List ℕ → Type 0) (S : OneStep F EndsIn) where
  -- nothing begins in no bytes
  nothing_begins : (limit : ℕ) → 1 ≤ limit → (n : ℕ) → BeginsFrame F limit n [] → ⊥
  nothing_begins limit some n b = S.open_frame limit n [] (S.empty limit some) b

  none_left : (limit n : ℕ) → BeginsFrame F limit n [] → ⊥
  none_left limit n b = nothing_begins (limit + 1) (omega arith) n (record { text = b.text; rest = b.rest; whole = b.whole; parts = b.parts; size = b.size; within = omega (arith, b.within) })

  all_of : (limit : ℕ) (a b : List (List ℕ)) → GoesOn F limit a b [] [] → b ≡ a
  all_of limit a b w = w.parts ∙ ap (λ (l : List (List ℕ)). a ++ l) (no_items F limit w.more [] [] (none_left limit) w.items_then).0 ∙ append-nil a

  -- bytes are items in one way
  pub same_items : OneFraming F EndsIn → (limit : ℕ) (text : List ℕ) (a b : List (List ℕ)) → ItemsThen F limit a [] text → ItemsThen F limit b [] text → a ≡ b
  same_items W limit text a b h g = elim (W.walks limit text [] [] a b h g) as (λ w. a ≡ b) [
    | inl w ↦ sym (all_of limit a b w)
    | inr w ↦ all_of limit b a w
  ]
