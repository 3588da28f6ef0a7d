-- What the bytes so far decide stays decided, and a frame that needed more of them ends in what came then.
use Rattle.std.proofs.Common.{◌≡◌, ◌≢◌, ◌+◌, ◌≤◌, ◌<◌, ◌↔◌, ◌++◌, ◌∷◌, inl, inr, ℕ, List, [], length, take, drop, refl, ap, sym, ◌∙◌, subst, arith}
use Rattle.std.proofs.lemmas.Bool.Decides.{leb_tells}
use Rattle.std.proofs.lemmas.List.{length-append, length-take, append_assoc, append-nil, take-append-drop}
use Rattle.span_io.specs.declared.cause.Cause.{Cause}
use Rattle.span_io.specs.declared.cause.Cause.TheVariants as causes
use Rattle.span_io.specs.declared.step.Step.{Step}
use Rattle.span_io.specs.declared.step.Step.TheVariants as steps
use Rattle.span_io.specs.Frames.{Framing, IsOpen, NeedsMore, DecidedBy, BeginsFrame, IsItemOf, IsTooLong, IsRefusedIn, ItemsThen}
use Rattle.span_io.specs.Steps.{NoFrame, StepIs, behind, Waits}
use Rattle.span_io.proofs.Cuts.{two_cuts}
use Rattle.span_io.proofs.FramingLaws.{FramingLaws, open_front, exact, first_item, item_first, item_size}
use Rattle.span_io.specs.Pieces.{PieceLaws}

decided_longer : (F : Framing) (limit : ℕ) (K : List ℕ → Type 0) (bytes more : List ℕ) → DecidedBy F limit K bytes → DecidedBy F limit K (bytes ++ more)
decided_longer F limit K bytes more h = record {
  front = h.front;
  rest = h.rest ++ more;
  parts = ap (λ l. l ++ more) h.parts ∙ append_assoc h.front h.rest more;
  kind = h.kind;
  earlier = h.earlier;
}

items_longer : (F : Framing) (limit : ℕ) (items : List (List ℕ)) (rest bytes more : List ℕ) → ItemsThen F limit items rest bytes → ItemsThen F limit items (rest ++ more) (bytes ++ more)
unfolding ItemsThen
items_longer F limit [] rest bytes more h = ap (λ l. l ++ more) h
items_longer F limit (item ∷ items) rest bytes more h =
    (h.0, h.1, h.2 ++ more, ap (λ l. l ++ more) h.3 ∙ append_assoc item h.2 more, items_longer F limit items rest h.2 more h.4)

-- counted from one place, two answers are one
pub one_behind : (n : ℕ) (a b : Step) → behind n a ≡ behind n b → a ≡ b
one_behind n steps.Need steps.Need e = refl
one_behind n steps.Need (steps.Unit m) e = cc
one_behind n steps.Need (steps.Refused cause) e = cc
one_behind n (steps.Unit m) steps.Need e = cc
one_behind n (steps.Unit m) (steps.Unit k) e = (let sum : n + m ≡ n + k = cc in ap (λ x. steps.Unit x) (omega (arith, sum)))
one_behind n (steps.Unit m) (steps.Refused cause) e = cc
one_behind n (steps.Refused cause) steps.Need e = cc
one_behind n (steps.Refused cause) (steps.Unit m) e = cc
one_behind n (steps.Refused cause) (steps.Refused other) e = e

module _ (F : Framing) (EndsIn : Cause → List ℕ → Type 0) (laws : FramingLaws F EndsIn) (limit : ℕ) where
  no_frame_longer : (bytes more : List ℕ) (cause : Cause) → NoFrame F EndsIn limit bytes cause → NoFrame F EndsIn limit (bytes ++ more) cause
  no_frame_longer bytes more causes.UnitTooLong h = decided_longer F limit (IsTooLong F limit) bytes more h
  no_frame_longer bytes more other h = decided_longer F limit (IsRefusedIn F (EndsIn other)) bytes more h

  step_longer : (bytes more : List ℕ) (step : Step) → step ≢ steps.Need → StepIs F EndsIn limit bytes step → StepIs F EndsIn limit (bytes ++ more) step
  step_longer bytes more steps.Need some h = absurd (some refl)
  step_longer bytes more (steps.Unit n) some h = decided_longer F limit (IsItemOf F n) bytes more h
  step_longer bytes more (steps.Refused cause) some h = no_frame_longer bytes more cause h

  part_is : (bytes part rest : List ℕ) (step : Step) → (step ≡ steps.Need → rest ≡ []) → StepIs F EndsIn limit (bytes ++ part) step → StepIs F EndsIn limit (bytes ++ (part ++ rest)) step
  part_is bytes part rest steps.Need all h = subst (λ l. NeedsMore F limit (bytes ++ l)) (sym (ap (λ l. part ++ l) (all refl) ∙ append-nil part)) h
  part_is bytes part rest (steps.Unit n) all h =
      subst (λ l. StepIs F EndsIn limit l (steps.Unit n)) (append_assoc bytes part rest) (step_longer (bytes ++ part) rest (steps.Unit n) (λ e. cc) h)
  part_is bytes part rest (steps.Refused cause) all h =
      subst (λ l. NoFrame F EndsIn limit l cause) (append_assoc bytes part rest) (no_frame_longer (bytes ++ part) rest cause h)

  full : (bytes : List ℕ) → NeedsMore F limit bytes → limit ≤ length bytes → ⊥
  full bytes needs long =
      let e : bytes ≡ take limit bytes ++ drop limit bytes = sym (take-append-drop limit bytes) in
      needs.undecided (take limit bytes) (drop limit bytes) e (inr (inl (record {
        may_come = open_front F laws.fronts (take limit bytes) (drop limit bytes) (subst (λ l. IsOpen F l) e needs.may_come);
        beyond = inl (omega (arith, length-take limit bytes, long));
      })))

  fewer : (bytes : List ℕ) → NeedsMore F limit bytes → length bytes < limit
  fewer bytes needs = elim (leb_tells limit (length bytes)) as (λ x. length bytes < limit) [
    | inl long ↦ absurd (full bytes needs long.1)
    | inr short ↦ omega (arith, short.1)
  ]

  -- a frame isn't over within bytes that need more
  not_within : (n : ℕ) (bytes more : List ℕ) → NeedsMore F limit bytes → (h : BeginsFrame F limit n (bytes ++ more)) → n ≤ length bytes → ⊥
  not_within n bytes more needs h short = elim (two_cuts bytes more h.text h.rest h.parts) [
    | inl w ↦ whole_front w.between w.front
    | inr w ↦ needs.undecided h.text w.between w.front (inl h.whole)
  ]
    where
      whole_front : (between : List ℕ) → h.text ≡ bytes ++ between → ⊥
      whole_front [] e = needs.undecided bytes [] (sym (append-nil bytes)) (inl (subst F.Whole (e ∙ append-nil bytes) h.whole))
      whole_front (b ∷ between) e = omega (arith, h.size, short, ap length e, length-append bytes (b ∷ between))

  ends_then : (n : ℕ) (bytes more : List ℕ) → Waits F limit bytes → BeginsFrame F limit n (bytes ++ more) → (length bytes < n) × (n ≤ length bytes + length more)
  ends_then n bytes more waits h = (least waits, omega (arith, sizes.2, length-append bytes more))
    where
      sizes : (1 ≤ n) × (n ≤ limit) × (n ≤ length (bytes ++ more))
      sizes = item_size F EndsIn laws limit n (bytes ++ more) h

      least : Waits F limit bytes → length bytes < n
      least (inl none) = omega (arith, sizes.0, ap length none)
      least (inr needs) = elim (leb_tells n (length bytes)) as (λ x. length bytes < n) [
        | inl short ↦ absurd (not_within n bytes more needs h short.1)
        | inr long ↦ omega (arith, long.1)
      ]

  counted_from : (bytes more : List ℕ) (answer : Step) → StepIs F EndsIn limit (bytes ++ more) (behind (length bytes) answer)
      → (step : Step) → (answer ≡ step) ↔ StepIs F EndsIn limit (bytes ++ more) (behind (length bytes) step)
  counted_from bytes more answer h step =
      let all = exact F EndsIn laws limit (bytes ++ more) (behind (length bytes) answer) h (behind (length bytes) step) in
      (λ e. all.0 (ap (behind (length bytes)) e), λ g. one_behind (length bytes) answer step (all.1 g))

pub piece_laws : (F : Framing) (EndsIn : Cause → List ℕ → Type 0) → FramingLaws F EndsIn → PieceLaws F EndsIn
piece_laws F EndsIn laws = record {
  decided_more = λ limit bytes more step some h. step_longer F EndsIn laws limit bytes more step some h;
  no_frame_more = λ limit bytes more cause h. no_frame_longer F EndsIn laws limit bytes more cause h;
  of_part = λ limit bytes part rest step all h. part_is F EndsIn laws limit bytes part rest step all h;
  begins = λ limit n bytes. (first_item F EndsIn laws limit n bytes, item_first F EndsIn laws limit n bytes);
  few = λ limit bytes needs. fewer F EndsIn laws limit bytes needs;
  ends_behind = λ limit n bytes more waits h. ends_then F EndsIn laws limit n bytes more waits h;
  counted = λ limit bytes more answer h step. counted_from F EndsIn laws limit bytes more answer h step;
  items_more = λ limit items rest bytes more h. items_longer F limit items rest bytes more h;
}
