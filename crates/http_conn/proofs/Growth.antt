-- Pieces that are written in a row, and a front of them where memory is wanted.
use Rattle.std.proofs.Common.{◌≡◌, ℕ, List, [], ◌++◌, Result, Ok, Err, OnErr, OnOk, refl, sym, ap, ◌∙◌, append_assoc}
use Rattle.std.proofs.lemmas.List.{append-nil}
use Rattle.std.proofs.lemmas.Result.{on_err_weaker, on_ok_weaker}
use Rattle.span_io.specs.Outside.{GrowsFront}

pub joins : (old middle new first second : List ℕ) → middle ≡ old ++ first → new ≡ middle ++ second → new ≡ old ++ (first ++ second)
joins old middle new first second e h = h ∙ ap (λ l. l ++ second) e ∙ append_assoc old first second

pub nothing_more : (old new : List ℕ) → new ≡ old → new ≡ old ++ []
nothing_more old new e = e ∙ sym (append-nil old)

pub grows_none : (old new piece : List ℕ) → new ≡ old → GrowsFront old new piece
grows_none old new piece e = record { front = []; is_front = (piece, refl); grows = e ∙ sym (append-nil old) }

pub grows_first : (old new first second : List ℕ) → GrowsFront old new first → GrowsFront old new (first ++ second)
grows_first old new first second h = record {
  front = h.front;
  is_front = (h.is_front.0 ++ second, ap (λ l. l ++ second) h.is_front.1 ∙ append_assoc h.front h.is_front.0 second);
  grows = h.grows;
}

pub grows_second : (old middle new first second : List ℕ) → middle ≡ old ++ first → GrowsFront middle new second → GrowsFront old new (first ++ second)
grows_second old middle new first second e h = record {
  front = first ++ h.front;
  is_front = (h.is_front.0, ap (λ l. first ++ l) h.is_front.1 ∙ sym (append_assoc first h.front h.is_front.0));
  grows = h.grows ∙ ap (λ l. l ++ h.front) e ∙ append_assoc old first h.front;
}

-- at the second, third and fourth of the pieces, and further on
module _ (old m₁ new f₁ others : List ℕ) (e₁ : m₁ ≡ old ++ f₁) where
  pub joins_two : (m₂ f₂ : List ℕ) → m₂ ≡ m₁ ++ f₂ → new ≡ m₂ ++ others → new ≡ old ++ (f₁ ++ (f₂ ++ others))
  joins_two m₂ f₂ e₂ e = joins old m₁ new f₁ (f₂ ++ others) e₁ (joins m₁ m₂ new f₂ others e₂ e)

  pub grows_at_two : (f₂ : List ℕ) → GrowsFront m₁ new f₂ → GrowsFront old new (f₁ ++ (f₂ ++ others))
  grows_at_two f₂ h = grows_second old m₁ new f₁ (f₂ ++ others) e₁ (grows_first m₁ new f₂ others h)

  module _ (m₂ f₂ : List ℕ) (e₂ : m₂ ≡ m₁ ++ f₂) where
    pub grows_at_three : (f₃ : List ℕ) → GrowsFront m₂ new f₃ → GrowsFront old new (f₁ ++ (f₂ ++ (f₃ ++ others)))
    grows_at_three f₃ h = grows_second old m₁ new f₁ (f₂ ++ (f₃ ++ others)) e₁ (grows_second m₁ m₂ new f₂ (f₃ ++ others) e₂ (grows_first m₂ new f₃ others h))

    module _ (m₃ f₃ : List ℕ) (e₃ : m₃ ≡ m₂ ++ f₃) where
      pub joins_three : new ≡ m₃ ++ others → new ≡ old ++ (f₁ ++ (f₂ ++ (f₃ ++ others)))
      joins_three e = joins old m₁ new f₁ (f₂ ++ (f₃ ++ others)) e₁ (joins m₁ m₂ new f₂ (f₃ ++ others) e₂ (joins m₂ m₃ new f₃ others e₃ e))

      pub grows_past_three : GrowsFront m₃ new others → GrowsFront old new (f₁ ++ (f₂ ++ (f₃ ++ others)))
      grows_past_three h = grows_second old m₁ new f₁ (f₂ ++ (f₃ ++ others)) e₁ (grows_second m₁ m₂ new f₂ (f₃ ++ others) e₂ (grows_second m₂ m₃ new f₃ others e₃ h))

-- both at once, behind what was written before
pub both_ok : {T E : Type 0} (r : Result T E) (old middle new first second : List ℕ) → middle ≡ old ++ first → OnOk r (new ≡ middle ++ second)
    → OnOk r (new ≡ old ++ (first ++ second))
both_ok r old middle new first second e h = on_ok_weaker r (joins old middle new first second e) h

pub both_err : {T E : Type 0} (r : Result T E) (old middle new first second : List ℕ) → middle ≡ old ++ first → OnErr r (new ≡ middle)
    → OnErr r (GrowsFront old new (first ++ second))
both_err r old middle new first second e h = on_err_weaker r (λ p. grows_second old middle new first second e (grows_none middle new second p)) h

pub on_err_from : {T E P : Type 0} (r : Result T E) → P → OnErr r P
on_err_from (Ok x) p = tt
on_err_from (Err e) p = p

pub ruleset in_pieces = (joins, joins_two, joins_three, nothing_more, grows_first, grows_second, grows_at_two, grows_at_three, grows_past_three, grows_none, on_err_from)
