-- Pieces that are written in a row, and a front of them where memory is wanted.
use Rattle.std.proofs.Common.{◌≡◌, ℕ, ◌+◌, ◌*◌, ◌<◌, ◌≤◌, List, [], ◌∷◌, ◌++◌, length, take, Result, Ok, Err, OnOk, OnErr, refl, sym, ap, ◌∙◌, append_assoc, arith}
use Rattle.std.proofs.lemmas.List.{append-nil, length-append, take_at}
use Rattle.std.proofs.lemmas.Result.{on_err_weaker}
use Rattle.span_io.specs.Outside.{GrowsFront}
use Rattle.span_io.specs.Varint.{varint_text}
use Rattle.proto_wire.specs.Wire.{record_text, opening_text}
use Rattle.otlp_proto.specs.Canonical.{bytes_field, filled_field}

pub joins : (old middle new first second : List ℕ) → middle ≡ old ++ first → new ≡ middle ++ second → new ≡ old ++ (first ++ second)
joins old middle new first second e h = h ∙ ap (λ l. l ++ second) e ∙ append_assoc old first second

pub nothing_more : (old new : List ℕ) → new ≡ old → new ≡ old ++ []
nothing_more old new e = e ∙ sym (append-nil old)

pub grows_none : (old new piece : List ℕ) → new ≡ old → GrowsFront old new piece
grows_none old new piece e = record { front = []; is_front = (piece, refl); grows = e ∙ sym (append-nil old) }

pub grows_first : (old new first second : List ℕ) → GrowsFront old new first → GrowsFront old new (first ++ second)
grows_first old new first second h = record {
  front = h.front;
  is_front = (h.is_front.0 ++ second, ap (λ l. l ++ second) h.is_front.1 ∙ append_assoc h.front h.is_front.0 second);
  grows = h.grows;
}

pub grows_second : (old middle new first second : List ℕ) → middle ≡ old ++ first → GrowsFront middle new second → GrowsFront old new (first ++ second)
grows_second old middle new first second e h = record {
  front = first ++ h.front;
  is_front = (h.is_front.0, ap (λ l. first ++ l) h.is_front.1 ∙ sym (append_assoc first h.front h.is_front.0));
  grows = h.grows ∙ ap (λ l. l ++ h.front) e ∙ append_assoc old first h.front;
}

-- at the second, third and fourth of the pieces, and further on
module _ (old m₁ new f₁ others : List ℕ) (e₁ : m₁ ≡ old ++ f₁) where
  pub joins_two : (m₂ f₂ : List ℕ) → m₂ ≡ m₁ ++ f₂ → new ≡ m₂ ++ others → new ≡ old ++ (f₁ ++ (f₂ ++ others))
  joins_two m₂ f₂ e₂ e = joins old m₁ new f₁ (f₂ ++ others) e₁ (joins m₁ m₂ new f₂ others e₂ e)

  pub grows_at_two : (f₂ : List ℕ) → GrowsFront m₁ new f₂ → GrowsFront old new (f₁ ++ (f₂ ++ others))
  grows_at_two f₂ h = grows_second old m₁ new f₁ (f₂ ++ others) e₁ (grows_first m₁ new f₂ others h)

  module _ (m₂ f₂ : List ℕ) (e₂ : m₂ ≡ m₁ ++ f₂) where
    pub grows_at_three : (f₃ : List ℕ) → GrowsFront m₂ new f₃ → GrowsFront old new (f₁ ++ (f₂ ++ (f₃ ++ others)))
    grows_at_three f₃ h = grows_second old m₁ new f₁ (f₂ ++ (f₃ ++ others)) e₁ (grows_second m₁ m₂ new f₂ (f₃ ++ others) e₂ (grows_first m₂ new f₃ others h))

    module _ (m₃ f₃ : List ℕ) (e₃ : m₃ ≡ m₂ ++ f₃) where
      pub joins_three : new ≡ m₃ ++ others → new ≡ old ++ (f₁ ++ (f₂ ++ (f₃ ++ others)))
      joins_three e = joins old m₁ new f₁ (f₂ ++ (f₃ ++ others)) e₁ (joins m₁ m₂ new f₂ (f₃ ++ others) e₂ (joins m₂ m₃ new f₃ others e₃ e))

      pub grows_past_three : GrowsFront m₃ new others → GrowsFront old new (f₁ ++ (f₂ ++ (f₃ ++ others)))
      grows_past_three h = grows_second old m₁ new f₁ (f₂ ++ (f₃ ++ others)) e₁ (grows_second m₁ m₂ new f₂ (f₃ ++ others) e₂ (grows_second m₂ m₃ new f₃ others e₃ h))

pub on_err_from : {T E P : Type 0} (r : Result T E) → P → OnErr r P
on_err_from (Ok x) p = tt
on_err_from (Err e) p = p

pub ruleset in_pieces = (joins, joins_two, joins_three, nothing_more, grows_first, grows_second, grows_at_two, grows_at_three, grows_past_three, grows_none, on_err_from)

-- ---- a message in a field

pub opened : (number : ℕ) (held : List ℕ) → bytes_field number held ≡ opening_text number (length held) ++ held
unfolding record_text opening_text
opened number held = sym (append_assoc (varint_text (number * 8 + 2)) (varint_text (length held)) held)

-- what was written behind the opening, or a front of it
behind : {T E : Type 0} (written : Result T E) (begun middle held : List ℕ) → OnOk written (middle ≡ begun ++ held) → OnErr written (GrowsFront begun middle held) → (more : List ℕ) × (middle ≡ begun ++ more)
behind (Ok x) begun middle held ok err = (held, ok)
behind (Err e) begun middle held ok err = (err.front, err.grows)

module _ {T E : Type 0} (number begins : ℕ) (written : Result T E) (old begun middle held : List ℕ) (b : begins ≡ length old) (o : begun ≡ old ++ opening_text number 0) (ok : OnOk written (middle ≡ begun ++ held)) (err : OnErr written (GrowsFront begun middle held)) where
  pub opened_within : begins + length (opening_text number 0) ≤ length middle
  opened_within = let m : (more : List ℕ) × (middle ≡ begun ++ more) = behind written begun middle held ok err in
      omega (arith, b, ap length o, length-append old (opening_text number 0), ap length m.1, length-append begun m.0)

  cut_off : take begins middle ≡ old
  cut_off = let m : (more : List ℕ) × (middle ≡ begun ++ more) = behind written begun middle held ok err in
      ap (take begins) (m.1 ∙ ap (λ l. l ++ m.0) o ∙ append_assoc old (opening_text number 0) m.0) ∙ take_at old (opening_text number 0 ++ m.0) begins (sym b)

  pub front_cut : {S F : Type 0} (closed : Result S F) (new piece : List ℕ) → OnErr closed (new ≡ take begins middle) → OnErr closed (GrowsFront old new piece)
  front_cut closed new piece e = on_err_weaker closed (λ cut. grows_none old new piece (cut ∙ cut_off)) e

pub ruleset in_field = (opened_within, front_cut, grows_none, on_err_from)

-- ---- a message that is left out where it is empty

module _ (number begins : ℕ) (old new before begun held : List ℕ) (b : begins ≡ length before) (o : begun ≡ before ++ opening_text number 0) (ok : old ≡ begun ++ held) (some : begins + length (opening_text number 0) < length old) where
  filled_some : filled_field number held ≡ bytes_field number held
  filled_some = of held (omega (arith, b, ap length o, length-append before (opening_text number 0), ap length ok, length-append begun held, some))
    where
      of : (l : List ℕ) → 0 < length l → filled_field number l ≡ bytes_field number l
      of [] e = absurd (omega arith)
      of (b ∷ l) e = refl

  pub closes_filled : new ≡ before ++ (opening_text number (length held) ++ held) → new ≡ before ++ filled_field number held
  closes_filled e = e ∙ ap (λ l. before ++ l) (sym (filled_some ∙ opened number held))
