-- Pieces that are written in a row, and a front of them where memory is wanted.
use Rattle.std.proofs.Common.{◌≡◌, ℕ, List, [], ◌++◌, Result, Ok, Err, OnErr, refl, sym, ap, subst, ◌∙◌, append_assoc}
use Rattle.std.proofs.lemmas.List.{append-nil}
use Rattle.span_io.specs.Outside.{GrowsFront}

-- nothing of a piece
pub grows_none : (old new piece : List ℕ) → new ≡ old → GrowsFront old new piece
grows_none old new piece e = record { front = []; is_front = (piece, refl); grows = e ∙ sym (append-nil old) }

-- a front of the first piece
pub grows_first : (old new first second : List ℕ) → GrowsFront old new first → GrowsFront old new (first ++ second)
grows_first old new first second h = record {
  front = h.front;
  is_front = (h.is_front.0 ++ second, ap (λ l. l ++ second) h.is_front.1 ∙ append_assoc h.front h.is_front.0 second);
  grows = h.grows;
}

-- the first piece, and a front of the second
pub grows_second : (old middle new first second : List ℕ) → middle ≡ old ++ first → GrowsFront middle new second → GrowsFront old new (first ++ second)
grows_second old middle new first second e h = record {
  front = first ++ h.front;
  is_front = (h.is_front.0, ap (λ l. first ++ l) h.is_front.1 ∙ sym (append_assoc first h.front h.is_front.0));
  grows = h.grows ∙ ap (λ l. l ++ h.front) e ∙ append_assoc old first h.front;
}

-- a word and a number or a text behind it are one piece
pub grows_behind_pair : (old middle new word behind second : List ℕ) → middle ≡ old ++ (word ++ behind) → GrowsFront middle new second
    → GrowsFront old new (word ++ (behind ++ second))
grows_behind_pair old middle new word behind second e h =
    subst (λ l. GrowsFront old new l) (append_assoc word behind second) (grows_second old middle new (word ++ behind) second e h)

pub on_err_from : {T E P : Type 0} (r : Result T E) → P → OnErr r P
on_err_from (Ok x) p = tt
on_err_from (Err e) p = p

pub ruleset in_pieces = (grows_behind_pair, grows_first, grows_second, grows_none, on_err_from)
