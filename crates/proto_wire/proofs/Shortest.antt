-- The shortest varint, a group at a time.
use Rattle.std.proofs.Common.{◌≡◌, ◌≤◌, ◌<◌, ◌^◌, ◌+◌, ◌-◌, ◌*◌, ◌/◌, ◌%◌, ◌++◌, ◌∷◌, ◌⊎◌, inl, inr, ℕ, zero, suc, List, [], length, Result, Ok, Err, OnErr, refl, ap, sym, ◌∙◌, subst, arith, rules}
use Rattle.std.proofs.lemmas.Bool.{cases_lt}
use Rattle.std.proofs.lemmas.List.{length-append, append_assoc, append-nil}
use Rattle.span_io.specs.Varint.{shortest_within, varint_text}
use Rattle.span_io.proofs.ShortestVarints.{text_within, group_end, group_last, group_more}
use Rattle.span_io.specs.Outside.{GrowsFront}

-- ---- how long it is

-- so many groups are counted, and the rest is to be counted
pub record Counted (n passed rest : ℕ) : Type 0 where
  pub count : passed + length (shortest_within (9 - passed) rest) ≡ length (varint_text n)

pub counted_first : (n : ℕ) → Counted n 0 n
counted_first n = record { count = omega (arith, ap length (text_within n)) }

pub counted_more : (n passed rest : ℕ) → Counted n passed rest → passed < 9 → 128 ≤ rest → Counted n (passed + 1) (rest / 128)
counted_more n passed rest h below most = record { count = omega (arith, h.count, ap length (group_more (9 - passed) (9 - (passed + 1)) rest (omega arith) most)) }

pub counted_end : (n passed rest : ℕ) → Counted n passed rest → rest < 128 → passed + 1 ≡ length (varint_text n)
counted_end n passed rest h below = omega (arith, h.count, ap length (group_end (9 - passed) rest below))

pub counted_last : (n passed rest : ℕ) → Counted n passed rest → 9 ≤ passed → passed + 1 ≡ length (varint_text n)
counted_last n passed rest h most =
    let none : 9 - passed ≡ 0 = omega arith in
    omega (arith, h.count, ap (λ r. length (shortest_within r rest)) none, ap length (group_last rest))

pub group_small : (room n : ℕ) → length (shortest_within room n) ≤ room + 1
group_small zero n = omega (arith, ap length (group_last n))
group_small (suc room) n = elim (cases_lt n 128) [
  | inl below ↦ omega (arith, ap length (group_end (suc room) n below))
  | inr most ↦ omega (arith, ap length (group_more (suc room) room n (omega arith) most), group_small room (n / 128))
]

pub size_small : (n : ℕ) → length (varint_text n) ≤ 10
size_small n = omega (arith, ap length (text_within n), group_small 9 n)

-- ---- pieces in a row

pub grows_none : (old new piece : List ℕ) → new ≡ old → GrowsFront old new piece
grows_none old new piece e = record { front = []; is_front = (piece, refl); grows = e ∙ sym (append-nil old) }

pub grows_first : (old new first second : List ℕ) → GrowsFront old new first → GrowsFront old new (first ++ second)
grows_first old new first second h = record {
  front = h.front;
  is_front = (h.is_front.0 ++ second, ap (λ l. l ++ second) h.is_front.1 ∙ append_assoc h.front h.is_front.0 second);
  grows = h.grows;
}

pub grows_second : (old middle new first second : List ℕ) → middle ≡ old ++ first → GrowsFront middle new second → GrowsFront old new (first ++ second)
grows_second old middle new first second e h = record {
  front = first ++ h.front;
  is_front = (h.is_front.0, ap (λ l. first ++ l) h.is_front.1 ∙ sym (append_assoc first h.front h.is_front.0));
  grows = h.grows ∙ ap (λ l. l ++ h.front) e ∙ append_assoc old first h.front;
}

pub on_err_from : {T E P : Type 0} (r : Result T E) → P → OnErr r P
on_err_from (Ok x) p = tt
on_err_from (Err e) p = p

pub ruleset in_pieces = (grows_first, grows_second, grows_none, on_err_from, length-append, append_assoc)
