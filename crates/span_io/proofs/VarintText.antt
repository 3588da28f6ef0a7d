-- Filling an array with the shortest varint, a group at a time.
use Rattle.std.proofs.Common.{◌≡◌, ◌≤◌, ◌<◌, ◌^◌, ◌+◌, ◌-◌, ◌/◌, ◌%◌, ◌++◌, ◌∷◌, ℕ, List, [], length, take, set, ap, sym, ◌∙◌, subst, arith}
use Rattle.std.proofs.lemmas.List.{append_assoc, take_more_set, length-set}
use Rattle.span_io.specs.Varint.{shortest_within, varint_text}
use Rattle.span_io.proofs.ShortestVarints.{text_within, group_end, group_last, group_more, below_room, room_step}

-- so many groups stand in front
pub record Filled (bytes : List ℕ) (n passed rest : ℕ) : Type 0 where
  pub size : length bytes ≡ 10
  pub parts : varint_text n ≡ take passed bytes ++ shortest_within (9 - passed) rest
  pub below : rest < below_room (9 - passed)

pub filled_first : (bytes : List ℕ) (n : ℕ) → length bytes ≡ 10 → n < 2 ^ 64 → Filled bytes n 0 n
filled_first bytes n size below = record { size = size; parts = text_within n; below = below }

pub filled_more : (bytes : List ℕ) (n passed rest : ℕ) → Filled bytes n passed rest → passed < 9 → 128 ≤ rest → Filled (set bytes passed (128 + rest % 128)) n (passed + 1) (rest / 128)
filled_more bytes n passed rest h less most = record {
  size = length-set bytes passed (128 + rest % 128) ∙ h.size;
  parts = h.parts ∙ ap (λ l. take passed bytes ++ l) (group_more (9 - passed) (9 - (passed + 1)) rest (omega arith) most)
      ∙ sym (append_assoc (take passed bytes) ((128 + rest % 128) ∷ []) (shortest_within (9 - (passed + 1)) (rest / 128)))
      ∙ ap (λ l. l ++ shortest_within (9 - (passed + 1)) (rest / 128)) (sym (take_more_set bytes passed (128 + rest % 128) (omega (arith, h.size))));
  below = room_step (9 - passed) (9 - (passed + 1)) rest (omega arith) h.below;
}

filled_all : (bytes : List ℕ) (n passed rest : ℕ) (h : Filled bytes n passed rest) → passed < 10 → shortest_within (9 - passed) rest ≡ rest ∷ [] → take (passed + 1) (set bytes passed rest) ≡ varint_text n
filled_all bytes n passed rest h less last = take_more_set bytes passed rest (omega (arith, h.size)) ∙ ap (λ l. take passed bytes ++ l) (sym last) ∙ sym h.parts

pub filled_end : (bytes : List ℕ) (n passed rest : ℕ) → Filled bytes n passed rest → passed < 9 → rest < 128 → take (passed + 1) (set bytes passed rest) ≡ varint_text n
filled_end bytes n passed rest h less below = filled_all bytes n passed rest h (omega arith) (group_end (9 - passed) rest below)

pub filled_last : (bytes : List ℕ) (n passed rest : ℕ) → Filled bytes n passed rest → passed ≡ 9 → take 10 (set bytes 9 rest) ≡ varint_text n
filled_last bytes n passed rest h nine =
    let last : shortest_within (9 - passed) rest ≡ rest ∷ [] = ap (λ p. shortest_within (9 - p) rest) nine ∙ group_last rest in
    ap (λ p. take (p + 1) (set bytes p rest)) (sym nine) ∙ filled_all bytes n passed rest h (omega arith) last

pub last_below : (bytes : List ℕ) (n passed rest : ℕ) → Filled bytes n passed rest → 9 ≤ passed → rest < 2
last_below bytes n passed rest h most = let none : 9 - passed ≡ 0 = omega arith in subst (λ r. rest < below_room r) none h.below
