-- A length that takes the place of a byte in front of what it is the length of.
use Rattle.std.proofs.Common.{◌≡◌, ◌≤◌, ◌<◌, ◌^◌, ◌+◌, ◌-◌, ◌*◌, ◌/◌, ◌%◌, ◌++◌, ◌∷◌, ℕ, List, [], length, take, drop, ap, sym, ◌∙◌, arith}
use Rattle.std.proofs.lemmas.List.{length-append, append_assoc, append-nil, take-append-drop, take_at, drop_at, drop-drop, length-take-le, length-drop, take-take}
use Rattle.span_io.specs.Varint.{shortest_within, varint_text}
use Rattle.proto_wire.specs.Wire.{opening_text}
use Rattle.span_io.proofs.ShortestVarints.{one_byte, text_within, group_end, group_last, group_more, below_room, room_step}

-- the groups so far stand in front of the byte
pub record Inserted (old new : List ℕ) (place n passed rest : ℕ) : Type 0 where
  pub front : List ℕ
  pub grows : new ≡ (take place old ++ front) ++ drop place old
  pub parts : varint_text n ≡ front ++ shortest_within (9 - passed) rest
  pub below : rest < below_room (9 - passed)
  pub within : place < length old

pub inserted_first : (old : List ℕ) (place n : ℕ) → place < length old → n < 2 ^ 64 → Inserted old old place n 0 n
inserted_first old place n within below = record {
  front = [];
  grows = sym (ap (λ l. l ++ drop place old) (append-nil (take place old)) ∙ take-append-drop place old);
  parts = text_within n;
  below = below;
  within = within;
}

module _ (old new : List ℕ) (place n passed rest : ℕ) (h : Inserted old new place n passed rest) where
  taken : length (take place old) ≡ place
  taken = length-take-le place old (omega (arith, h.within))

  pub longer : length old - place ≤ length new
  longer = omega (arith, ap length h.grows, length-append (take place old ++ h.front) (drop place old), length-drop place old)

  -- where the byte has moved to
  module _ (at : ℕ) (is : at + (length old - place) ≡ length new) where
    seam : length (take place old ++ h.front) ≡ at
    seam = omega (arith, ap length h.grows, length-append (take place old ++ h.front) (drop place old), length-drop place old, h.within, is)

    front_is : take at new ≡ take place old ++ h.front
    front_is = ap (take at) h.grows ∙ take_at (take place old ++ h.front) (drop place old) at seam

    rest_is : drop at new ≡ drop place old
    rest_is = ap (drop at) h.grows ∙ drop_at (take place old ++ h.front) (drop place old) at seam

    pub at_within : at < length new
    at_within = omega (arith, ap length h.grows, length-append (take place old ++ h.front) (drop place old), seam, length-drop place old, h.within)

    pub inserted_more : (next : List ℕ) → passed < 9 → 128 ≤ rest → next ≡ take at new ++ ((128 + rest % 128) ∷ drop at new) → Inserted old next place n (passed + 1) (rest / 128)
    inserted_more next less most e = record {
      front = h.front ++ (128 + rest % 128) ∷ [];
      grows = e ∙ ap (λ l. l ++ ((128 + rest % 128) ∷ drop at new)) front_is ∙ ap (λ l. (take place old ++ h.front) ++ ((128 + rest % 128) ∷ l)) rest_is
          ∙ append_assoc (take place old) h.front ((128 + rest % 128) ∷ drop place old)
          ∙ ap (λ l. take place old ++ l) (sym (append_assoc h.front ((128 + rest % 128) ∷ []) (drop place old)))
          ∙ sym (append_assoc (take place old) (h.front ++ (128 + rest % 128) ∷ []) (drop place old));
      parts = h.parts ∙ ap (λ l. h.front ++ l) (group_more (9 - passed) (9 - (passed + 1)) rest (omega arith) most) ∙ sym (append_assoc h.front ((128 + rest % 128) ∷ []) (shortest_within (9 - (passed + 1)) (rest / 128)));
      below = room_step (9 - passed) (9 - (passed + 1)) rest (omega arith) h.below;
      within = h.within;
    }

    set_all : (next : List ℕ) → shortest_within (9 - passed) rest ≡ rest ∷ [] → next ≡ take at new ++ (rest ∷ drop (at + 1) new) → next ≡ take place old ++ (varint_text n ++ drop (place + 1) old)
    set_all next last e =
        let others : drop (at + 1) new ≡ drop (place + 1) old = sym (drop-drop 1 at new) ∙ ap (drop 1) rest_is ∙ drop-drop 1 place old in
        e ∙ ap (λ l. l ++ (rest ∷ drop (at + 1) new)) front_is ∙ ap (λ l. (take place old ++ h.front) ++ (rest ∷ l)) others
        ∙ append_assoc (take place old) h.front (rest ∷ drop (place + 1) old)
        ∙ ap (λ l. take place old ++ l) (sym (append_assoc h.front (rest ∷ []) (drop (place + 1) old)) ∙ ap (λ l. l ++ drop (place + 1) old) (ap (λ l. h.front ++ l) (sym last) ∙ sym h.parts))

    pub set_end : (next : List ℕ) → rest < 128 → next ≡ take at new ++ (rest ∷ drop (at + 1) new) → next ≡ take place old ++ (varint_text n ++ drop (place + 1) old)
    set_end next below e = set_all next (group_end (9 - passed) rest below) e

    pub set_last : (next : List ℕ) → 9 ≤ passed → next ≡ take at new ++ (rest ∷ drop (at + 1) new) → next ≡ take place old ++ (varint_text n ++ drop (place + 1) old)
    set_last next most e = let none : 9 - passed ≡ 0 = omega arith in set_all next (ap (λ r. shortest_within r rest) none ∙ group_last rest) e

  pub kept_front : (next : List ℕ) → next ≡ new → take place next ≡ take place old
  kept_front next e = ap (take place) (e ∙ h.grows ∙ append_assoc (take place old) h.front (drop place old)) ∙ take_at (take place old) (h.front ++ drop place old) place taken

pub set_short : (old new : List ℕ) (place n : ℕ) → n < 128 → new ≡ take place old ++ (n ∷ drop (place + 1) old) → new ≡ take place old ++ (varint_text n ++ drop (place + 1) old)
set_short old new place n below e = e ∙ ap (λ l. take place old ++ (l ++ drop (place + 1) old)) (sym (one_byte n below))

-- ---- a record that was opened with no length

pub no_length : (number : ℕ) → opening_text number 0 ≡ varint_text (number * 8 + 2) ++ 0 ∷ []
unfolding opening_text
no_length number = ap (λ l. varint_text (number * 8 + 2) ++ l) (one_byte 0 (omega arith))

pub short_opening : (number : ℕ) → number < 16 → opening_text number 0 ≡ (number * 8 + 2) ∷ 0 ∷ []
short_opening number small = no_length number ∙ ap (λ l. l ++ 0 ∷ []) (one_byte (number * 8 + 2) (omega (arith, small)))

pub opened_length : (number : ℕ) → length (opening_text number 0) ≡ length (varint_text (number * 8 + 2)) + 1
opened_length number = omega (arith, ap length (no_length number), length-append (varint_text (number * 8 + 2)) (0 ∷ []))

pub closed : (number begins place size : ℕ) (old new before held : List ℕ) → begins ≡ length before → old ≡ (before ++ opening_text number 0) ++ held → place ≡ begins + length (varint_text (number * 8 + 2))
    → size ≡ length old - (place + 1) → new ≡ take place old ++ (varint_text size ++ drop (place + 1) old) → new ≡ before ++ (opening_text number (length held) ++ held)
unfolding opening_text
closed number begins place size old new before held b o p s e =
    let key : List ℕ = varint_text (number * 8 + 2) in
    let whole : old ≡ (before ++ key) ++ (0 ∷ held) =
    o ∙ ap (λ l. (before ++ l) ++ held) (no_length number) ∙ ap (λ l. l ++ held) (sym (append_assoc before key (0 ∷ []))) ∙ append_assoc (before ++ key) (0 ∷ []) held in
    let seam : length (before ++ key) ≡ place = omega (arith, length-append before key, b, p) in
    let front : take place old ≡ before ++ key = ap (take place) whole ∙ take_at (before ++ key) (0 ∷ held) place seam in
    let behind : drop (place + 1) old ≡ held = sym (drop-drop 1 place old) ∙ ap (drop 1) (ap (drop place) whole ∙ drop_at (before ++ key) (0 ∷ held) place seam) in
    let whole_size : size ≡ length held = omega (arith, ap length whole, length-append (before ++ key) (0 ∷ held), seam, s) in
    e ∙ ap (λ l. l ++ (varint_text size ++ drop (place + 1) old)) front ∙ ap (λ n. (before ++ key) ++ (varint_text n ++ drop (place + 1) old)) whole_size
    ∙ ap (λ l. (before ++ key) ++ (varint_text (length held) ++ l)) behind
    ∙ append_assoc before key (varint_text (length held) ++ held) ∙ ap (λ l. before ++ l) (sym (append_assoc key (varint_text (length held)) held))

-- what is cut back to where the record begins
pub cut_back : (begins place : ℕ) (old new : List ℕ) → begins ≤ place → place ≤ length old → take place new ≡ take place old → take begins new ≡ take begins old
cut_back begins place old new le within e = sym (ends new) ∙ ap (take begins) e ∙ ends old
  where
    ends : (l : List ℕ) → take begins (take place l) ≡ take begins l
    ends l = take-take begins place l le
