-- The first twenty bytes of a record tell how it goes on: they end in it or behind its length.
use Rattle.std.proofs.Common.{◌≡◌, ◌≢◌, ◌≤◌, ◌<◌, ◌+◌, ◌-◌, ◌*◌, ◌++◌, ◌∷◌, ◌⊎◌, inl, inr, ℕ, zero, suc, List, [], length, min, take, drop, Ok, Err, refl, ap, sym, ◌∙◌, subst, arith}
use Rattle.std.proofs.lemmas.Bool.Decides.{leb_tells}
use Rattle.std.proofs.lemmas.List.{length-append, length-take, append_assoc, append-nil, take-append-drop, take-append-le, take_all, take_min, take-take}
use Rattle.std.proofs.Math.Seq.{take-append-add}
use Rattle.span_io.specs.declared.cause.Cause.{Cause}
use Rattle.span_io.specs.declared.step.Step.{Step}
use Rattle.span_io.specs.declared.step.Step.TheVariants as steps
use Rattle.span_io.specs.Varint.{SpellsVarint, SpellsWithin}
use Rattle.span_io.specs.VarintLaws.{VarintLaws}
use Rattle.span_io.proofs.Cuts.{two_cuts, some_length}
use Rattle.span_io.specs.Frames.{BeginsFrame, IsProperFront}
use Rattle.span_io.proofs.FramingLaws.{open_whole, item_first, needs_more}
use Rattle.span_io.proofs.PieceSteps.{piece_laws}
use Rattle.proto_wire.specs.Records.{Held, varint, fixed64, bytes, fixed32, wire_type, IsFieldNumber}
use Rattle.proto_wire.specs.Wire.{SpellsHeld, IsKeyThenVarint, IsOpenRecord, HoldsLengthPast, records, RefusedBy, FirstIs, NeedsMoreBytes}
use Rattle.proto_wire.specs.Scanners.{longest_head, IsHead}
use Rattle.proto_wire.specs.private.HeldLengths.{HoldsLength, HoldsLengthWithin, Counts}
use Rattle.proto_wire.proofs.Payloads.{zeros, length-zeros, zeros_are_bytes}
use Rattle.proto_wire.specs.Reading.{number_at}
use Rattle.proto_wire.proofs.Varints.{number_read}
use Rattle.proto_wire.proofs.LengthsPast.{past_more, same_number}
use Rattle.proto_wire.proofs.FirstFrame.{record_laws}

-- ---- a length is there

within_room : (room n : ℕ) (text : List ℕ) → SpellsWithin room text n → length text ≤ room
unfolding SpellsWithin
within_room zero n text h = absurd h
within_room (suc room) n [] h = absurd h
within_room (suc room) n (b ∷ []) h = omega arith
within_room (suc room) n (b ∷ c ∷ text) h = omega (arith, within_room room h.1 (c ∷ text) h.3)

short_varint : (n : ℕ) (text : List ℕ) → SpellsVarint text n → length text ≤ 10
unfolding SpellsVarint
short_varint n text h = within_room 10 n text h

-- of two cuts of one list, the front that isn't longer
front_of : (a more b rest : List ℕ) → a ++ more ≡ b ++ rest → length b ≤ length a → (others : List ℕ) × (a ≡ b ++ others)
front_of a more b rest e short = elim (two_cuts a more b rest e) as (λ w. (others : List ℕ) × (a ≡ b ++ others)) [
  | inl w ↦ same w.between w.front
  | inr w ↦ (w.between, w.front)
]
  where
    same : (between : List ℕ) → b ≡ a ++ between → (others : List ℕ) × (a ≡ b ++ others)
    same [] f = ([], sym (f ∙ append-nil a) ∙ sym (append-nil b))
    same (x ∷ between) f = absurd (omega (arith, short, ap length f, length-append a (x ∷ between)))

module _ (text : List ℕ) (long : longest_head ≤ length text) where
  whole_length : (key payload more : List ℕ) → text ++ more ≡ key ++ payload → length text + length more ≡ length key + length payload
  whole_length key payload more e = omega (arith, ap length e, length-append text more, length-append key payload)

  held_length : (number : ℕ) (held : Held) (key payload more : List ℕ) → IsFieldNumber number → SpellsVarint key (number * 8 + wire_type held) → SpellsHeld payload held
      → text ++ more ≡ key ++ payload → more ≢ [] → (n : ℕ) × HoldsLength n text
  held_length number (varint m) key payload more good k h e some =
      absurd (omega (arith, long, short_varint (number * 8 + 0) key k, short_varint m payload h, whole_length key payload more e, some_length more some))
  held_length number (fixed64 m) key payload more good k h e some =
      absurd (omega (arith, long, short_varint (number * 8 + 1) key k, h.0, whole_length key payload more e, some_length more some))
  held_length number (fixed32 m) key payload more good k h e some =
      absurd (omega (arith, long, short_varint (number * 8 + 5) key k, h.0, whole_length key payload more e, some_length more some))
  held_length number (bytes held) key payload more good k h e some =
      let size : List ℕ = h.0 in
      let few : length (key ++ size) ≤ length text = omega (arith, long, short_varint (number * 8 + 2) key k, short_varint (length held) size h.1, length-append key size) in
      let cut = front_of text more (key ++ size) held (e ∙ ap (λ l. key ++ l) h.2 ∙ sym (append_assoc key size held)) few in (
        length key + length size + length held,
        record {
          number = number;
          is_number = good;
          key = key;
          key_spelled = k;
          size = size;
          held = length held;
          size_spelled = h.1;
          others = cut.0;
          parts = cut.1 ∙ append_assoc key size cut.0;
          bytes = refl;
        },
      )

  few_before : (front : List ℕ) → (front ≡ []) ⊎ IsKeyThenVarint front → length front ≤ 10
  few_before front (inl e) = omega (arith, ap length e)
  few_before front (inr h) = short_varint (h.number * 8 + h.wire_type) front h.spelled

  open_length : IsOpenRecord text → (n : ℕ) × HoldsLength n text
  open_length (inl p) =
      held_length p.whole.0.number p.whole.0.held p.whole.1.key p.whole.1.payload p.more p.whole.1.number p.whole.1.key_spelled p.whole.1.payload_spelled p.whole.1.parts p.some
  open_length (inr e) =
      absurd (omega (arith, long, ap length e.parts, length-append e.front e.inside, few_before e.front e.then_varint, e.unended.short))

past_of : (limit n : ℕ) (text : List ℕ) → limit < n → HoldsLength n text → HoldsLengthPast limit text
past_of limit n text less h = record {
  number = h.number;
  is_number = h.is_number;
  key = h.key;
  key_spelled = h.key_spelled;
  size = h.size;
  held = h.held;
  size_spelled = h.size_spelled;
  others = h.others;
  parts = h.parts;
  past = omega (arith, less, h.bytes);
}

-- twenty bytes that need more hold a length within the limit
pub known_length : (limit : ℕ) (head : List ℕ) → NeedsMoreBytes limit head → longest_head ≤ length head → HoldsLengthWithin limit head
known_length limit head needs long =
    let known : (n : ℕ) × HoldsLength n head = open_length head long needs.may_come in (
      known.0,
      known.1,
      (elim (leb_tells known.0 limit) as (λ x. known.0 ≤ limit) [
        | inl within ↦ within.1
        | inr beyond ↦ absurd (needs.undecided head [] (sym (append-nil head)) (inr (inl (record { may_come = needs.may_come; beyond = inr (past_of limit known.0 head (omega (arith, beyond.1)) known.1) }))))
      ]),
    )

-- ---- what follows of a length

holds_more : (n : ℕ) (text more : List ℕ) → HoldsLength n text → HoldsLength n (text ++ more)
holds_more n text more h = record {
  number = h.number;
  is_number = h.is_number;
  key = h.key;
  key_spelled = h.key_spelled;
  size = h.size;
  held = h.held;
  size_spelled = h.size_spelled;
  others = h.others ++ more;
  parts = ap (λ l. l ++ more) h.parts ∙ append_assoc h.key (h.size ++ h.others) more ∙ ap (λ l. h.key ++ l) (append_assoc h.size h.others more);
  bytes = h.bytes;
}

length_of : (n : ℕ) (text : List ℕ) (h : HoldsLength n text) → length text ≡ length h.key + (length h.size + length h.others)
length_of n text h = omega (arith, ap length h.parts, length-append h.key (h.size ++ h.others), length-append h.size h.others)

-- a record of so many bytes begins where they are there
begins_whole : (limit n : ℕ) (text : List ℕ) → HoldsLength n text → n ≤ length text → n ≤ limit → BeginsFrame records limit n text
begins_whole limit n text h there within =
    let held : List ℕ = take h.held h.others in
    let size : length held ≡ h.held = omega (arith, length-take h.held h.others, length_of n text h, h.bytes, there) in
    record {
      text = h.key ++ (h.size ++ held);
      rest = drop h.held h.others;
      whole = (
        record { number = h.number; held = bytes held },
        record {
          number = h.is_number;
          key = h.key;
          payload = h.size ++ held;
          key_spelled = h.key_spelled;
          payload_spelled = (h.size, subst (λ m. SpellsVarint h.size m) (sym size) h.size_spelled, refl);
          parts = refl;
        },
      );
      parts = h.parts ∙ ap (λ l. h.key ++ (h.size ++ l)) (sym (take-append-drop h.held h.others))
          ∙ ap (λ l. h.key ++ l) (sym (append_assoc h.size held (drop h.held h.others)))
          ∙ sym (append_assoc h.key (h.size ++ held) (drop h.held h.others));
      size = omega (arith, length-append h.key (h.size ++ held), length-append h.size held, size, h.bytes);
      within = within;
    }

-- a frame of all the bytes is they
all_whole : (limit n : ℕ) (text : List ℕ) → length text ≡ n → BeginsFrame records limit n text → records.Whole text
all_whole limit n text e h = by_rest h.rest h.parts
  where
    by_rest : (rest : List ℕ) → text ≡ h.text ++ rest → records.Whole text
    by_rest [] f = subst records.Whole (sym (f ∙ append-nil h.text)) h.whole
    by_rest (b ∷ rest) f = absurd (omega (arith, e, h.size, ap length f, length-append h.text (b ∷ rest)))

module _ (L : VarintLaws) where
  -- they need more where they aren't
  needs_rest : (limit n : ℕ) (text : List ℕ) → HoldsLength n text → length text < n → n ≤ limit → NeedsMoreBytes limit text
  needs_rest limit n text h short within =
      let more : List ℕ = zeros (n - length text) in
      let all : length (text ++ more) ≡ n = omega (arith, length-append text more, length-zeros (n - length text), short) in
      let whole : records.Whole (text ++ more) = all_whole limit n (text ++ more) all (begins_whole limit n (text ++ more) (holds_more n text more h) (omega (arith, all)) within) in
      let proper : IsProperFront records text = record {
        more = more;
        are_bytes = zeros_are_bytes (n - length text);
        some = λ e. omega (arith, ap length e, length-zeros (n - length text), short);
        whole = whole;
      } in
      needs_more records RefusedBy (record_laws L) limit text (inl proper) (omega (arith, short, within))
      (λ past. open_whole records RefusedBy (record_laws L) (text ++ more) ((record_laws L).until_then limit (text ++ more) (past_more limit text more past) (omega (arith, all, within))) whole)

  -- ---- reading a length

  key_read : (n : ℕ) (text : List ℕ) (h : HoldsLength n text) → number_at text ≡ Ok (h.number * 8 + 2, h.size ++ h.others)
  key_read n text h = ap number_at h.parts ∙ number_read L (h.number * 8 + 2) h.key (h.size ++ h.others) h.key_spelled

  size_read : (n : ℕ) (text : List ℕ) (h : HoldsLength n text) → number_at (h.size ++ h.others) ≡ Ok (h.held, h.others)
  size_read n text h = number_read L h.held h.size h.others h.size_spelled

  pub no_key : (n : ℕ) (text : List ℕ) (cause : Cause) → HoldsLength n text → number_at text ≡ Err cause → ⊥
  no_key n text cause h e = let read = key_read n text h in cc

  behind_key : (n : ℕ) (text behind : List ℕ) (key : ℕ) (h : HoldsLength n text) → number_at text ≡ Ok (key, behind) → h.size ++ h.others ≡ behind
  behind_key n text behind key h e = ap (λ x. x.1) (same_number (h.number * 8 + 2, h.size ++ h.others) (key, behind) (sym (key_read n text h) ∙ e))

  pub no_size : (n : ℕ) (text behind : List ℕ) (key : ℕ) (cause : Cause) → HoldsLength n text → number_at text ≡ Ok (key, behind) → number_at behind ≡ Err cause → ⊥
  no_size n text behind key cause h e f = let read : number_at behind ≡ Ok (h.held, h.others) = ap number_at (sym (behind_key n text behind key h e)) ∙ size_read n text h in cc

  pub full_length : (n : ℕ) (text behind others : List ℕ) (key size place : ℕ) → HoldsLength n text → number_at text ≡ Ok (key, behind) → number_at behind ≡ Ok (size, others)
      → place + length others ≡ length text → place + size ≡ n
  full_length n text behind others key size place h e f at =
      let pairs = same_number (h.held, h.others) (size, others) (sym (size_read n text h) ∙ ap number_at (behind_key n text behind key h e) ∙ f) in
      omega (arith, at, length_of n text h, h.bytes, ap (λ x. x.0) pairs, ap (λ x. length x.1) pairs)

  -- ---- by the head

  short_head : (head all : List ℕ) → IsHead head all → length head < longest_head → head ≡ all
  short_head head all e short = e ∙ take_all longest_head all (omega (arith, ap length e, length-take longest_head all, short))

  long_head : (head all : List ℕ) → IsHead head all → all ≡ head ++ drop longest_head all
  long_head head all e = sym (take-append-drop longest_head all) ∙ ap (λ l. l ++ drop longest_head all) (sym e)

  module _ (limit : ℕ) (head all : List ℕ) (is_head : IsHead head all) where
    pub head_needs : length head < longest_head → NeedsMoreBytes limit head → NeedsMoreBytes limit all
    head_needs short needs = subst (λ l. NeedsMoreBytes limit l) (short_head head all is_head short) needs

    pub head_decides : (step : Step) → step ≢ steps.Need → FirstIs limit head step → FirstIs limit all step
    head_decides step some h =
        subst (λ l. FirstIs limit l step) (sym (long_head head all is_head))
        ((piece_laws records RefusedBy (record_laws L)).decided_more limit head (drop longest_head all) step some h)

    module _ (n there : ℕ) (h : HoldsLength n head) (within : n ≤ limit) (counts : Counts limit there all) where
      holds_all : HoldsLength n all
      holds_all = subst (λ l. HoldsLength n l) (sym (long_head head all is_head)) (holds_more n head (drop longest_head all) h)

      pub length_needs : there < n → NeedsMoreBytes limit all
      length_needs less = needs_rest limit n all holds_all (omega (arith, less, counts.below (omega (arith, less, within)))) within

      pub length_decides : n ≤ there → FirstIs limit all (steps.Unit n)
      length_decides enough = item_first records RefusedBy (record_laws L) limit n all (begins_whole limit n all holds_all (omega (arith, enough, counts.at_most)) within)

-- ---- the head of more bytes

-- a head with as much of a piece as there is room for
pub kept_front : (head piece : List ℕ) (room kept : ℕ) → room + length head ≡ longest_head → kept ≡ min room (length piece) → head ++ take kept piece ≡ take longest_head (head ++ piece)
kept_front head piece room kept e f =
    let all : length head + room ≡ longest_head = omega (arith, e) in
    ap (λ m. head ++ take m piece) f ∙ ap (λ l. head ++ l) (take_min room piece) ∙ sym (take-append-add head piece room)
    ∙ ap (λ m. take m (head ++ piece)) all

pub head_of_more : (head all piece longer : List ℕ) → IsHead head all → longer ≡ take longest_head (head ++ piece) → IsHead longer (all ++ piece)
head_of_more head all piece longer e f = f ∙ (elim (leb_tells longest_head (length all)) as (λ x. take longest_head (head ++ piece) ≡ take longest_head (all ++ piece)) [
  | inl long ↦ take-append-le longest_head head piece (omega (arith, ap length e, length-take longest_head all, long.1))
      ∙ ap (take longest_head) e ∙ take-take longest_head longest_head all (omega arith) ∙ sym (take-append-le longest_head all piece long.1)
  | inr short ↦ ap (λ l. take longest_head (l ++ piece)) (e ∙ take_all longest_head all (omega (arith, short.1)))
])
