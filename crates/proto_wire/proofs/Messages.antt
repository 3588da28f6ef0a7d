-- One reading of a record and of a message, and the shortest spelling.
use Rattle.std.proofs.Common.{◌≡◌, ◌≤◌, ◌<◌, ◌^◌, ◌+◌, ◌*◌, ◌++◌, ◌∷◌, ℕ, List, [], length, Some, None, Ok, All, refl, ap, sym, ◌∙◌, subst, arith}
use Rattle.std.proofs.lemmas.List.{length-append, append_assoc, append-nil, get_or_append_left, get_or-append-add}
use Rattle.std.proofs.lemmas.Nat.{from_le_bytes-to_le_bytes_4, from_le_bytes-to_le_bytes_8}
use Rattle.std.specs.Int.{w32, w64, to_le_bytes}
use Rattle.span_io.specs.Varint.{varint_text}
use Rattle.proto_wire.specs.Records.{Held, varint, fixed64, bytes, fixed32, Record, wire_type, IsFieldNumber, IsProper, FitsHeld}
use Rattle.proto_wire.specs.Wire.{SpellsHeld, SpellsRecord, BeginsRecord, Wire, key_of, held_text, record_text, opening_text}
use Rattle.proto_wire.specs.Reading.{record_at}
use Rattle.span_io.specs.VarintLaws.{VarintLaws, ShortestLaws}
use Rattle.proto_wire.proofs.Spellings.{record_none, spelled_read, begins_read}
use Rattle.proto_wire.proofs.Refusals.{Given, same_rest, same_next}

record_same : (r s : Record) → Some r ≡ Some s → r ≡ s
record_same r s e = cc

module _ (L : VarintLaws) where
  pub one_record : (text other more : List ℕ) (r s : Record) → SpellsRecord text r → SpellsRecord other s → other ≡ text ++ more → (more ≡ []) × (r ≡ s)
  one_record text other more r s first second e =
      let longer : record_at (text ++ more) ≡ Ok (Some r, more) = spelled_read L text more r first in
      let whole : record_at other ≡ Ok (Some s, []) = ap record_at (sym (append-nil other)) ∙ spelled_read L other [] s second in
      let both : Given (Some r, more) ≡ Given (Some s, []) = sym longer ∙ ap record_at (sym e) ∙ whole in
      (same_rest (Some r, more) (Some s, []) both, record_same r s (same_next (Some r, more) (Some s, []) both))

  not_empty : (rest : List ℕ) (r : Record) → BeginsRecord r [] rest → ⊥
  not_empty rest r h = let some : record_at [] ≡ Ok (Some r, rest) = begins_read L [] rest r h in
      let none : None ≡ Some r = same_next (None, []) (Some r, rest) (sym record_none ∙ some) in
      cc

  pub one_message : (text : List ℕ) (first second : List Record) → Wire first text → Wire second text → first ≡ second
  unfolding Wire
  one_message text [] [] h k = refl
  one_message text [] (s ∷ second) h k = absurd (not_empty k.0 s (subst (λ l. BeginsRecord s l k.0) h k.1))
  one_message text (r ∷ first) [] h k = absurd (not_empty h.0 r (subst (λ l. BeginsRecord r l h.0) k h.1))
  one_message text (r ∷ first) (s ∷ second) h k =
      let both : Given (Some r, h.0) ≡ Given (Some s, k.0) = sym (begins_read L text h.0 r h.1) ∙ begins_read L text k.0 s k.1 in
      let same : r ≡ s = record_same r s (same_next (Some r, h.0) (Some s, k.0) both) in
      let rest : h.0 ≡ k.0 = same_rest (Some r, h.0) (Some s, k.0) both in
      let others : first ≡ second = one_message k.0 first second (subst (λ l. Wire first l) rest h.2) k.2 in
      ap (λ x. x ∷ first) same ∙ ap (λ l. s ∷ l) others

-- ---- writing

pub opened : (number : ℕ) (held : List ℕ) → record_text (record { number = number; held = bytes held }) ≡ opening_text number (length held) ++ held
unfolding record_text opening_text
opened number held = sym (append_assoc (varint_text (number * 8 + 2)) (varint_text (length held)) held)

key_fits : (number wire : ℕ) → IsFieldNumber number → wire < 8 → number * 8 + wire < 2 ^ 64
key_fits number wire h below = omega arith

wire_small : (held : Held) → wire_type held < 8
wire_small (varint n) = omega arith
wire_small (fixed64 n) = omega arith
wire_small (bytes b) = omega arith
wire_small (fixed32 n) = omega arith

all_front : (a b : List ℕ) → All (λ x. x < 256) (a ++ b) → All (λ x. x < 256) a
all_front a b h k d below = subst (λ x. x < 256) (get_or_append_left a b d k below) (h k d (omega (arith, length-append a b)))

all_behind : (a b : List ℕ) → All (λ x. x < 256) (a ++ b) → All (λ x. x < 256) b
all_behind a b h k d below = subst (λ x. x < 256) (get_or-append-add a b k d) (h (length a + k) d (omega (arith, length-append a b)))

module _ (S : ShortestLaws) where
  held_spelled : (held : Held) → FitsHeld held → SpellsHeld (held_text held) held
  held_spelled (varint n) h = S.spelled n h
  held_spelled (fixed64 n) h = (refl, sym (from_le_bytes-to_le_bytes_8 n h))
  held_spelled (bytes b) h = (varint_text (length b), S.spelled (length b) h, refl)
  held_spelled (fixed32 n) h = (refl, sym (from_le_bytes-to_le_bytes_4 n h))

  pub spelled : (r : Record) → IsProper r → SpellsRecord (record_text r) r
  unfolding record_text
  spelled r h = record {
    number = h.number;
    key = varint_text (key_of r);
    payload = held_text r.held;
    key_spelled = S.spelled (key_of r) (key_fits r.number (wire_type r.held) h.number (wire_small r.held));
    payload_spelled = held_spelled r.held h.held;
    parts = refl;
  }

  held_shortest : (held : Held) (text : List ℕ) → All (λ b. b < 256) text → SpellsHeld text held → length (held_text held) ≤ length text
  held_shortest (varint n) text within h = S.shortest n text within h
  held_shortest (fixed64 n) text within h = let eight : length (to_le_bytes w64 n) ≡ 8 = refl in omega (arith, h.0)
  held_shortest (bytes b) text within h =
      let size : length (varint_text (length b)) ≤ length h.0 = S.shortest (length b) h.0 (all_front h.0 b (subst (λ l. All (λ b. b < 256) l) h.2 within)) h.1 in
      omega (arith, length-append (varint_text (length b)) b, length-append h.0 b, ap length h.2)
  held_shortest (fixed32 n) text within h = let four : length (to_le_bytes w32 n) ≡ 4 = refl in omega (arith, h.0)

  pub shortest : (r : Record) (text : List ℕ) → All (λ b. b < 256) text → SpellsRecord text r → length (record_text r) ≤ length text
  unfolding record_text
  shortest r text within h =
      let parted : All (λ b. b < 256) (h.key ++ h.payload) = subst (λ l. All (λ b. b < 256) l) h.parts within in
      let key : length (varint_text (key_of r)) ≤ length h.key = S.shortest (key_of r) h.key (all_front h.key h.payload parted) h.key_spelled in
      let held : length (held_text r.held) ≤ length h.payload = held_shortest r.held h.payload (all_behind h.key h.payload parted) h.payload_spelled in
      omega (arith, length-append (varint_text (key_of r)) (held_text r.held), length-append h.key h.payload, ap length h.parts)
