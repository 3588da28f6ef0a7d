-- A record of bytes whose key and number take a byte each.
use Rattle.std.proofs.Common.{◌≡◌, ◌≤◌, ◌<◌, ◌+◌, ◌-◌, ◌/◌, ◌%◌, ◌∷◌, [], ℕ, suc, List, length, take, drop, slice_index, Some, Ok, refl, ap, arith}
use Rattle.std.proofs.lemmas.Bool.{le-ltb}
use Rattle.std.proofs.lemmas.List.{length-drop, take_all}
use Rattle.span_io.proofs.VarintFacts.{byte_read}
use Rattle.proto_wire.specs.Records.{bytes}
use Rattle.proto_wire.specs.Reading.{number_at, with_cause, held_at, record_at}
use Rattle.proto_wire.proofs.Payloads.{held_2}
use Rattle.proto_wire.proofs.Spellings.{field_in}

number_of_byte : (b : ℕ) (rest : List ℕ) → b < 128 → number_at (b ∷ rest) ≡ Ok (b, rest)
number_of_byte b rest small = ap with_cause (byte_read b (b ∷ rest) rest refl small)

held_short : (size : ℕ) (rest : List ℕ) → size < 128 → size ≤ length rest → held_at 2 (size ∷ rest) ≡ Ok (bytes (take size rest), drop size rest)
held_short size rest small fits = rw (held_2 (size ∷ rest), number_of_byte size rest small, le-ltb (length rest) size fits) refl

pub short_read : (key size : ℕ) (rest : List ℕ) → 8 ≤ key → key < 128 → key % 8 ≡ 2 → size < 128 → size ≤ length rest
    → record_at (key ∷ size ∷ rest) ≡ Ok (Some (record { number = key / 8; held = bytes (take size rest) }), drop size rest)
unfolding record_at
short_read key size rest above small kind short fits =
    rw (number_of_byte key (size ∷ rest) small, field_in key (omega arith, omega arith), kind, held_short size rest short fits) refl

-- the same of a text in which two bytes are seen, and the bytes that were taken of it
pub short_at : (text taken : List ℕ) → 2 ≤ length text → 8 ≤ slice_index text 0 → slice_index text 0 < 128 → slice_index text 0 % 8 ≡ 2 → slice_index text 1 < 128
    → 2 + slice_index text 1 ≤ length text → taken ≡ take (2 + slice_index text 1) text
    → record_at text ≡ Ok (Some (record { number = slice_index text 0 / 8; held = bytes (take (length taken - 2) (drop 2 taken)) }), drop (2 + slice_index text 1) text)
short_at [] taken long above small kind short fits e = absurd (omega arith)
short_at (key ∷ []) taken long above small kind short fits e = absurd (omega arith)
short_at (key ∷ size ∷ rest) taken long above small kind short fits e =
    let two_more : 2 + size ≡ suc (suc size) = omega arith in
    rw (take_all (length taken - 2) (drop 2 taken) (omega (arith, length-drop 2 taken)), e, two_more) (short_read key size rest above small kind short (omega (arith, fits)))
