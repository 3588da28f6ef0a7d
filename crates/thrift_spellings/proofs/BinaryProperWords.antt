-- What bytes spell in the binary protocol has the bits of its type.
use Rattle.std.proofs.Common.{◌≡◌, ℕ, ◌<◌, ◌^◌, zero, suc, List, [], ◌∷◌, length, get_or, sym, subst, arith}
use Rattle.std.specs.Prelude.{FitsSigned}
use Rattle.std.specs.Int.{w32, w64, from_be_bytes, cast_signed}
use Rattle.std.proofs.Math.Facts.{sfits_to_z, of_z-to_z}
use Rattle.std.proofs.lemmas.List.Elements.{All-head, All-tail}
use Rattle.span_io.specs.Frames.{AreBytes}
use Rattle.thrift_core.specs.Protocols.{IsProperLong, SpellsProper}
use Rattle.thrift_spellings.specs.BinarySpelling.{binary_spells}

byte_at : (text : List ℕ) → AreBytes text → (i : ℕ) → get_or text i 0 < 256
byte_at [] all i = omega arith
byte_at (x ∷ text) all zero = All-head (λ b. b < 256) x text all
byte_at (x ∷ text) all (suc i) = byte_at text (All-tail (λ b. b < 256) x text all) i

low_4 : (text : List ℕ) → AreBytes text → from_be_bytes w32 text < 2 ^ 32
low_4 text all =
    let b0 = byte_at text all 0 in
    let b1 = byte_at text all 1 in
    let b2 = byte_at text all 2 in
    let b3 = byte_at text all 3 in
    omega (arith, b0, b1, b2, b3)

low_8 : (text : List ℕ) → AreBytes text → from_be_bytes w64 text < 2 ^ 64
low_8 text all =
    let b0 = byte_at text all 0 in
    let b1 = byte_at text all 1 in
    let b2 = byte_at text all 2 in
    let b3 = byte_at text all 3 in
    let b4 = byte_at text all 4 in
    let b5 = byte_at text all 5 in
    let b6 = byte_at text all 6 in
    let b7 = byte_at text all 7 in
    omega (arith, b0, b1, b2, b3, b4, b5, b6, b7)

int_fits : (m : ℕ) → m < 2 ^ 32 → FitsSigned w32 (cast_signed w32 m)
int_fits m lt = sfits_to_z {w = w32} {n = m} (record { fits = lt })

long_fits : (m : ℕ) → m < 2 ^ 64 → IsProperLong (cast_signed w64 m)
long_fits m lt = (sfits_to_z {w = w64} {n = m} (record { fits = lt }), subst (λ n. n < 2 ^ 64) (sym (of_z-to_z {w = w64} {n = m} (record { fits = lt }))) lt)

pub binary_spells_proper : SpellsProper binary_spells
binary_spells_proper = record {
  int = λ n text all h. subst (FitsSigned w32) (sym h.1) (int_fits (from_be_bytes w32 text) (low_4 text all));
  long = λ n text all h. subst IsProperLong (sym h.1) (long_fits (from_be_bytes w64 text) (low_8 text all));
  eight = λ bytes text all h. (subst (λ (l : List ℕ). length l ≡ 8) (sym h.1) h.0, subst AreBytes (sym h.1) all);
}
