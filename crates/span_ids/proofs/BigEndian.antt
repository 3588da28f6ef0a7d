-- The number that bytes make, the most significant one first: when it is above zero, and what its own bytes make.
use Rattle.std.proofs.Common.{◌≡◌, ◌≢◌, ℕ, zero, suc, ◌+◌, ◌-◌, ◌*◌, ◌/◌, ◌%◌, ◌^◌, ◌<◌, ◌≤◌, ◌⊎◌, inl, inr, List, length, slice_index, Any, refl, sym, ap, ◌∙◌, subst, arith}
use Rattle.std.proofs.Math.Nat as nat
use Rattle.std.proofs.lemmas.List.{get_or_default}
use Rattle.std.proofs.lemmas.Nat.{from_be_bytes-to_be_bytes_8}
use Rattle.std.specs.Array.{IsWholeChunk}
use Rattle.std.specs.Int.{w64, w128, sum_through, byte_at, byte_worth, from_be_bytes, to_be_bytes}
use Rattle.span_ids.specs.Identifiers.{SpellsTraceId, SpellsSpanId}

zero_or_above : (n : ℕ) → (n ≡ 0) ⊎ (0 < n)
zero_or_above zero = inl refl
zero_or_above (suc n) = inr (omega arith)

-- a sum above zero has a part above zero
part_above : (f : ℕ → ℕ) (k : ℕ) → 0 < sum_through f k → (i : ℕ) × (i ≤ k) × (0 < f i)
part_above f zero above = (0, omega arith, above)
part_above f (suc k) above =
    elim (zero_or_above (f (suc k))) [
      | inl none ↦ let found = part_above f k (omega arith) in (found.0, omega arith, found.2)
      | inr some ↦ (suc k, omega arith, some)
    ]

worth-zero : (i : ℕ) → byte_worth i 0 ≡ 0
worth-zero zero = refl
worth-zero (suc i) = nat.zero-mul (256 ^ suc i)

-- bytes that make a number above zero are not all zero
pub not_all_zero : (bytes : List ℕ) (last : ℕ) → length bytes ≡ last + 1
    → 0 < sum_through (λ i. byte_worth (last - i) (slice_index bytes i)) last → Any (λ b. b ≢ 0) bytes
not_all_zero bytes last size above =
    let part = part_above (λ i. byte_worth (last - i) (slice_index bytes i)) last above in
    let within : part.0 < length bytes = omega arith in (
      part.0,
      slice_index bytes part.0,
      within,
      get_or_default bytes part.0 _ 0 within,
      λ is_zero.
          let worthless : byte_worth (last - part.0) (slice_index bytes part.0) ≡ 0 = ap (byte_worth (last - part.0)) is_zero ∙ worth-zero (last - part.0) in
          omega arith,
    )

-- a quotient in place of a number: its lowest byte, and the rest
byte_and_rest : (n p : ℕ) → n / p ≡ n / p % 256 + n / (p * 256) * 256
byte_and_rest n p = omega (arith, nat.div-div-eq-div-mul n p 256)

carried : (s q r t p n : ℕ) → s + q * p ≡ n → q ≡ r + t * 256 → s + r * p + t * (p * 256) ≡ n
carried s q r t p n whole split = grind (arith, nat.add-mul r (t * 256) p, nat.mul_assoc t p 256, nat.mul_right_comm t p 256, ap (λ m. m * p) split)

-- the bytes of n up to byte k, the lowest first, and what is left above them
low_bytes : (n k : ℕ) → sum_through (λ i. byte_worth i (byte_at i n)) k + n / 256 ^ suc k * 256 ^ suc k ≡ n
low_bytes n zero = omega arith
low_bytes n (suc k) = rw (nat.pow-suc 256 (suc k)) (carried _ _ _ _ _ n (low_bytes n k) (byte_and_rest n (256 ^ suc k)))

pub all_bytes : (n k : ℕ) → n < 256 ^ suc k → sum_through (λ i. byte_worth i (byte_at i n)) k ≡ n
all_bytes n k fits =
    let none_left : n / 256 ^ suc k * 256 ^ suc k ≡ 0 = rw (nat.div-eq_of_lt fits) (nat.zero-mul (256 ^ suc k)) in
    omega (arith, low_bytes n k)

turned_16 : (f : ℕ → ℕ) → sum_through (λ i. f (15 - i)) 15 ≡ sum_through f 15
turned_16 f = omega arith

from_be_bytes-to_be_bytes_16 : (n : ℕ) → n < 2 ^ 128 → from_be_bytes w128 (to_be_bytes w128 n) ≡ n
from_be_bytes-to_be_bytes_16 n fits = turned_16 (λ i. byte_worth i (byte_at i n)) ∙ all_bytes n 15 fits

-- the bytes of an identifier spell it
pub trace_spelled : (id : ℕ) → 0 < id → id < 2 ^ 128 → SpellsTraceId (to_be_bytes w128 id) id
trace_spelled id above fits =
    let back = from_be_bytes-to_be_bytes_16 id fits in
    ((refl, not_all_zero (to_be_bytes w128 id) 15 refl (subst (λ n. 0 < n) (sym back) above)), sym back)

pub span_spelled : (id : ℕ) → 0 < id → id < 2 ^ 64 → SpellsSpanId (to_be_bytes w64 id) id
span_spelled id above fits =
    let back = from_be_bytes-to_be_bytes_8 id fits in
    ((refl, not_all_zero (to_be_bytes w64 id) 7 refl (subst (λ n. 0 < n) (sym back) above)), sym back)

-- what is read of so many bytes, if it is not zero, is what they spell
pub trace_read : (bytes array : List ℕ) (n : ℕ) → IsWholeChunk bytes array 16 → n ≡ from_be_bytes w128 array → n ≢ 0 → SpellsTraceId bytes n
trace_read bytes array n chunk is not_zero =
    let read : n ≡ from_be_bytes w128 bytes = is ∙ ap (from_be_bytes w128) chunk.same in
    ((chunk.long, not_all_zero bytes 15 chunk.long (omega arith)), read)

pub span_read : (bytes array : List ℕ) (n : ℕ) → IsWholeChunk bytes array 8 → n ≡ from_be_bytes w64 array → n ≢ 0 → SpellsSpanId bytes n
span_read bytes array n chunk is not_zero =
    let read : n ≡ from_be_bytes w64 bytes = is ∙ ap (from_be_bytes w64) chunk.same in
    ((chunk.long, not_all_zero bytes 7 chunk.long (omega arith)), read)
