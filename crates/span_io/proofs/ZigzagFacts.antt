-- What zigzag keeps: each number has one, and each is that of one number.
use Rattle.std.proofs.Common.{◌≡◌, ◌<◌, ◌+◌, ◌*◌, ◌/◌, ◌%◌, ◌^◌, ◌⊎◌, inl, inr, ℕ, ℤ, pos, negsuc, List, Result, Ok, Err, IfOk, FitsSigned, refl, ap, sym, ◌∙◌, arith}
use Rattle.std.proofs.lemmas.Bool.{cases_lt}
use Rattle.std.specs.Int.{w64}
use Rattle.span_io.specs.declared.cursor.Lack.{Lack}
use Rattle.span_io.specs.Varint.{varint_at, ◌>>=◌}
use Rattle.span_io.specs.Zigzag.{zigzag, unzigzag, BeginsZigzag, zigzag_at}
use Rattle.span_io.specs.Walks.{Gives}
use Rattle.span_io.proofs.VarintFacts.{begins_read, read_begins}

pub unzigzag_even : (n half : ℕ) → n ≡ 2 * half → unzigzag n ≡ pos half
unzigzag_even n half e =
    let even : n % 2 ≡ 0 = omega (arith, e) in
    let is : n / 2 ≡ half = omega (arith, e) in
    rw (even, is) refl

pub unzigzag_odd : (n half : ℕ) → n ≡ 2 * half + 1 → unzigzag n ≡ negsuc half
unzigzag_odd n half e =
    let odd : n % 2 ≡ 1 = omega (arith, e) in
    let is : n / 2 ≡ half = omega (arith, e) in
    rw (odd, is) refl

pub zigzag_back : (z : ℤ) → unzigzag (zigzag z) ≡ z
zigzag_back (pos n) = unzigzag_even (2 * n) n refl
zigzag_back (negsuc n) = unzigzag_odd (2 * n + 1) n refl

-- a number is even or odd
halves : (n : ℕ) → (n ≡ 2 * (n / 2)) ⊎ (n ≡ 2 * (n / 2) + 1)
halves n = elim (cases_lt (n % 2) 1) [
  | inl even ↦ inl (omega (arith, even))
  | inr odd ↦ inr (omega (arith, odd))
]

pub unzigzag_back : (n : ℕ) → zigzag (unzigzag n) ≡ n
unzigzag_back n = elim (halves n) [
  | inl even ↦ ap zigzag (unzigzag_even n (n / 2) even) ∙ sym even
  | inr odd ↦ ap zigzag (unzigzag_odd n (n / 2) odd) ∙ sym odd
]

pub zigzag_small : (z : ℤ) → FitsSigned w64 z → zigzag z < 2 ^ 64
zigzag_small (pos n) fits = omega (arith, fits)
zigzag_small (negsuc n) fits = omega (arith, fits)

-- ---- reading

pub zigzag_read : (z : ℤ) (bytes rest : List ℕ) → BeginsZigzag z bytes rest → zigzag_at bytes ≡ Ok (z, rest)
unfolding zigzag_at
zigzag_read z bytes rest h = rw (begins_read (zigzag z) bytes rest h) (ap (λ y. Ok (y, rest)) (zigzag_back z))

same_parts : {a b : ℤ} {x y : List ℕ} → ◌≡◌ {A = Result (ℤ × List ℕ) Lack} (Ok (a, x)) (Ok (b, y)) → (a ≡ b) × (x ≡ y)
same_parts {a} {b} {x} {y} e =
    let p : ◌≡◌ {A = ℤ × List ℕ} (a, x) (b, y) = cc in
    (ap (λ (q : ℤ × List ℕ). q.0) p, ap (λ (q : ℤ × List ℕ). q.1) p)

abbrev signed : ℕ × List ℕ → Result (ℤ × List ℕ) Lack
signed read = Ok (unzigzag read.0, read.1)

found_in : (z : ℤ) (bytes rest : List ℕ) (r : Result (ℕ × List ℕ) Lack) → varint_at bytes ≡ r → (r >>= signed) ≡ Ok (z, rest) → BeginsZigzag z bytes rest
found_in z bytes rest (Ok read) e h =
    let same = same_parts h in
    let number : read.0 ≡ zigzag z = sym (unzigzag_back read.0) ∙ ap zigzag same.0 in
    read_begins (zigzag z) bytes rest (e ∙ ap (λ n. Ok (n, read.1)) number ∙ ap (λ l. Ok (zigzag z, l)) same.1)
found_in z bytes rest (Err lack) e h = absurd cc

pub zigzag_found : (z : ℤ) (bytes rest : List ℕ) → zigzag_at bytes ≡ Ok (z, rest) → BeginsZigzag z bytes rest
unfolding zigzag_at
zigzag_found z bytes rest e = found_in z bytes rest (varint_at bytes) refl e

-- what an answer says that is what reading the old bytes gives
pub record ReadingZigzag (result : Result ℤ Lack) (old new : List ℕ) : Type 0 where
  pub found : IfOk result (λ z. BeginsZigzag z old new)
  pub only : (z : ℤ) (rest : List ℕ) → BeginsZigzag z old rest → (result ≡ Ok z) × (new ≡ rest)

pub reading_zigzag : (result : Result ℤ Lack) (old new : List ℕ) → Gives result new (zigzag_at old) → ReadingZigzag result old new
reading_zigzag (Ok y) old new e = record {
  found = zigzag_found y old new e;
  only = λ z rest begins. let p = same_parts (sym e ∙ zigzag_read z old rest begins) in (ap (λ k. Ok k) p.0, p.1);
}
reading_zigzag (Err lack) old new e = record {
  found = tt;
  only = λ z rest begins. let read = zigzag_read z old rest begins in absurd cc;
}

-- by a varint that was read, or wasn't
pub given_number : (n : ℕ) (old new : List ℕ) → varint_at old ≡ Ok (n, new) → zigzag_at old ≡ Ok (unzigzag n, new)
unfolding zigzag_at
given_number n old new e = rw e refl

pub given_lack : (lack : Lack) (old : List ℕ) → varint_at old ≡ Err lack → zigzag_at old ≡ Err lack
unfolding zigzag_at
given_lack lack old e = rw e refl
