-- Counts that grow record by record.
use Rattle.std.proofs.Common.{ℕ, ◌+◌, ◌≤◌, List, [], ◌∷◌, arith}
use Rattle.otlp_proto.specs.private.Numbering.{HaveNumbers, GrewWithin}

pub grew_none : (counts : List ℕ) → GrewWithin 0 counts counts
grew_none [] = tt
grew_none (x ∷ counts) = (omega arith, grew_none counts)

grew_more : (passed more size : ℕ) (old between new : List ℕ) → passed + more ≤ size → GrewWithin passed old between → GrewWithin more between new → GrewWithin size old new
grew_more passed more size [] [] [] fits first second = tt
grew_more passed more size [] [] (z ∷ new) fits first second = absurd second
grew_more passed more size [] (y ∷ between) new fits first second = absurd first
grew_more passed more size (x ∷ old) [] new fits first second = absurd first
grew_more passed more size (x ∷ old) (y ∷ between) [] fits first second = absurd second
grew_more passed more size (x ∷ old) (y ∷ between) (z ∷ new) fits first second =
    (omega (arith, fits, first.0, second.0), grew_more passed more size old between new fits first.1 second.1)

have_behind : (passed size whole : ℕ) (old new : List ℕ) → passed + size ≤ whole → HaveNumbers old whole → GrewWithin passed old new → HaveNumbers new size
have_behind passed size whole [] [] fits have grew = tt
have_behind passed size whole [] (y ∷ new) fits have grew = absurd grew
have_behind passed size whole (x ∷ old) [] fits have grew = absurd grew
have_behind passed size whole (x ∷ old) (y ∷ new) fits have grew = (omega (arith, fits, have.0, grew.0), have_behind passed size whole old new fits have.1 grew.1)

-- of so many bytes these are left, and the counts grew within those that were passed
pub record CountsSoFar (whole left : ℕ) (old new : List ℕ) : Type 0 where
  pub passed : ℕ
  pub fits : passed + left ≤ whole
  pub grew : GrewWithin passed old new

pub counts_start : (whole : ℕ) (counts : List ℕ) → CountsSoFar whole whole counts counts
counts_start whole counts = record { passed = 0; fits = omega arith; grew = grew_none counts }

-- one record more
pub counts_more : (whole left size after : ℕ) (first old new : List ℕ) → after + size ≤ left → GrewWithin size old new → CountsSoFar whole left first old → CountsSoFar whole after first new
counts_more whole left size after first old new room grew so_far = record {
  passed = so_far.passed + size;
  fits = omega (arith, so_far.fits, room);
  grew = grew_more so_far.passed size (so_far.passed + size) first old new (omega arith) so_far.grew grew;
}

-- the record at the front adds members that have numbers
pub counts_room : (whole left size : ℕ) (first old : List ℕ) → size ≤ left → HaveNumbers first whole → CountsSoFar whole left first old → HaveNumbers old size
counts_room whole left size first old room have so_far = have_behind so_far.passed size whole first old (omega (arith, so_far.fits, room)) have so_far.grew

pub counts_end : (whole left : ℕ) (first new : List ℕ) → CountsSoFar whole left first new → GrewWithin whole first new
counts_end whole left first new so_far = grew_more so_far.passed 0 whole first new new (omega (arith, so_far.fits)) so_far.grew (grew_none new)
