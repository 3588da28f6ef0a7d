-- Words of so many bytes, where there are as many and where there are not.
use Rattle.std.proofs.Common.{◌≡◌, ◌≤◌, ◌<◌, ◌∷◌, ℕ, List, [], length, take, drop, Ok, Err, refl, arith}
use Rattle.std.proofs.lemmas.Bool.{lt-ltb, le-ltb}
use Rattle.span_io.specs.declared.cause.Cause.TheVariants as causes
use Rattle.thrift_spellings.specs.BinaryReading.{fixed_at}

pub fixed_short : (A : Type 0) (many : ℕ) (value : List ℕ → A) (text : List ℕ) → length text < many → fixed_at A many value text ≡ Err causes.Truncated
fixed_short A many value text less = rw (lt-ltb (length text) many less) refl

pub fixed_read : (A : Type 0) (many : ℕ) (value : List ℕ → A) (text : List ℕ) → many ≤ length text → fixed_at A many value text ≡ Ok (value (take many text), drop many text)
fixed_read A many value text fits = rw (le-ltb (length text) many fits) refl

pub byte_read : (A : Type 0) (value : List ℕ → A) (text : List ℕ) (b : ℕ) (rest : List ℕ) → text ≡ b ∷ rest → fixed_at A 1 value text ≡ Ok (value (b ∷ []), rest)
byte_read A value text b rest e = rw e (fixed_read A 1 value (b ∷ rest) (omega arith))

pub ruleset of_byte = (byte_read, fixed_short)

pub ruleset of_bytes = (fixed_read, fixed_short)
