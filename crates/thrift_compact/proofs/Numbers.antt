-- What numbers give, by what their bytes and varints give.
use Rattle.std.proofs.Common.{◌≡◌, ◌≤◌, ◌<◌, ◌≤ℤ◌, ◌<ℤ◌, int_lt, ◌∷◌, ℕ, ℤ, pos, negsuc, Option, true, false, List, [], length, take, drop, reverse, Ok, Err, refl, arith}
use Rattle.std.proofs.lemmas.Bool.{lt-ltb, le-ltb}
use Rattle.std.proofs.lemmas.Int.{ints}
use Rattle.span_io.specs.declared.cause.Cause.{Cause}
use Rattle.span_io.specs.declared.cause.Cause.TheVariants as causes
use Rattle.span_io.specs.declared.cursor.Lack.{Lack}
use Rattle.span_io.specs.Varint.{varint_at}
use Rattle.span_io.specs.Zigzag.{zigzag_at}
use Rattle.thrift_core.specs.Reading.{unless}
use Rattle.thrift_spellings.specs.CompactReading.{lack_cause, told, byte_at, is_signed, signed_at, why_size, compact_size_at, eight_at}

-- ---- bytes

pub byte_read : (A : Type 0) (value : ℕ → A) (text : List ℕ) (b : ℕ) (rest : List ℕ) → text ≡ b ∷ rest → byte_at value text ≡ Ok (value b, rest)
byte_read A value text b rest e = rw e refl

pub byte_short : (A : Type 0) (value : ℕ → A) (text : List ℕ) → length text < 1 → byte_at value text ≡ Err causes.Truncated
byte_short A value [] less = refl
byte_short A value (b ∷ rest) less = absurd (omega (arith, less))

pub ruleset of_byte = (byte_read, byte_short)

pub eight_read : (text : List ℕ) → 8 ≤ length text → eight_at text ≡ Ok (reverse (take 8 text), drop 8 text)
eight_read text fits = rw (le-ltb (length text) 8 fits) refl

pub eight_short : (text : List ℕ) → length text < 8 → eight_at text ≡ Err causes.Truncated
eight_short text less = rw (lt-ltb (length text) 8 less) refl

pub ruleset of_eight = (eight_read, eight_short)

-- ---- numbers that have a sign

pub long_read : (text rest : List ℕ) (z : ℤ) → zigzag_at text ≡ Ok (z, rest) → told (zigzag_at text) ≡ Ok (z, rest)
long_read text rest z e = rw e refl

pub long_lacks : (text : List ℕ) (lack : Lack) → zigzag_at text ≡ Err lack → told (zigzag_at text) ≡ Err (lack_cause lack)
long_lacks text lack e = rw e refl

pub ruleset of_long = (long_read, long_lacks)

pub short_below : (z : ℤ) → int_lt z (negsuc 32767) ≡ true → is_signed 15 z ≡ false
short_below z low = grind (arith, ints)

pub short_above : (z : ℤ) → int_lt (pos 32767) z ≡ true → is_signed 15 z ≡ false
short_above z high = grind (arith, ints)

pub is_short : (z : ℤ) → negsuc 32767 ≤ℤ z → z ≤ℤ pos 32767 → is_signed 15 z ≡ true
is_short z low high = grind (arith, ints)

pub no_short : (z : ℤ) → z <ℤ negsuc 32767 → is_signed 15 z ≡ false
no_short z low = grind (arith, ints)

pub no_short_above : (z : ℤ) → pos 32767 <ℤ z → is_signed 15 z ≡ false
no_short_above z high = grind (arith, ints)

pub is_int : (z : ℤ) → negsuc 2147483647 ≤ℤ z → z ≤ℤ pos 2147483647 → is_signed 31 z ≡ true
is_int z low high = grind (arith, ints)

pub no_int : (z : ℤ) → z <ℤ negsuc 2147483647 → is_signed 31 z ≡ false
no_int z low = grind (arith, ints)

pub no_int_above : (z : ℤ) → pos 2147483647 <ℤ z → is_signed 31 z ≡ false
no_int_above z high = grind (arith, ints)

pub signed_read : (many : ℕ) (outside : Cause) (text rest : List ℕ) (z : ℤ) → told (zigzag_at text) ≡ Ok (z, rest) → is_signed many z ≡ true → signed_at many outside text ≡ Ok (z, rest)
unfolding signed_at
signed_read many outside text rest z e inside = rw (e, inside) refl

pub signed_outside : (many : ℕ) (outside : Cause) (text rest : List ℕ) (z : ℤ) → told (zigzag_at text) ≡ Ok (z, rest) → is_signed many z ≡ false → signed_at many outside text ≡ Err outside
unfolding signed_at
signed_outside many outside text rest z e out = rw (e, out) refl

pub signed_refused : (many : ℕ) (outside : Cause) (text : List ℕ) (cause : Cause) → told (zigzag_at text) ≡ Err cause → signed_at many outside text ≡ Err cause
unfolding signed_at
signed_refused many outside text cause e = rw e refl

pub ruleset of_signed = (is_short, no_short, no_short_above, is_int, no_int, no_int_above, signed_read, signed_outside, signed_refused)

-- ---- sizes

pub size_read : (why : Option Cause) (text rest : List ℕ) (size n : ℕ) → varint_at text ≡ Ok (size, rest) → unless (why_size why size) size ≡ Ok n → compact_size_at why text ≡ Ok (n, rest)
unfolding compact_size_at
size_read why text rest size n e given = rw (e, given) refl

pub size_refused : (why : Option Cause) (text rest : List ℕ) (size : ℕ) (cause : Cause) → varint_at text ≡ Ok (size, rest) → unless (why_size why size) size ≡ Err cause → compact_size_at why text ≡ Err cause
unfolding compact_size_at
size_refused why text rest size cause e given = rw (e, given) refl

pub size_lacks : (why : Option Cause) (text : List ℕ) (lack : Lack) → varint_at text ≡ Err lack → compact_size_at why text ≡ Err (lack_cause lack)
unfolding compact_size_at
size_lacks why text lack e = rw e refl

pub ruleset of_size = (size_read, size_refused, size_lacks)
