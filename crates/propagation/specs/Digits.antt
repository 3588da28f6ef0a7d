-- What the values of headers have in common: the dash between parts, and identifiers in all their digits.
use Rattle.std.specs.Prelude.{ℕ, List}
use Rattle.std.specs.Int.{w64, w128, to_be_bytes}
use Rattle.hex.specs.Hex.{encode_lower}

-- b'-'
abbrev pub dash : ℕ
dash = 45

-- 32 digits in lower case
abbrev pub trace_digits : ℕ → List ℕ
trace_digits id = encode_lower (to_be_bytes w128 id)

-- 16 digits in lower case
abbrev pub span_digits : ℕ → List ℕ
span_digits id = encode_lower (to_be_bytes w64 id)
