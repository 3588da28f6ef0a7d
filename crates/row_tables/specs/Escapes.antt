-- The bytes that a text with escapes means.
use Rattle.std.specs.Prelude.{ℕ, zero, suc, Option, Some, None, List, [], ◌∷◌, ◌++◌, ◌+◌, ◌-◌, ◌*◌, ◌==◌, ◌&&◌, nat_le, if◌then◌else◌, option_map}
use Rattle.std.specs.Option.{option_and_then}

-- the number of a hexadecimal digit in lower case
abbrev pub digit_of : ℕ → Option ℕ
digit_of c =
    if nat_le 48 c && nat_le c 57 then Some (c - 48) else if nat_le 97 c && nat_le c 102 then Some (c - 97 + 10) else None

-- the byte that a letter behind a backslash stands for
abbrev pub letter_of : ℕ → Option ℕ
letter_of c = if c == 110 then Some 10 else if c == 114 then Some 13 else if c == 116 then Some 9
    else if c == 48 then Some 0 else if c == 92 then Some 92 else None

-- the byte that digits tell, and how many bytes tell it, with the backslash and the `x` in front
abbrev pub digits_meant : List ℕ → Option (ℕ × ℕ)
digits_meant [] = None
digits_meant (h ∷ []) = None
digits_meant (h ∷ l ∷ text) = option_and_then (λ high. option_map (λ low. (high * 16 + low, 4)) (digit_of l)) (digit_of h)

-- the same behind a backslash
abbrev pub escape_meant : List ℕ → Option (ℕ × ℕ)
escape_meant [] = None
escape_meant (c ∷ text) = if c == 120 then digits_meant text else option_map (λ byte. (byte, 2)) (letter_of c)

-- the byte at the front of a text, and how many bytes tell it
abbrev pub first_meant : List ℕ → Option (ℕ × ℕ)
first_meant [] = None
first_meant (b ∷ text) = if b == 92 then escape_meant text else Some (b, 1)

-- these bytes, and behind them those that a text means behind so many that are passed
abbrev pub with_meant : List ℕ → ℕ → List ℕ → Option (List ℕ)
with_meant bytes passed [] = Some bytes
with_meant bytes (suc passed) (b ∷ text) = with_meant bytes passed text
with_meant bytes zero (b ∷ text) =
    option_and_then (λ first. with_meant (bytes ++ (first.0 ∷ [])) (first.1 - 1) text) (first_meant (b ∷ text))

-- the bytes that a whole text means, unless a backslash stands in it with no escape behind it
abbrev pub meant : List ℕ → Option (List ℕ)
meant text = with_meant [] 0 text
