-- `uber-trace-id` (Jaeger's propagation format): trace-id ":" span-id ":" parent-span-id ":" flags, where a colon may be escaped as in a URL.
use Rattle.std.specs.Prelude.{◌≡◌, ◌⊎◌, ◌≤◌, ◌/◌, ◌%◌, ◌==◌, if◌then◌else◌, ℕ, List, [], ◌∷◌, ◌++◌, length, All, codes, Option, Some, None}
use Rattle.std.specs.List.{join_with_byte}
use Rattle.std.specs.Char.{IsAsciiHexdigit}
use Rattle.std.specs.Str.Parse.{digits_value}
use Rattle.span_ids.specs.HexTexts.{SpellsInHex}
use Rattle.span_ids.specs.declared.hex_text.IdRule.TheVariants.{Padded}
use Rattle.propagation.specs.Digits.{trace_digits, span_digits}
use Rattle.propagation.specs.declared.ids.Ids.{Ids}
use Rattle.propagation.specs.declared.sampling.Sampling.{Sampling}
use Rattle.propagation.specs.declared.sampling.Sampling.TheVariants.{Absent, No, Yes, Debug}

-- b':'
abbrev pub colon : ℕ
colon = 58

-- a colon, plain or escaped
abbrev pub IsColon : List ℕ → Type 0
IsColon text = (text ≡ codes ":") ⊎ ((text ≡ codes "%3A") ⊎ (text ≡ codes "%3a"))

-- the parts of the text, and the colons between them
pub record UberParts : Type 0 where
  pub trace : List ℕ
  pub first : List ℕ
  pub span : List ℕ
  pub second : List ℕ
  pub parent : List ℕ
  pub third : List ℕ
  pub flags : List ℕ

-- the value that the parts make, with the colons as they were spelled
abbrev pub uber_parts_text : UberParts → List ℕ
uber_parts_text p = p.trace ++ (p.first ++ (p.span ++ (p.second ++ (p.parent ++ (p.third ++ p.flags)))))

-- a parent's digits, of which zeros alone stand for none
abbrev pub IsUberParent : List ℕ → Option ℕ → Type 0
IsUberParent text None = (1 ≤ length text) × (length text ≤ 16) × All (λ c. c ≡ 48) text
IsUberParent text (Some id) = SpellsInHex Padded 16 text id

-- one or two digits
abbrev pub IsUberFlags : List ℕ → Type 0
IsUberFlags text = (1 ≤ length text) × (length text ≤ 2) × All IsAsciiHexdigit text

-- bit 1 of the flags is debug, and bit 0 sampled
abbrev pub uber_sampling : ℕ → Sampling
uber_sampling flags = if flags / 2 % 2 == 1 then Debug else (if flags % 2 == 1 then Yes else No)

-- the parts have their digits, and tell these identifiers and this sampling
pub record TellsUber (p : UberParts) (ids : Ids) (sampling : Sampling) : Type 0 where
  pub trace : SpellsInHex Padded 32 p.trace ids.trace
  pub first : IsColon p.first
  pub span : SpellsInHex Padded 16 p.span ids.span
  pub second : IsColon p.second
  pub parent : IsUberParent p.parent ids.parent
  pub third : IsColon p.third
  pub flags : IsUberFlags p.flags
  pub sampled : sampling ≡ uber_sampling (digits_value 16 p.flags)

-- the value is of the form, and tells these identifiers and this sampling
abbrev pub ReadsUber : List ℕ → Ids → Sampling → Type 0
ReadsUber value ids sampling = (p : UberParts) × TellsUber p ids sampling × (value ≡ uber_parts_text p)

-- ---- what is written

-- parent-span-id as it is written: all its digits, or 0 where there is no parent
abbrev pub uber_parent : Option ℕ → List ℕ
uber_parent None = codes "0"
uber_parent (Some id) = span_digits id

-- flags as they are written: 1 is sampled, and 3 sampled and debug
abbrev pub uber_flags : Sampling → List ℕ
uber_flags Absent = codes "0"
uber_flags No = codes "0"
uber_flags Yes = codes "1"
uber_flags Debug = codes "3"

-- the value of `uber-trace-id`: the identifiers in all their digits, plain colons, and the flags
abbrev pub uber_text : Ids → Sampling → List ℕ
uber_text ids sampling =
    join_with_byte colon (trace_digits ids.trace ∷ span_digits ids.span ∷ uber_parent ids.parent ∷ uber_flags sampling ∷ [])

-- what the form holds of a sampling
abbrev pub told_sampling : Sampling → Sampling
told_sampling Absent = No
told_sampling No = No
told_sampling Yes = Yes
told_sampling Debug = Debug
