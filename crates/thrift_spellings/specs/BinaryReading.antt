-- Reading a part as a computation: the word at the front and the bytes after it, or the cause. A size is judged byte by byte, so that
-- the shortest front that is refused decides.
use Rattle.std.specs.Prelude.{ℕ, zero, suc, ℤ, Bool, Option, Some, None, List, [], ◌∷◌, length, take, drop, Result, Ok, Err, nat_lt, if◌then◌else◌}
use Rattle.std.specs.Int.{w8, w16, w32, w64, from_be_bytes}
use Rattle.span_io.specs.declared.cause.Cause.{Cause}
use Rattle.span_io.specs.declared.cause.Cause.TheVariants as causes
use Rattle.thrift_core.specs.declared.field.Field.{Field}
use Rattle.thrift_core.specs.declared.field.ListHead.{ListHead}
use Rattle.thrift_core.specs.declared.field.MapHead.{MapHead}
use Rattle.thrift_core.specs.Parts.{header, truth, byte, short, int, long, eight, size, list_head, map_head}
use Rattle.thrift_core.specs.Levels.{why_none, why_no_pair}
use Rattle.thrift_core.specs.Reading.{ReadingOf, ◌>>=◌, unless, known}
use Rattle.thrift_spellings.specs.BinaryTypeCodes.{binary_kind_of_code}
use Rattle.thrift_spellings.specs.BinarySpelling.{signed, binary_is_true, as_they_are}

-- a word of so many bytes
abbrev pub fixed_at : (A : Type 0) → ℕ → (List ℕ → A) → List ℕ → Result (A × List ℕ) Cause
fixed_at A many value text =
    if nat_lt (length text) many then Err causes.Truncated else Ok (value (take many text), drop many text)

-- ---- sizes

-- why the first byte of a size is refused
abbrev pub why_first : Option Cause → ℕ → Option Cause
why_first why zero = None
why_first (Some cause) (suc b) = Some cause
why_first None (suc b) = if nat_lt (suc b) 128 then None else Some causes.BadSize

-- why a later byte of a size is refused
abbrev pub why_later : Option Cause → ℕ → Option Cause
why_later why zero = None
why_later why (suc b) = why

-- a byte that this judges
abbrev pub judged_at : (ℕ → Option Cause) → List ℕ → Result (ℕ × List ℕ) Cause
judged_at why [] = Err causes.Truncated
judged_at why (b ∷ rest) = unless (why b) (b, rest)

-- a size behind what may have no elements, for this cause
unfoldable pub binary_size_at : Option Cause → List ℕ → Result (ℕ × List ℕ) Cause
binary_size_at why text = do
  a ← judged_at (why_first why) text
  b ← judged_at (why_later why) a.1
  c ← judged_at (why_later why) b.1
  d ← judged_at (why_later why) c.1
  Ok (from_be_bytes w32 (a.0 ∷ b.0 ∷ c.0 ∷ d.0 ∷ []), d.1)

-- ---- heads

-- the head of a field: the code of its type and its id as an i16, or the stop byte 0; `left` levels are left in the struct
unfoldable pub binary_header_at : ℕ → List ℕ → Result (Option Field × List ℕ) Cause
binary_header_at left [] = Err causes.Truncated
binary_header_at left (zero ∷ rest) = Ok (None, rest)
binary_header_at left (suc n ∷ rest) = do
  kind ← known (binary_kind_of_code (suc n))
  stands ← unless (why_none left (Some kind)) kind
  id ← fixed_at ℤ 2 (signed w16) rest
  Ok (Some (record { id = id.0; kind = stands; held = None }), id.1)

-- the head of a list or set: the code of its elements' type, and their number as an i32; a type that can't stand there is
-- refused only where there are elements
unfoldable pub binary_list_at : ℕ → List ℕ → Result (ListHead × List ℕ) Cause
binary_list_at left [] = Err causes.Truncated
binary_list_at left (code ∷ rest) = do
  number ← binary_size_at (why_none left (binary_kind_of_code code)) rest
  Ok (record { element = binary_kind_of_code code; size = number.0 }, number.1)

-- the head of a map: the codes of its keys' and its values' type, and the number of pairs as an i32; types that can't stand
-- there are refused only where there are pairs
unfoldable pub binary_map_at : ℕ → List ℕ → Result (MapHead × List ℕ) Cause
binary_map_at left [] = Err causes.Truncated
binary_map_at left (key ∷ []) = Err causes.Truncated
binary_map_at left (key ∷ value ∷ rest) = do
  number ← binary_size_at (why_no_pair left (binary_kind_of_code key) (binary_kind_of_code value)) rest
  Ok (record { key = binary_kind_of_code key; value = binary_kind_of_code value; size = number.0 }, number.1)

-- how the binary protocol reads each part: a truth value that is held already takes no bytes
abbrev pub binary_reads : ReadingOf
binary_reads (header left last) text = binary_header_at left text
binary_reads (truth (Some held)) text = Ok (held, text)
binary_reads (truth None) text = fixed_at Bool 1 binary_is_true text
binary_reads byte text = fixed_at ℤ 1 (signed w8) text
binary_reads short text = fixed_at ℤ 2 (signed w16) text
binary_reads int text = fixed_at ℤ 4 (signed w32) text
binary_reads long text = fixed_at ℤ 8 (signed w64) text
binary_reads eight text = fixed_at (List ℕ) 8 as_they_are text
binary_reads size text = binary_size_at None text
binary_reads (list_head left) text = binary_list_at left text
binary_reads (map_head left) text = binary_map_at left text
