-- Numbers, enums and bytes in OTLP/JSON (the ProtoJSON format, with the differences that OTLP names). A whole number is a JSON number
-- without point and exponent, or a text: an optional minus and one or more decimal digits. An enum is a number alone, and bytes are a
-- text in standard base64 with padding (RFC 4648, section 4).
use Rattle.std.specs.Prelude.{◌≡◌, ℕ, ◌^◌, ◌<◌, ℤ, pos, negsuc, neg_ℤ, List, [], ◌∷◌, drop, All, Option, Some, None, option_map, option_and_then, nat_lt, if◌then◌else◌}
use Rattle.std.specs.Str.{all_ascii_digits}
use Rattle.std.specs.Str.Parse.{digits_value, starts_with_minus}
use Rattle.base64.specs.Engines.{standard}
use Rattle.base64.specs.GeneralPurpose.{encode_of}
use Rattle.serde_json.specs.Data.{Num, unsigned, negative, float, Data, null, boolean, number, string, array, object}
use Rattle.serde_json.specs.Find.{as_number, as_integer}
use Rattle.span_io.specs.Paths.{Offences, nothing, here, valued}
use Rattle.trace_model.specs.declared.span.Kind.{Kind}
use Rattle.trace_model.specs.declared.span.Code.{Code}
use Rattle.trace_model.specs.OtlpParts.{kind_number, code_number}
use Rattle.json_members.specs.Members.{IsCount, unspelled}

-- ---- whole numbers

-- one or more digits
abbrev pub numeral : List ℕ → Option ℕ
numeral [] = None
numeral (c ∷ cs) = if all_ascii_digits (c ∷ cs) then Some (digits_value 10 (c ∷ cs)) else None

-- the whole number that a text spells: one or more decimal digits, behind a minus or not; leading zeros are let pass
abbrev pub integer_in_text : List ℕ → Option ℤ
integer_in_text text =
    if starts_with_minus text then option_map (λ n. neg_ℤ (pos n)) (numeral (drop 1 text)) else option_map pos (numeral text)

-- the whole number that a JSON number or a text is; nothing else is one
abbrev pub integer_in : Data → Option ℤ
integer_in null = None
integer_in (boolean truth) = None
integer_in (number n) = as_integer n
integer_in (string text) = integer_in_text text
integer_in (array ds) = None
integer_in (object ms) = None

-- the number, if it is below the limit and not negative
abbrev pub unsigned_below : ℕ → ℤ → Option ℕ
unsigned_below limit (pos n) = if nat_lt n limit then Some n else None
unsigned_below limit (negsuc n) = None

-- the number, if it has 64 bits with its sign
abbrev pub signed_fitting : ℤ → Option ℤ
signed_fitting (pos n) = if nat_lt n (2 ^ 63) then Some (pos n) else None
signed_fitting (negsuc n) = if nat_lt n (2 ^ 63) then Some (negsuc n) else None

-- the whole number that stands here, if it is from 0 to below the limit
unfoldable pub unsigned_in : ℕ → Data → Option ℕ
unsigned_in limit d = option_and_then (unsigned_below limit) (integer_in d)

-- the whole number that stands here, if it is a signed one of 64 bits (`int64`)
unfoldable pub signed_in : Data → Option ℤ
signed_in d = option_and_then signed_fitting (integer_in d)

-- BadShape: no whole number, or one out of range
abbrev pub IsJsonUnsigned : ℕ → ℕ → Data → Type 0
IsJsonUnsigned limit n d = unsigned_in limit d ≡ Some n

-- BadShape: no whole number from 0 to below the limit
abbrev pub unsigned_offends : ℕ → Data → Offences
unsigned_offends limit d = valued (λ n. nothing) (unsigned_in limit d)

-- the value is this signed number of 64 bits, as a number or a text (`intValue`)
abbrev pub IsJsonSigned : ℤ → Data → Type 0
IsJsonSigned z d = signed_in d ≡ Some z

-- BadShape: no signed number of 64 bits
abbrev pub signed_offends : Data → Offences
signed_offends d = valued (λ z. nothing) (signed_in d)

-- counts and flags have 32 bits, times 64
abbrev pub IsJsonCount : ℕ → Data → Type 0
IsJsonCount n d = IsJsonUnsigned (2 ^ 32) n d

-- BadShape: no whole number from 0 on that has 32 bits
abbrev pub json_count_offends : Data → Offences
json_count_offends d = unsigned_offends (2 ^ 32) d

-- a time in nanoseconds since 1970, of 64 bits (`fixed64`), as a number or a text
abbrev pub IsJsonTime : ℕ → Data → Type 0
IsJsonTime n d = IsJsonUnsigned (2 ^ 64) n d

-- BadShape: no whole number from 0 on that has 64 bits
abbrev pub json_time_offends : Data → Offences
json_time_offends d = unsigned_offends (2 ^ 64) d

-- ---- enums

-- BadEnum: a whole number that stands in no table from 0 to the last, as a negative one; BadShape: another
abbrev pub enum_number_offends : ℕ → Num → Offences
enum_number_offends last (unsigned n) = here (λ number. (number ≡ 13) × (last < n))
enum_number_offends last (negative z) = here (λ number. number ≡ 13)
enum_number_offends last (float x) = here (λ number. number ≡ 11)

-- BadEnum: a whole number beyond the last of the enum, or a negative one; BadShape: no whole number
abbrev pub enum_offends : ℕ → Data → Offences
enum_offends last d = valued (enum_number_offends last) (as_number d)

-- `Span.SpanKind` by its number, from 0 to 5; a name isn't taken
abbrev pub IsJsonKind : Kind → Data → Type 0
IsJsonKind kind d = IsCount (kind_number kind) d

-- `Status.StatusCode` by its number, from 0 to 2; a name isn't taken
abbrev pub IsJsonCode : Code → Data → Type 0
IsJsonCode code d = IsCount (code_number code) d

-- ---- bytes

-- the text is the standard base64 of these bytes, with padding
abbrev pub SpellsBytes : List ℕ → List ℕ → Type 0
SpellsBytes text held = All (λ b. b < 256) held × (text ≡ encode_of standard held)

-- BadShape: no text, or one that isn't the base64 of any bytes
abbrev pub base64_offends : Data → Offences
base64_offends d = unspelled SpellsBytes 11 d
